-- The code of expressions (C 6.5): operands from left to right, each into its own slot.
use Rattle.std.specs.Prelude.{ℕ, suc, List, [], ◌∷◌, ◌++◌, length, Option, Some, None, pos}
use Rattle.rvt_num.specs.Wrapping.{wrapped}
use Rattle.rvt_num.specs.declared.kinds.Kind.TheVariants.{I32}
use Rattle.rvt_num.specs.declared.operations.UnOp.TheVariants as U
use Rattle.rvt_tree.specs.declared.expressions.Variable.{Variable}
use Rattle.rvt_tree.specs.declared.types.Pointee.TheVariants as P
use Rattle.rvt_tree.specs.Syntax.{LvalueExpression, identifier, element, member, dereference, subscript, arrow, Expression, constant, null_pointer, value_at, address, decay, cast, plus, minus, complement, negation, binary, equal_pointers, unequal_pointers, pointer_plus, plus_pointer, pointer_minus, logical_and, logical_or, conditional, call, Arguments, no_arguments, argument}
use Rattle.c_code.specs.declared.instructions.Unary.TheVariants as One
use Rattle.c_code.specs.declared.instructions.Binary.TheVariants as Two
use Rattle.c_code.specs.declared.instructions.When.{When}
use Rattle.c_code.specs.declared.instructions.When.TheVariants as W
use Rattle.c_code.specs.declared.instructions.Instruction.{Instruction}
use Rattle.c_code.specs.declared.instructions.Instruction.TheVariants as I

-- ---- jumps

-- instructions that a jump passes over
abbrev pub passing : When → List Instruction → List Instruction
passing when block = I.Jump when (suc (length block)) ∷ block

-- the first block where the value in a slot holds, else the second
abbrev pub choosing : ℕ → List Instruction → List Instruction → List Instruction
choosing slot first second = I.Jump (W.Unless slot) (suc (length (first ++ I.Finish ∷ []))) ∷ (first ++ passing W.Always second)

-- ---- places and values

abbrev pub variable_of : LvalueExpression → Option Variable
variable_of (identifier variable) = Some variable
variable_of (element array index count size) = None
variable_of (member aggregate field cell) = None
variable_of (dereference pointer pointee) = None
variable_of (subscript pointer index pointee size) = None
variable_of (arrow pointer structure field cell) = None

-- the value of a variable is read at once; any other place is found first
abbrev pub reading : Option Variable → ℕ → ℕ → List Instruction → List Instruction
reading (Some variable) slot place found = I.Read variable slot ∷ []
reading None slot place found = found ++ I.Load place slot ∷ []

-- 1 and 0, as an `int`
abbrev pub truth_code : ℕ → ℕ → Instruction
truth_code n slot = I.Constant (wrapped I32 (pos n)) slot

abbrev pub argument_count : Arguments → ℕ
argument_count no_arguments = 0
argument_count (argument e rest) = suc (argument_count rest)

abbrev mutual
  -- the place of an lvalue into a slot for places, with the slots for values from another on
  pub place_code : LvalueExpression → ℕ → ℕ → List Instruction
  place_code (identifier variable) slot place = I.Place variable place ∷ []
  place_code (element array index count size) slot place = place_code array slot place ++ (value_code index slot (suc place) ++ I.Element count size place slot ∷ [])
  place_code (member aggregate field cell) slot place = place_code aggregate slot place ++ I.Member cell place ∷ []
  place_code (dereference pointer pointee) slot place = value_code pointer slot place ++ I.Aim pointee place slot ∷ []
  place_code (subscript pointer index pointee size) slot place =
      value_code pointer slot place ++ (value_code index (suc slot) place ++ I.Binary (Two.Forward size) slot ∷ I.Aim pointee place slot ∷ [])
  place_code (arrow pointer structure field cell) slot place = value_code pointer slot place ++ I.Aim (P.Struct structure) place slot ∷ I.Member cell place ∷ []

  -- `&` of a place
  pub address_code : LvalueExpression → ℕ → ℕ → List Instruction
  address_code (identifier variable) slot place = I.Place variable place ∷ I.Point place slot ∷ []
  address_code (element array index count size) slot place = place_code array slot place ++ (value_code index slot (suc place) ++ I.ElementAddress size place slot ∷ [])
  address_code (member aggregate field cell) slot place = place_code aggregate slot place ++ I.Member cell place ∷ I.Point place slot ∷ []
  address_code (dereference pointer pointee) slot place = value_code pointer slot place
  address_code (subscript pointer index pointee size) slot place = value_code pointer slot place ++ (value_code index (suc slot) place ++ I.Binary (Two.Forward size) slot ∷ [])
  address_code (arrow pointer structure field cell) slot place =
      value_code pointer slot place ++ I.Aim (P.Struct structure) place slot ∷ I.Member cell place ∷ I.Point place slot ∷ []

  -- the value of an expression into a slot
  pub value_code : Expression → ℕ → ℕ → List Instruction
  value_code (constant n) slot place = I.Constant n slot ∷ []
  value_code null_pointer slot place = I.Null slot ∷ []
  value_code (value_at lvalue) slot place = reading (variable_of lvalue) slot place (place_code lvalue slot place)
  value_code (address lvalue) slot place = address_code lvalue slot place
  value_code (decay lvalue) slot place = place_code lvalue slot place ++ I.Point place slot ∷ []
  value_code (cast kind e) slot place = value_code e slot place ++ I.Unary (One.Convert kind) slot ∷ []
  value_code (plus e) slot place = value_code e slot place
  value_code (minus e) slot place = value_code e slot place ++ I.Unary (One.Number U.Minus) slot ∷ []
  value_code (complement e) slot place = value_code e slot place ++ I.Unary (One.Number U.Flip) slot ∷ []
  value_code (negation e) slot place = value_code e slot place ++ I.Unary One.Not slot ∷ []
  value_code (binary op a b) slot place = value_code a slot place ++ (value_code b (suc slot) place ++ I.Binary (Two.Numbers op) slot ∷ [])
  value_code (equal_pointers a b) slot place = value_code a slot place ++ (value_code b (suc slot) place ++ I.Binary Two.SamePointer slot ∷ [])
  value_code (unequal_pointers a b) slot place = value_code a slot place ++ (value_code b (suc slot) place ++ I.Binary Two.OtherPointer slot ∷ [])
  value_code (pointer_plus a b size) slot place = value_code a slot place ++ (value_code b (suc slot) place ++ I.Binary (Two.Forward size) slot ∷ [])
  value_code (plus_pointer a b size) slot place = value_code a slot place ++ (value_code b (suc slot) place ++ I.Binary (Two.ForwardFrom size) slot ∷ [])
  value_code (pointer_minus a b size) slot place = value_code a slot place ++ (value_code b (suc slot) place ++ I.Binary (Two.Backward size) slot ∷ [])
  value_code (logical_and a b) slot place = value_code a slot place ++ choosing slot (value_code b slot place ++ I.Unary One.Truth slot ∷ []) (truth_code 0 slot ∷ [])
  value_code (logical_or a b) slot place = value_code a slot place ++ choosing slot (truth_code 1 slot ∷ []) (value_code b slot place ++ I.Unary One.Truth slot ∷ [])
  value_code (conditional test first second) slot place = value_code test slot place ++ choosing slot (value_code first slot place) (value_code second slot place)
  value_code (call function arguments) slot place = arguments_code arguments slot place ++ I.Call function slot (argument_count arguments) ∷ []

  -- the value of each argument, from a slot on
  pub arguments_code : Arguments → ℕ → ℕ → List Instruction
  arguments_code no_arguments slot place = []
  arguments_code (argument e rest) slot place = value_code e slot place ++ arguments_code rest (suc slot) place
