-- The code of what statements do (C 6.8.3).
use Rattle.std.specs.Prelude.{ℕ, List, [], ◌∷◌, ◌++◌, Option, Some, None}
use Rattle.rvt_tree.specs.declared.expressions.Variable.{Variable}
use Rattle.rvt_tree.specs.Syntax.{Expression, Arguments, Action, evaluate, call_void, discard, discard_void, assign, compound_assign, advance, retreat, step, step_pointer}
use Rattle.c_code.specs.Expressions.{variable_of, argument_count, place_code, value_code, arguments_code}
use Rattle.c_code.specs.declared.instructions.Unary.{Unary}
use Rattle.c_code.specs.declared.instructions.Unary.TheVariants as One
use Rattle.c_code.specs.declared.instructions.Binary.{Binary}
use Rattle.c_code.specs.declared.instructions.Binary.TheVariants as Two
use Rattle.c_code.specs.declared.instructions.Instruction.{Instruction}
use Rattle.c_code.specs.declared.instructions.Instruction.TheVariants as I

-- a value that nobody asks for
abbrev pub discarding : Expression → List Instruction
discarding e = value_code e 0 0 ++ I.Discard 0 ∷ []

abbrev pub calling : ℕ → Arguments → List Instruction
calling function arguments = arguments_code arguments 0 0 ++ I.Call function 0 (argument_count arguments) ∷ I.Discard 0 ∷ []

-- `=`: the place first, where it is no variable
abbrev pub assigning : Option Variable → List Instruction → Expression → List Instruction
assigning (Some variable) found e = value_code e 0 0 ++ I.Write variable 0 ∷ []
assigning None found e = found ++ (value_code e 0 1 ++ I.Store 0 0 ∷ [])

-- what a place holds, then a value, and then what is computed from both into the place
abbrev pub replacing : Option Variable → List Instruction → Expression → Binary → List Instruction
replacing (Some variable) found e op = I.Read variable 0 ∷ (value_code e 1 0 ++ I.Binary op 0 ∷ I.Write variable 0 ∷ [])
replacing None found e op = found ++ I.Fetch 0 0 ∷ (value_code e 1 1 ++ I.Binary op 0 ∷ I.Store 0 0 ∷ [])

-- the same from what it holds alone
abbrev pub changing : Option Variable → List Instruction → Unary → List Instruction
changing (Some variable) found op = I.Change op variable ∷ []
changing None found op = found ++ I.Fetch 0 0 ∷ I.Unary op 0 ∷ I.Store 0 0 ∷ []

abbrev pub act_code : Action → List Instruction
act_code (evaluate e) = discarding e
act_code (call_void function arguments) = calling function arguments
act_code (discard e) = discarding e
act_code (discard_void function arguments) = calling function arguments
act_code (assign lvalue e) = assigning (variable_of lvalue) (place_code lvalue 0 0) e
act_code (compound_assign op lvalue kind e) = replacing (variable_of lvalue) (place_code lvalue 0 0) e (Two.Update op kind)
act_code (advance lvalue e size) = replacing (variable_of lvalue) (place_code lvalue 0 0) e (Two.Forward size)
act_code (retreat lvalue e size) = replacing (variable_of lvalue) (place_code lvalue 0 0) e (Two.Backward size)
act_code (step bump lvalue) = changing (variable_of lvalue) (place_code lvalue 0 0) (One.Bump bump)
act_code (step_pointer bump lvalue size) = changing (variable_of lvalue) (place_code lvalue 0 0) (One.BumpPointer bump size)

abbrev pub acts_code : List Action → List Instruction
acts_code [] = []
acts_code (a ∷ rest) = act_code a ++ acts_code rest
