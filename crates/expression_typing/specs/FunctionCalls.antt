-- `f(a, b)` (C 6.5.2.2).
use Rattle.std.specs.Prelude.{ℕ, suc, List, [], ◌∷◌, length, nat_eq, if◌then◌else◌, Option, Some, None}
use Rattle.rvt_num.specs.declared.kinds.Kind.{Kind}
use Rattle.rvt_tree.specs.declared.places.Place.{Place}
use Rattle.rvt_tree.specs.Syntax.{Expression, call, Arguments as TypedArguments}
use Rattle.c_types.specs.Layout.{Shape}
use Rattle.c_syntax.specs.Syntax.{Arguments, no_arguments, argument}
use Rattle.c_syntax.specs.declared.bases.Word.{Word}
use Rattle.expression_typing.specs.Entities.{Scope, Entity, a_function}
use Rattle.expression_typing.specs.Progress.{with_call}
use Rattle.expression_typing.specs.Operands.{Operand, an_int_value, a_void, value_of}
use Rattle.expression_typing.specs.Conversions.{converted_to}
use Rattle.expression_typing.specs.Outcomes.{Checking, give, broken, and_then, noting, unknown_name, wrong_type, wrong_number_of_arguments}

-- the function that is called
pub record Callee : Type 0 where
  pub function : ℕ
  pub params : List Shape
  pub result : Option Kind

-- a call is noted at its name, before its arguments; in a `sizeof` there is none
abbrev pub call_noted : Scope → Word → ℕ → Checking (Unit {0})
call_noted scope word function =
    if scope.evaluated then noting (with_call (record { function = function; name = word.name; place = word.place })) else give tt

-- a name that stands for this, as the name of what is called
abbrev pub callee : Scope → Word → Option Entity → Checking Callee
callee scope word None = broken (unknown_name word.name) word.place
callee scope word (Some (a_function number params result)) =
    and_then (call_noted scope word number) (λ _. give (record { function = number; params = params; result = result }))
callee scope word (Some _) = broken wrong_type word.place

-- an argument as a value of its parameter's type; of one too many only a value is asked
abbrev pub passed_as : Place → List Shape → Operand → Checking Expression
passed_as at [] (a_void function _) = broken wrong_type at
passed_as at [] operand = give (value_of operand)
passed_as at (type ∷ types) operand = converted_to at type operand

-- the parameters after the first
abbrev pub later : List Shape → List Shape
later [] = []
later (type ∷ types) = types

abbrev pub count : Arguments → ℕ
count no_arguments = 0
count (argument first rest) = suc (count rest)

abbrev pub result_of : Callee → TypedArguments → Operand
result_of callee values = result_as callee.result where
  result_as : Option Kind → Operand
  result_as (Some kind) = an_int_value kind (call callee.function values)
  result_as None = a_void callee.function values

-- after the arguments, their number
abbrev pub called : Place → Callee → ℕ → TypedArguments → Checking Operand
called at callee n values = if nat_eq n (length callee.params) then give (result_of callee values) else broken wrong_number_of_arguments at
