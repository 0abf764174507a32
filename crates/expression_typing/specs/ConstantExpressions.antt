-- Constant expressions (C 6.6): built of constants and operators, whose value is computed without a trap.
use Rattle.std.specs.Prelude.{Bool, true, false, not, ◌&&◌, if◌then◌else◌, Option, Some, None, option_map, option_and_then, Result, Ok, Err, pos}
use Rattle.rvt_num.specs.Number.{Number}
use Rattle.rvt_num.specs.Wrapping.{wrapped}
use Rattle.rvt_num.specs.Operations.{binary_of, unary_of, converted, truth, int_eq}
use Rattle.rvt_num.specs.declared.kinds.Kind.TheVariants.{I32}
use Rattle.rvt_num.specs.declared.operations.UnOp.TheVariants as U
use Rattle.rvt_num.specs.declared.values.Trap.{Trap}
use Rattle.rvt_tree.specs.declared.places.Place.{Place}
use Rattle.rvt_tree.specs.Syntax.{Expression, Expression as t}
use Rattle.expression_typing.specs.Operands.{Operand, an_integer}
use Rattle.expression_typing.specs.Outcomes.{Checking, broken, wanted, constant_wanted}

-- each operand is a constant, those that are not evaluated too
abbrev pub is_built_of_constants : Expression → Bool
is_built_of_constants (t.constant n) = true
is_built_of_constants (t.cast kind e) = is_built_of_constants e
is_built_of_constants (t.plus e) = is_built_of_constants e
is_built_of_constants (t.minus e) = is_built_of_constants e
is_built_of_constants (t.complement e) = is_built_of_constants e
is_built_of_constants (t.negation e) = is_built_of_constants e
is_built_of_constants (t.binary op a b) = is_built_of_constants a && is_built_of_constants b
is_built_of_constants (t.logical_and a b) = is_built_of_constants a && is_built_of_constants b
is_built_of_constants (t.logical_or a b) = is_built_of_constants a && is_built_of_constants b
is_built_of_constants (t.conditional test a b) = is_built_of_constants test && is_built_of_constants a && is_built_of_constants b
is_built_of_constants _ = false

abbrev pub holds : Number → Bool
holds n = not (int_eq n.value (pos 0))

abbrev pub truth_number : Bool → Number
truth_number b = wrapped I32 (truth b)

abbrev pub unless_trapped : Result Number Trap → Option Number
unless_trapped (Ok n) = Some n
unless_trapped (Err trap) = None

-- the number that it gives; none where that traps
abbrev pub number_given : Expression → Option Number
number_given (t.constant n) = Some n
number_given (t.cast kind e) = option_map (converted kind) (number_given e)
number_given (t.plus e) = number_given e
number_given (t.minus e) = option_map (unary_of U.Minus) (number_given e)
number_given (t.complement e) = option_map (unary_of U.Flip) (number_given e)
number_given (t.negation e) = option_map (λ n. truth_number (not (holds n))) (number_given e)
number_given (t.binary op a b) = option_and_then (λ x. option_and_then (λ y. unless_trapped (binary_of op x y)) (number_given b)) (number_given a)
number_given (t.logical_and a b) =
    option_and_then (λ x. if holds x then option_map (λ y. truth_number (holds y)) (number_given b) else Some (truth_number false)) (number_given a)
number_given (t.logical_or a b) =
    option_and_then (λ x. if holds x then Some (truth_number true) else option_map (λ y. truth_number (holds y)) (number_given b)) (number_given a)
number_given (t.conditional test a b) = option_and_then (λ x. if holds x then number_given a else number_given b) (number_given test)
number_given _ = None

abbrev pub constant_of : Expression → Option Number
constant_of e = if is_built_of_constants e then number_given e else None

-- an integer constant expression, at its first token
abbrev pub integer_constant_of : Place → Operand → Checking Number
integer_constant_of at (an_integer kind value zero_token) = wanted constant_wanted at (constant_of value)
integer_constant_of at _ = broken constant_wanted at
