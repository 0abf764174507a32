-- What a statement's or a `for` header's expression does (C 6.8.3).
use Rattle.rvt_tree.specs.Syntax.{Action as TypedAction, Action as t}
use Rattle.c_syntax.specs.Syntax.{Action, Action as c}
use Rattle.expression_typing.specs.Entities.{Scope}
use Rattle.expression_typing.specs.Operands.{Operand, a_void, value_of}
use Rattle.expression_typing.specs.Outcomes.{Checking, give, and_then}
use Rattle.expression_typing.specs.FirstTokens.{first_token}
use Rattle.expression_typing.specs.Expressions.{typed, operand}
use Rattle.expression_typing.specs.Assignment.{stepped}
use Rattle.expression_typing.specs.Operators.{set, bump_after, bump_before}

-- a value is formed, a struct's place too; a call of a function without a result stands here alone
abbrev pub evaluation : Operand → TypedAction
evaluation (a_void function arguments) = t.call_void function arguments
evaluation x = t.evaluate (value_of x)

-- the same, cast to `void` (C 6.3.2.2)
abbrev pub discarded : Operand → TypedAction
discarded (a_void function arguments) = t.discard_void function arguments
discarded x = t.discard (value_of x)

-- the place that is written is formed before the right side
abbrev pub typed_action : Scope → Action → Checking TypedAction
typed_action scope (c.evaluate x) = and_then (operand scope x) (λ v. give (evaluation v))
typed_action scope (c.discard at x) = and_then (operand scope x) (λ v. give (discarded v))
typed_action scope (c.assign setting at left right) =
    and_then (typed scope left) (λ x.
    and_then (operand scope right) (λ y.
    set scope.structs setting (record { operator = at; left = first_token left; right = first_token right }) x y))
typed_action scope (c.step_after step at x) = and_then (typed scope x) (stepped scope.structs (bump_after step) at (first_token x))
typed_action scope (c.step_before step at x) = and_then (typed scope x) (stepped scope.structs (bump_before step) at (first_token x))
