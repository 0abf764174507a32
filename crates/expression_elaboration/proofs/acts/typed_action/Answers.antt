use Rattle.std.proofs.Common.{◌≡◌, ◌∙◌, List, ap, sym}
use Rattle.rvt_tree.specs.declared.places.Place.{Place}
use Rattle.rvt_tree.specs.declared.statements.Bump.{Bump}
use Rattle.rvt_tree.specs.Views.{act_view}
use Rattle.c_syntax.specs.declared.operators.Step.{Step}
use Rattle.c_syntax.specs.Syntax.{Expression, Action, step_after, step_before}
use Rattle.c_syntax.specs.Views.{expr_view, act_view as action_view}
use Rattle.expression_typing.specs.Entities.{Scope, Structure}
use Rattle.expression_typing.specs.Progress.{Notes}
use Rattle.expression_typing.specs.Operands.{Operand}
use Rattle.expression_typing.specs.FirstTokens.{first_token}
use Rattle.expression_typing.specs.Assignment.{stepped}
use Rattle.expression_typing.specs.Operators.{bump_after, bump_before}
use Rattle.expression_typing.specs.Outcomes.{Made, go_on}
use Rattle.expression_typing.specs.Expressions.{typed}
use Rattle.expression_typing.specs.Actions.{typed_action}
use Rattle.typing_base.specs.Views.{operand_view, scope_view, notes_view, structures_view}
use Rattle.expression_elaboration.proofs.Results.{gives_at}
use Rattle.expression_elaboration.proofs.acts.typed_action.Goals as goal

steps : (scope : Scope) (e : Expression) (bump own : Bump) (at first : Place) (x : Operand) (n m : Notes) (structs : List Structure)
    → typed scope e n ≡ Made x m → structs ≡ scope.structs → bump ≡ own → first ≡ first_token e
    → go_on (stepped scope.structs own at (first_token e)) (typed scope e n) ≡ stepped structs bump at first x m
steps scope e bump own at first x n m structs x_is structs_is bump_is first_is =
    ap (go_on (stepped scope.structs own at (first_token e))) x_is
    ∙ ap (λ s. stepped s own at (first_token e) x m) (sym structs_is)
    ∙ ap (λ b. stepped structs b at (first_token e) x m) (sym bump_is)
    ∙ ap (λ f. stepped structs bump at f x m) (sym first_is)

after_is : (scope : Scope) (act : Action) (step : Step) (at : Place) (e : Expression) (n : Notes) → act ≡ step_after step at e
    → typed_action scope act n ≡ go_on (stepped scope.structs (bump_after step) at (first_token e)) (typed scope e n)
after_is scope act step at e n is = ap (λ a. typed_action scope a n) is

before_is : (scope : Scope) (act : Action) (step : Step) (at : Place) (e : Expression) (n : Notes) → act ≡ step_before step at e
    → typed_action scope act n ≡ go_on (stepped scope.structs (bump_before step) at (first_token e)) (typed scope e n)
before_is scope act step at e n is = ap (λ a. typed_action scope a n) is

pub returns-in_ok-x-in-StepAfter : goal.returns-in_ok-x-in-StepAfter
returns-in_ok-x-in-StepAfter c =
    gives_at act_view _ (stepped (structures_view c.structs.result.now) c.bump_after.result c.in-StepAfter.at c.first_token.result (operand_view c.in_ok-x-in-StepAfter.x)) c.stepped.result c.typed.new.notes
    (after_is (scope_view c.args.scope) (action_view c.args.act.now) c.in-StepAfter.step c.in-StepAfter.at (expr_view c.in-StepAfter.e) (notes_view c.args.notes.now) (ap action_view c.in-StepAfter.is)
    ∙ steps (scope_view c.args.scope) (expr_view c.in-StepAfter.e) c.bump_after.result (bump_after c.in-StepAfter.step) c.in-StepAfter.at c.first_token.result (operand_view c.in_ok-x-in-StepAfter.x)
    (notes_view c.args.notes.now) (notes_view c.typed.new.notes) (structures_view c.structs.result.now) c.in_ok-x-in-StepAfter.ensures c.structs.ensures c.bump_after.ensures c.first_token.ensures)
    c.stepped.ensures

pub returns-in_ok-x-in-StepBefore : goal.returns-in_ok-x-in-StepBefore
returns-in_ok-x-in-StepBefore c =
    gives_at act_view _ (stepped (structures_view c.structs-in-StepBefore.result.now) c.bump_before.result c.in-StepBefore.at c.first_token-in-StepBefore.result (operand_view c.in_ok-x-in-StepBefore.x))
    c.stepped-in-StepBefore.result c.typed-in-StepBefore.new.notes
    (before_is (scope_view c.args.scope) (action_view c.args.act.now) c.in-StepBefore.step c.in-StepBefore.at (expr_view c.in-StepBefore.e) (notes_view c.args.notes.now) (ap action_view c.in-StepBefore.is)
    ∙ steps (scope_view c.args.scope) (expr_view c.in-StepBefore.e) c.bump_before.result (bump_before c.in-StepBefore.step) c.in-StepBefore.at c.first_token-in-StepBefore.result
    (operand_view c.in_ok-x-in-StepBefore.x) (notes_view c.args.notes.now) (notes_view c.typed-in-StepBefore.new.notes) (structures_view c.structs-in-StepBefore.result.now)
    c.in_ok-x-in-StepBefore.ensures c.structs-in-StepBefore.ensures c.bump_before.ensures c.first_token-in-StepBefore.ensures)
    c.stepped-in-StepBefore.ensures
