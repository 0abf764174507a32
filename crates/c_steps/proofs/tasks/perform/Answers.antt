use Rattle.std.proofs.Common.{refl, sym, ap, ◌∙◌, ◌+◌, arith}
use Rattle.rvt_tree.specs.Views.{lvalue_view, expr_view, exprs_view, acts_view, inits_view, stmts_view}
use Rattle.c_meaning.specs.Stores.{number_of}
use Rattle.c_tasks.specs.Operands.{operands}
use Rattle.c_tasks.specs.Tasks.{evaluating, locating, addressing, passing, acting_all, running_block, filling_members, step, after}
use Rattle.c_tasks.specs.Weights.{task_weight, tasks_weight, expression_weight, lvalue_weight, arguments_weight, members_weight, block_weight, actions_weight}
use Rattle.c_tasks.specs.declared.tasks.Task.TheVariants as T
use Rattle.c_control.specs.Branches.{resting}
use Rattle.c_steps.specs.Steps.{with_left}
use Rattle.c_steps.proofs.Moves.{becomes_with, going, same_weight, less_weight, within_weight, if_ok, light_weight, going_two}
use Rattle.std.proofs.Common.{Some}
use Rattle.c_meaning.specs.Outcomes.{leave}
use Rattle.c_steps.proofs.tasks.perform.Goals as goal

pub returns-in-Evaluate-clause-next : goal.returns-in-Evaluate-clause-next
returns-in-Evaluate-clause-next c =
    going _ c.evaluate.result c.goes_on.result c.goes_on.ensures (λ h d left. h c.args.layouts.now d (with_left c.args.cells.now left) ∙ ap (λ x. evaluating c.args.layouts.now d (expr_view x) (after c.args.layouts.now d c.args.work.now.tasks.items) (operands c.args.work.now) (with_left c.args.cells.now left)) c.deref.ensures ∙ sym (ap (λ t. step c.args.layouts.now d t (after c.args.layouts.now d c.args.work.now.tasks.items) (operands c.args.work.now) (with_left c.args.cells.now left)) c.in-Evaluate.is)) c.evaluate.ensures.next

pub returns-in-Evaluate-clause-weight : goal.returns-in-Evaluate-clause-weight
returns-in-Evaluate-clause-weight c =
    going _ c.evaluate.result c.goes_on.result c.goes_on.ensures (λ h. less_weight _ _ _ _ h (ap task_weight c.in-Evaluate.is ∙ ap (λ x. 1 + expression_weight (expr_view x)) (sym c.deref.ensures))) c.evaluate.ensures.weight

pub returns-in-EvaluateSide-clause-next : goal.returns-in-EvaluateSide-clause-next
returns-in-EvaluateSide-clause-next c =
    going _ c.evaluate-in-EvaluateSide.result c.goes_on-in-EvaluateSide.result c.goes_on-in-EvaluateSide.ensures (λ h d left. h c.args.layouts.now d (with_left c.args.cells.now left) ∙ sym (ap (λ t. step c.args.layouts.now d t (after c.args.layouts.now d c.args.work.now.tasks.items) (operands c.args.work.now) (with_left c.args.cells.now left)) c.in-EvaluateSide.is)) c.evaluate-in-EvaluateSide.ensures.next

pub returns-in-EvaluateSide-clause-weight : goal.returns-in-EvaluateSide-clause-weight
returns-in-EvaluateSide-clause-weight c =
    going _ c.evaluate-in-EvaluateSide.result c.goes_on-in-EvaluateSide.result c.goes_on-in-EvaluateSide.ensures (λ h. less_weight _ _ _ _ h (ap task_weight c.in-EvaluateSide.is)) c.evaluate-in-EvaluateSide.ensures.weight

pub returns-in-Locate-clause-next : goal.returns-in-Locate-clause-next
returns-in-Locate-clause-next c =
    going _ c.locate.result c.goes_on-in-Locate.result c.goes_on-in-Locate.ensures (λ h d left. h c.args.layouts.now d (with_left c.args.cells.now left) ∙ ap (λ x. locating c.args.layouts.now d (lvalue_view x) (after c.args.layouts.now d c.args.work.now.tasks.items) (operands c.args.work.now) (with_left c.args.cells.now left)) c.deref-in-Locate.ensures ∙ sym (ap (λ t. step c.args.layouts.now d t (after c.args.layouts.now d c.args.work.now.tasks.items) (operands c.args.work.now) (with_left c.args.cells.now left)) c.in-Locate.is)) c.locate.ensures.next

pub returns-in-Locate-clause-weight : goal.returns-in-Locate-clause-weight
returns-in-Locate-clause-weight c =
    going _ c.locate.result c.goes_on-in-Locate.result c.goes_on-in-Locate.ensures (λ h. less_weight _ _ _ _ h (ap task_weight c.in-Locate.is ∙ ap (λ x. 1 + lvalue_weight (lvalue_view x)) (sym c.deref-in-Locate.ensures))) c.locate.ensures.weight

pub returns-in-Address-clause-next : goal.returns-in-Address-clause-next
returns-in-Address-clause-next c =
    going _ c.address.result c.goes_on-in-Address.result c.goes_on-in-Address.ensures (λ h d left. h c.args.layouts.now d (with_left c.args.cells.now left) ∙ ap (λ x. addressing c.args.layouts.now d (lvalue_view x) (after c.args.layouts.now d c.args.work.now.tasks.items) (operands c.args.work.now) (with_left c.args.cells.now left)) c.deref-in-Address.ensures ∙ sym (ap (λ t. step c.args.layouts.now d t (after c.args.layouts.now d c.args.work.now.tasks.items) (operands c.args.work.now) (with_left c.args.cells.now left)) c.in-Address.is)) c.address.ensures.next

pub returns-in-Address-clause-weight : goal.returns-in-Address-clause-weight
returns-in-Address-clause-weight c =
    going _ c.address.result c.goes_on-in-Address.result c.goes_on-in-Address.ensures (λ h. less_weight _ _ _ _ h (ap task_weight c.in-Address.is ∙ ap (λ x. 1 + lvalue_weight (lvalue_view x)) (sym c.deref-in-Address.ensures))) c.address.ensures.weight

pub returns-in-Arguments-clause-next : goal.returns-in-Arguments-clause-next
returns-in-Arguments-clause-next c =
    going _ c.pass.result c.goes_on-in-Arguments.result c.goes_on-in-Arguments.ensures (λ h d left. h c.args.layouts.now d (with_left c.args.cells.now left) ∙ ap (λ x. passing c.args.layouts.now d (exprs_view x) (after c.args.layouts.now d c.args.work.now.tasks.items) (operands c.args.work.now) (with_left c.args.cells.now left)) c.deref-in-Arguments.ensures ∙ sym (ap (λ t. step c.args.layouts.now d t (after c.args.layouts.now d c.args.work.now.tasks.items) (operands c.args.work.now) (with_left c.args.cells.now left)) c.in-Arguments.is)) c.pass.ensures.next

pub returns-in-Arguments-clause-weight : goal.returns-in-Arguments-clause-weight
returns-in-Arguments-clause-weight c =
    going _ c.pass.result c.goes_on-in-Arguments.result c.goes_on-in-Arguments.ensures (λ h. less_weight _ _ _ _ h (ap task_weight c.in-Arguments.is ∙ ap (λ x. 1 + arguments_weight (exprs_view x)) (sym c.deref-in-Arguments.ensures))) c.pass.ensures.weight

pub returns-in-Unary-clause-next : goal.returns-in-Unary-clause-next
returns-in-Unary-clause-next c =
    if_ok c.unary.result (λ progress h d left. h d (with_left c.args.cells.now left) ∙ sym (ap (λ t. step c.args.layouts.now d t (after c.args.layouts.now d c.args.work.now.tasks.items) (operands c.args.work.now) (with_left c.args.cells.now left)) c.in-Unary.is)) c.unary.ensures.next

pub returns-in-Unary-clause-weight : goal.returns-in-Unary-clause-weight
returns-in-Unary-clause-weight c =
    if_ok c.unary.result (λ progress h. light_weight _ _ _ _ h (ap task_weight c.in-Unary.is)) c.unary.ensures.light

pub returns-in-Binary-clause-next : goal.returns-in-Binary-clause-next
returns-in-Binary-clause-next c =
    if_ok c.binary.result (λ progress h d left. h d (with_left c.args.cells.now left) ∙ sym (ap (λ t. step c.args.layouts.now d t (after c.args.layouts.now d c.args.work.now.tasks.items) (operands c.args.work.now) (with_left c.args.cells.now left)) c.in-Binary.is)) c.binary.ensures.next

pub returns-in-Binary-clause-weight : goal.returns-in-Binary-clause-weight
returns-in-Binary-clause-weight c =
    if_ok c.binary.result (λ progress h. light_weight _ _ _ _ h (ap task_weight c.in-Binary.is)) c.binary.ensures.light

pub returns-in-And-clause-next : goal.returns-in-And-clause-next
returns-in-And-clause-next c =
    going _ c.both.result c.goes_on-in-And.result c.goes_on-in-And.ensures (λ h d left. h c.args.layouts.now d (with_left c.args.cells.now left) ∙ sym (ap (λ t. step c.args.layouts.now d t (after c.args.layouts.now d c.args.work.now.tasks.items) (operands c.args.work.now) (with_left c.args.cells.now left)) c.in-And.is)) c.both.ensures.next

pub returns-in-And-clause-weight : goal.returns-in-And-clause-weight
returns-in-And-clause-weight c =
    going _ c.both.result c.goes_on-in-And.result c.goes_on-in-And.ensures (λ h. within_weight _ _ _ _ h (ap task_weight c.in-And.is)) c.both.ensures.weight

pub returns-in-Or-clause-next : goal.returns-in-Or-clause-next
returns-in-Or-clause-next c =
    going _ c.either.result c.goes_on-in-Or.result c.goes_on-in-Or.ensures (λ h d left. h c.args.layouts.now d (with_left c.args.cells.now left) ∙ sym (ap (λ t. step c.args.layouts.now d t (after c.args.layouts.now d c.args.work.now.tasks.items) (operands c.args.work.now) (with_left c.args.cells.now left)) c.in-Or.is)) c.either.ensures.next

pub returns-in-Or-clause-weight : goal.returns-in-Or-clause-weight
returns-in-Or-clause-weight c =
    going _ c.either.result c.goes_on-in-Or.result c.goes_on-in-Or.ensures (λ h. within_weight _ _ _ _ h (ap task_weight c.in-Or.is)) c.either.ensures.weight

pub returns-in-Choose-clause-next : goal.returns-in-Choose-clause-next
returns-in-Choose-clause-next c =
    going _ c.choose.result c.goes_on-in-Choose.result c.goes_on-in-Choose.ensures (λ h d left. h c.args.layouts.now d (with_left c.args.cells.now left) ∙ sym (ap (λ t. step c.args.layouts.now d t (after c.args.layouts.now d c.args.work.now.tasks.items) (operands c.args.work.now) (with_left c.args.cells.now left)) c.in-Choose.is)) c.choose.ensures.next

pub returns-in-Choose-clause-weight : goal.returns-in-Choose-clause-weight
returns-in-Choose-clause-weight c =
    going _ c.choose.result c.goes_on-in-Choose.result c.goes_on-in-Choose.ensures (λ h. within_weight _ _ _ _ h (ap task_weight c.in-Choose.is)) c.choose.ensures.weight

pub returns-in-Call-clause-next : goal.returns-in-Call-clause-next
returns-in-Call-clause-next c =
    λ d left. sym (ap (λ t. step c.args.layouts.now d t (after c.args.layouts.now d c.args.work.now.tasks.items) (operands c.args.work.now) (with_left c.args.cells.now left)) c.in-Call.is)

pub returns-in-Call-clause-weight : goal.returns-in-Call-clause-weight
returns-in-Call-clause-weight c =
    omega (arith, ap task_weight c.in-Call.is)

pub returns-in-Load-clause-next : goal.returns-in-Load-clause-next
returns-in-Load-clause-next c =
    going _ c.load.result c.goes_on-in-Load.result c.goes_on-in-Load.ensures (λ h d left. h d left ∙ sym (ap (λ t. step c.args.layouts.now d t (after c.args.layouts.now d c.args.work.now.tasks.items) (operands c.args.work.now) (with_left c.args.cells.now left)) c.in-Load.is)) c.load.ensures.next

pub returns-in-Load-clause-weight : goal.returns-in-Load-clause-weight
returns-in-Load-clause-weight c =
    going _ c.load.result c.goes_on-in-Load.result c.goes_on-in-Load.ensures (λ h. same_weight _ _ _ (ap tasks_weight h) (ap task_weight c.in-Load.is)) c.load.ensures.tasks

pub returns-in-Fetch-clause-next : goal.returns-in-Fetch-clause-next
returns-in-Fetch-clause-next c =
    going _ c.fetch.result c.goes_on-in-Fetch.result c.goes_on-in-Fetch.ensures (λ h d left. h d left ∙ sym (ap (λ t. step c.args.layouts.now d t (after c.args.layouts.now d c.args.work.now.tasks.items) (operands c.args.work.now) (with_left c.args.cells.now left)) c.in-Fetch.is)) c.fetch.ensures.next

pub returns-in-Fetch-clause-weight : goal.returns-in-Fetch-clause-weight
returns-in-Fetch-clause-weight c =
    going _ c.fetch.result c.goes_on-in-Fetch.result c.goes_on-in-Fetch.ensures (λ h. same_weight _ _ _ (ap tasks_weight h) (ap task_weight c.in-Fetch.is)) c.fetch.ensures.tasks

pub returns-in-Store-clause-next : goal.returns-in-Store-clause-next
returns-in-Store-clause-next c =
    λ d left. c.store.ensures.next d left ∙ sym (ap (λ t. step c.args.layouts.now d t (after c.args.layouts.now d c.args.work.now.tasks.items) (operands c.args.work.now) (with_left c.args.cells.now left)) c.in-Store.is)

pub returns-in-Store-clause-weight : goal.returns-in-Store-clause-weight
returns-in-Store-clause-weight c =
    same_weight _ _ _ (ap tasks_weight c.store.ensures.tasks) (ap task_weight c.in-Store.is)

pub returns-in-Point-clause-next : goal.returns-in-Point-clause-next
returns-in-Point-clause-next c =
    going _ c.point.result c.goes_on-in-Point.result c.goes_on-in-Point.ensures (λ h d left. h c.args.layouts.now d (with_left c.args.cells.now left) ∙ sym (ap (λ t. step c.args.layouts.now d t (after c.args.layouts.now d c.args.work.now.tasks.items) (operands c.args.work.now) (with_left c.args.cells.now left)) c.in-Point.is)) c.point.ensures.next

pub returns-in-Point-clause-weight : goal.returns-in-Point-clause-weight
returns-in-Point-clause-weight c =
    going _ c.point.result c.goes_on-in-Point.result c.goes_on-in-Point.ensures (λ h. same_weight _ _ _ (ap tasks_weight h) (ap task_weight c.in-Point.is)) c.point.ensures.tasks

pub returns-in-Aim-clause-next : goal.returns-in-Aim-clause-next
returns-in-Aim-clause-next c =
    if_ok c.aim.result (λ progress h d left. h d (with_left c.args.cells.now left) ∙ sym (ap (λ t. step c.args.layouts.now d t (after c.args.layouts.now d c.args.work.now.tasks.items) (operands c.args.work.now) (with_left c.args.cells.now left)) c.in-Aim.is)) c.aim.ensures.next

pub returns-in-Aim-clause-weight : goal.returns-in-Aim-clause-weight
returns-in-Aim-clause-weight c =
    if_ok c.aim.result (λ progress h. light_weight _ _ _ _ h (ap task_weight c.in-Aim.is)) c.aim.ensures.light

pub returns-in-Member-clause-next : goal.returns-in-Member-clause-next
returns-in-Member-clause-next c =
    going _ c.member.result c.goes_on-in-Member.result c.goes_on-in-Member.ensures (λ h d left. h c.args.layouts.now d (with_left c.args.cells.now left) ∙ sym (ap (λ t. step c.args.layouts.now d t (after c.args.layouts.now d c.args.work.now.tasks.items) (operands c.args.work.now) (with_left c.args.cells.now left)) c.in-Member.is)) c.member.ensures.next

pub returns-in-Member-clause-weight : goal.returns-in-Member-clause-weight
returns-in-Member-clause-weight c =
    going _ c.member.result c.goes_on-in-Member.result c.goes_on-in-Member.ensures (λ h. same_weight _ _ _ (ap tasks_weight h) (ap task_weight c.in-Member.is)) c.member.ensures.tasks

pub returns-in-Element-clause-next : goal.returns-in-Element-clause-next
returns-in-Element-clause-next c =
    if_ok c.element.result (λ progress h d left. h c.args.layouts.now d (with_left c.args.cells.now left) ∙ sym (ap (λ t. step c.args.layouts.now d t (after c.args.layouts.now d c.args.work.now.tasks.items) (operands c.args.work.now) (with_left c.args.cells.now left)) c.in-Element.is)) c.element.ensures.next

pub returns-in-Element-clause-weight : goal.returns-in-Element-clause-weight
returns-in-Element-clause-weight c =
    if_ok c.element.result (λ progress h. light_weight _ _ _ _ h (ap task_weight c.in-Element.is)) c.element.ensures.light

pub returns-in-ElementAddress-clause-next : goal.returns-in-ElementAddress-clause-next
returns-in-ElementAddress-clause-next c =
    if_ok c.element_address.result (λ progress h d left. h d (with_left c.args.cells.now left) ∙ sym (ap (λ t. step c.args.layouts.now d t (after c.args.layouts.now d c.args.work.now.tasks.items) (operands c.args.work.now) (with_left c.args.cells.now left)) c.in-ElementAddress.is)) c.element_address.ensures.next

pub returns-in-ElementAddress-clause-weight : goal.returns-in-ElementAddress-clause-weight
returns-in-ElementAddress-clause-weight c =
    if_ok c.element_address.result (λ progress h. light_weight _ _ _ _ h (ap task_weight c.in-ElementAddress.is)) c.element_address.ensures.light

pub returns-in-Discard-clause-next : goal.returns-in-Discard-clause-next
returns-in-Discard-clause-next c =
    λ d left. becomes_with (λ program d. step program d T.Discard) c.args.work.now c.take_value.new.self _ c.take_value.ensures.tasks c.take_value.ensures.operands (λ program d next s. refl) c.args.layouts.now d (with_left c.args.cells.now left) ∙ sym (ap (λ t. step c.args.layouts.now d t (after c.args.layouts.now d c.args.work.now.tasks.items) (operands c.args.work.now) (with_left c.args.cells.now left)) c.in-Discard.is)

pub returns-in-Discard-clause-weight : goal.returns-in-Discard-clause-weight
returns-in-Discard-clause-weight c =
    same_weight _ _ _ (ap tasks_weight c.take_value.ensures.tasks) (ap task_weight c.in-Discard.is)

pub returns-in-Members-clause-next : goal.returns-in-Members-clause-next
returns-in-Members-clause-next c =
    going _ c.fill_members.result c.goes_on-in-Members.result c.goes_on-in-Members.ensures (λ h d left. h c.args.layouts.now d (with_left c.args.cells.now left) ∙ ap (λ x. filling_members c.args.layouts.now d (inits_view x) c.in-Members.at c.in-Members.count (after c.args.layouts.now d c.args.work.now.tasks.items) (operands c.args.work.now) (with_left c.args.cells.now left)) c.deref-in-Members.ensures ∙ sym (ap (λ t. step c.args.layouts.now d t (after c.args.layouts.now d c.args.work.now.tasks.items) (operands c.args.work.now) (with_left c.args.cells.now left)) c.in-Members.is)) c.fill_members.ensures.next

pub returns-in-Members-clause-weight : goal.returns-in-Members-clause-weight
returns-in-Members-clause-weight c =
    going _ c.fill_members.result c.goes_on-in-Members.result c.goes_on-in-Members.ensures (λ h. less_weight _ _ _ _ h (ap task_weight c.in-Members.is ∙ ap (λ x. 1 + members_weight (inits_view x)) (sym c.deref-in-Members.ensures))) c.fill_members.ensures.weight

pub returns-in-Pad-clause-next : goal.returns-in-Pad-clause-next
returns-in-Pad-clause-next c =
    going_two _ c.pad.result c.goes_on-in-Pad.result c.goes_on-in-Pad.ensures (λ operands_are same_tasks d left. becomes_with (λ program d. step program d (T.Pad c.in-Pad.at c.in-Pad.count)) c.args.work.now c.pad.new.work _ same_tasks operands_are (λ program d next s. refl) c.args.layouts.now d (with_left c.args.cells.now left) ∙ sym (ap (λ t. step c.args.layouts.now d t (after c.args.layouts.now d c.args.work.now.tasks.items) (operands c.args.work.now) (with_left c.args.cells.now left)) c.in-Pad.is)) c.pad.ensures.operands c.pad.ensures.tasks

pub returns-in-Pad-clause-weight : goal.returns-in-Pad-clause-weight
returns-in-Pad-clause-weight c =
    going _ c.pad.result c.goes_on-in-Pad.result c.goes_on-in-Pad.ensures (λ h. same_weight _ _ _ (ap tasks_weight h) (ap task_weight c.in-Pad.is)) c.pad.ensures.tasks

pub returns-in-Initialize-clause-next : goal.returns-in-Initialize-clause-next
returns-in-Initialize-clause-next c =
    going _ c.initialize.result c.goes_on-in-Initialize.result c.goes_on-in-Initialize.ensures (λ h d left. h d left ∙ sym (ap (λ t. step c.args.layouts.now d t (after c.args.layouts.now d c.args.work.now.tasks.items) (operands c.args.work.now) (with_left c.args.cells.now left)) c.in-Initialize.is)) c.initialize.ensures.next

pub returns-in-Initialize-clause-weight : goal.returns-in-Initialize-clause-weight
returns-in-Initialize-clause-weight c =
    going _ c.initialize.result c.goes_on-in-Initialize.result c.goes_on-in-Initialize.ensures (λ h. same_weight _ _ _ (ap tasks_weight h) (ap task_weight c.in-Initialize.is)) c.initialize.ensures.tasks

pub returns-in-Statement-clause-next : goal.returns-in-Statement-clause-next
returns-in-Statement-clause-next c =
    if_ok c.part.result (λ progress h d left. h d left ∙ sym (ap (λ t. step c.args.layouts.now d t (after c.args.layouts.now d c.args.work.now.tasks.items) (operands c.args.work.now) (with_left c.args.cells.now left)) c.in-Statement.is)) c.part.ensures.next

pub returns-in-Statement-clause-weight : goal.returns-in-Statement-clause-weight
returns-in-Statement-clause-weight c =
    if_ok c.part.result (λ progress h. omega (arith, h, ap task_weight c.in-Statement.is)) c.part.ensures.weight

pub returns-in-Block-clause-next : goal.returns-in-Block-clause-next
returns-in-Block-clause-next c =
    going _ c.block.result c.goes_on-in-Block.result c.goes_on-in-Block.ensures (λ h d left. h c.args.layouts.now d (with_left c.args.cells.now left) ∙ ap (λ x. running_block c.args.layouts.now d (stmts_view x) (after c.args.layouts.now d c.args.work.now.tasks.items) (operands c.args.work.now) (with_left c.args.cells.now left)) c.deref-in-Block.ensures ∙ sym (ap (λ t. step c.args.layouts.now d t (after c.args.layouts.now d c.args.work.now.tasks.items) (operands c.args.work.now) (with_left c.args.cells.now left)) c.in-Block.is)) c.block.ensures.next

pub returns-in-Block-clause-weight : goal.returns-in-Block-clause-weight
returns-in-Block-clause-weight c =
    going _ c.block.result c.goes_on-in-Block.result c.goes_on-in-Block.ensures (λ h. less_weight _ _ _ _ h (ap task_weight c.in-Block.is ∙ ap (λ x. 1 + block_weight (stmts_view x)) (sym c.deref-in-Block.ensures))) c.block.ensures.weight

pub returns-in-Rest-clause-next : goal.returns-in-Rest-clause-next
returns-in-Rest-clause-next c =
    going _ c.rest.result c.goes_on-in-Rest.result c.goes_on-in-Rest.ensures (λ h d left. h c.args.layouts.now d (with_left c.args.cells.now left) ∙ ap (λ x. resting c.args.layouts.now d (stmts_view x) (after c.args.layouts.now d c.args.work.now.tasks.items) (operands c.args.work.now) (with_left c.args.cells.now left)) c.deref-in-Rest.ensures ∙ sym (ap (λ t. step c.args.layouts.now d t (after c.args.layouts.now d c.args.work.now.tasks.items) (operands c.args.work.now) (with_left c.args.cells.now left)) c.in-Rest.is)) c.rest.ensures.next

pub returns-in-Rest-clause-weight : goal.returns-in-Rest-clause-weight
returns-in-Rest-clause-weight c =
    going _ c.rest.result c.goes_on-in-Rest.result c.goes_on-in-Rest.ensures (λ h. less_weight _ _ _ _ h (ap task_weight c.in-Rest.is ∙ ap (λ x. 1 + block_weight (stmts_view x)) (sym c.deref-in-Rest.ensures))) c.rest.ensures.weight

pub returns-in-Leave-clause-next : goal.returns-in-Leave-clause-next
returns-in-Leave-clause-next c =
    λ d left. ap (λ cells. after c.args.layouts.now d c.args.work.now.tasks.items (operands c.args.work.now) (with_left cells left)) c.leave_scope.ensures ∙ sym (ap (λ t. step c.args.layouts.now d t (after c.args.layouts.now d c.args.work.now.tasks.items) (operands c.args.work.now) (with_left c.args.cells.now left)) c.in-Leave.is)

pub returns-in-Leave-clause-weight : goal.returns-in-Leave-clause-weight
returns-in-Leave-clause-weight c =
    omega (arith, ap task_weight c.in-Leave.is)

pub returns-in-Branch-clause-next : goal.returns-in-Branch-clause-next
returns-in-Branch-clause-next c =
    going _ c.branch-work.result c.goes_on-in-Branch.result c.goes_on-in-Branch.ensures (λ h d left. h c.args.layouts.now d (with_left c.args.cells.now left) ∙ sym (ap (λ t. step c.args.layouts.now d t (after c.args.layouts.now d c.args.work.now.tasks.items) (operands c.args.work.now) (with_left c.args.cells.now left)) c.in-Branch.is)) c.branch-work.ensures.next

pub returns-in-Branch-clause-weight : goal.returns-in-Branch-clause-weight
returns-in-Branch-clause-weight c =
    going _ c.branch-work.result c.goes_on-in-Branch.result c.goes_on-in-Branch.ensures (λ h. within_weight _ _ _ _ h (ap task_weight c.in-Branch.is)) c.branch-work.ensures.weight

pub returns-in-Select-clause-next : goal.returns-in-Select-clause-next
returns-in-Select-clause-next c =
    going _ c.select.result c.goes_on-in-Select.result c.goes_on-in-Select.ensures (λ h d left. h c.args.layouts.now d (with_left c.args.cells.now left) ∙ sym (ap (λ t. step c.args.layouts.now d t (after c.args.layouts.now d c.args.work.now.tasks.items) (operands c.args.work.now) (with_left c.args.cells.now left)) c.in-Select.is)) c.select.ensures.next

pub returns-in-Select-clause-weight : goal.returns-in-Select-clause-weight
returns-in-Select-clause-weight c =
    going _ c.select.result c.goes_on-in-Select.result c.goes_on-in-Select.ensures (λ h. within_weight _ _ _ _ h (ap task_weight c.in-Select.is)) c.select.ensures.weight

pub returns-in-LeaveSwitch-clause-next : goal.returns-in-LeaveSwitch-clause-next
returns-in-LeaveSwitch-clause-next c =
    λ d left. c.leave_switch.ensures.next c.args.layouts.now d (with_left c.args.cells.now left) ∙ sym (ap (λ t. step c.args.layouts.now d t (after c.args.layouts.now d c.args.work.now.tasks.items) (operands c.args.work.now) (with_left c.args.cells.now left)) c.in-LeaveSwitch.is)

pub returns-in-LeaveSwitch-clause-weight : goal.returns-in-LeaveSwitch-clause-weight
returns-in-LeaveSwitch-clause-weight c =
    same_weight _ _ _ (ap tasks_weight c.leave_switch.ensures.tasks) (ap task_weight c.in-LeaveSwitch.is)

pub returns-in-Acts-clause-next : goal.returns-in-Acts-clause-next
returns-in-Acts-clause-next c =
    going _ c.act_all.result c.goes_on-in-Acts.result c.goes_on-in-Acts.ensures (λ h d left. h c.args.layouts.now d (with_left c.args.cells.now left) ∙ ap (λ x. acting_all c.args.layouts.now d (acts_view x) (after c.args.layouts.now d c.args.work.now.tasks.items) (operands c.args.work.now) (with_left c.args.cells.now left)) c.deref-in-Acts.ensures ∙ sym (ap (λ t. step c.args.layouts.now d t (after c.args.layouts.now d c.args.work.now.tasks.items) (operands c.args.work.now) (with_left c.args.cells.now left)) c.in-Acts.is)) c.act_all.ensures.next

pub returns-in-Acts-clause-weight : goal.returns-in-Acts-clause-weight
returns-in-Acts-clause-weight c =
    going _ c.act_all.result c.goes_on-in-Acts.result c.goes_on-in-Acts.ensures (λ h. less_weight _ _ _ _ h (ap task_weight c.in-Acts.is ∙ ap (λ x. 1 + actions_weight (acts_view x)) (sym c.deref-in-Acts.ensures))) c.act_all.ensures.weight

pub returns-in-Complete-clause-next : goal.returns-in-Complete-clause-next
returns-in-Complete-clause-next c =
    λ d left. becomes_with (λ program d. step program d T.Complete) c.args.work.now c.end.new.self _ c.end.ensures.tasks c.end.ensures.operands (λ program d next s. refl) c.args.layouts.now d (with_left c.args.cells.now left) ∙ sym (ap (λ t. step c.args.layouts.now d t (after c.args.layouts.now d c.args.work.now.tasks.items) (operands c.args.work.now) (with_left c.args.cells.now left)) c.in-Complete.is)

pub returns-in-Complete-clause-weight : goal.returns-in-Complete-clause-weight
returns-in-Complete-clause-weight c =
    same_weight _ _ _ (ap tasks_weight c.end.ensures.tasks) (ap task_weight c.in-Complete.is)

pub returns-in-Return-clause-next : goal.returns-in-Return-clause-next
returns-in-Return-clause-next c =
    λ d left. ap (λ n. leave (Some n) (with_left c.args.cells.now left)) (c.number_of.ensures ∙ ap number_of c.take_value-value.ensures.value) ∙ sym (ap (λ t. step c.args.layouts.now d t (after c.args.layouts.now d c.args.work.now.tasks.items) (operands c.args.work.now) (with_left c.args.cells.now left)) c.in-Return.is)

pub returns-in-Return-clause-weight : goal.returns-in-Return-clause-weight
returns-in-Return-clause-weight c =
    same_weight _ _ _ (ap tasks_weight c.take_value-value.ensures.tasks) (ap task_weight c.in-Return.is)
