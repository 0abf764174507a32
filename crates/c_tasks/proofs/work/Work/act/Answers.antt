use Rattle.std.proofs.Common.{sym, ap, subst, arith}
use Rattle.rvt_tree.specs.Views.{act_view}
use Rattle.c_tasks.specs.Tasks.{acting, Becomes}
use Rattle.c_tasks.specs.Weights.{action_weight}
use Rattle.c_tasks.proofs.ValueForms.{on_ok}
use Rattle.c_tasks.proofs.work.Work.act.Goals as goal

pub returns-in-Evaluate-clause-next : goal.returns-in-Evaluate-clause-next
returns-in-Evaluate-clause-next c =
    on_ok c.evaluate_and_discard.result (subst (λ x. Becomes (λ program d. acting program d (act_view x)) c.args.self.now c.evaluate_and_discard.new.self) (sym c.in-Evaluate.is)) c.evaluate_and_discard.ensures.next

pub returns-in-Evaluate-clause-weight : goal.returns-in-Evaluate-clause-weight
returns-in-Evaluate-clause-weight c =
    on_ok c.evaluate_and_discard.result (λ e. omega (arith, e, ap (λ x. action_weight (act_view x)) c.in-Evaluate.is)) c.evaluate_and_discard.ensures.weight

pub returns-in-Call-clause-next : goal.returns-in-Call-clause-next
returns-in-Call-clause-next c =
    on_ok c.call_and_discard.result (subst (λ x. Becomes (λ program d. acting program d (act_view x)) c.args.self.now c.call_and_discard.new.self) (sym c.in-Call.is)) c.call_and_discard.ensures.next

pub returns-in-Call-clause-weight : goal.returns-in-Call-clause-weight
returns-in-Call-clause-weight c =
    on_ok c.call_and_discard.result (λ e. omega (arith, e, ap (λ x. action_weight (act_view x)) c.in-Call.is)) c.call_and_discard.ensures.weight

pub returns-in-Discard-clause-next : goal.returns-in-Discard-clause-next
returns-in-Discard-clause-next c =
    on_ok c.evaluate_and_discard-in-Discard.result (subst (λ x. Becomes (λ program d. acting program d (act_view x)) c.args.self.now c.evaluate_and_discard-in-Discard.new.self) (sym c.in-Discard.is)) c.evaluate_and_discard-in-Discard.ensures.next

pub returns-in-Discard-clause-weight : goal.returns-in-Discard-clause-weight
returns-in-Discard-clause-weight c =
    on_ok c.evaluate_and_discard-in-Discard.result (λ e. omega (arith, e, ap (λ x. action_weight (act_view x)) c.in-Discard.is)) c.evaluate_and_discard-in-Discard.ensures.weight

pub returns-in-DiscardCall-clause-next : goal.returns-in-DiscardCall-clause-next
returns-in-DiscardCall-clause-next c =
    on_ok c.call_and_discard-in-DiscardCall.result (subst (λ x. Becomes (λ program d. acting program d (act_view x)) c.args.self.now c.call_and_discard-in-DiscardCall.new.self) (sym c.in-DiscardCall.is)) c.call_and_discard-in-DiscardCall.ensures.next

pub returns-in-DiscardCall-clause-weight : goal.returns-in-DiscardCall-clause-weight
returns-in-DiscardCall-clause-weight c =
    on_ok c.call_and_discard-in-DiscardCall.result (λ e. omega (arith, e, ap (λ x. action_weight (act_view x)) c.in-DiscardCall.is)) c.call_and_discard-in-DiscardCall.ensures.weight

pub returns-in-Assign-clause-next : goal.returns-in-Assign-clause-next
returns-in-Assign-clause-next c =
    on_ok c.assign.result (subst (λ x. Becomes (λ program d. acting program d (act_view x)) c.args.self.now c.assign.new.self) (sym c.in-Assign.is)) c.assign.ensures.next

pub returns-in-Assign-clause-weight : goal.returns-in-Assign-clause-weight
returns-in-Assign-clause-weight c =
    on_ok c.assign.result (λ e. omega (arith, e, ap (λ x. action_weight (act_view x)) c.in-Assign.is)) c.assign.ensures.weight

pub returns-in-Update-clause-next : goal.returns-in-Update-clause-next
returns-in-Update-clause-next c =
    on_ok c.replace.result (subst (λ x. Becomes (λ program d. acting program d (act_view x)) c.args.self.now c.replace.new.self) (sym c.in-Update.is)) c.replace.ensures.next

pub returns-in-Update-clause-weight : goal.returns-in-Update-clause-weight
returns-in-Update-clause-weight c =
    on_ok c.replace.result (λ e. omega (arith, e, ap (λ x. action_weight (act_view x)) c.in-Update.is)) c.replace.ensures.weight

pub returns-in-Advance-clause-next : goal.returns-in-Advance-clause-next
returns-in-Advance-clause-next c =
    on_ok c.replace-in-Advance.result (subst (λ x. Becomes (λ program d. acting program d (act_view x)) c.args.self.now c.replace-in-Advance.new.self) (sym c.in-Advance.is)) c.replace-in-Advance.ensures.next

pub returns-in-Advance-clause-weight : goal.returns-in-Advance-clause-weight
returns-in-Advance-clause-weight c =
    on_ok c.replace-in-Advance.result (λ e. omega (arith, e, ap (λ x. action_weight (act_view x)) c.in-Advance.is)) c.replace-in-Advance.ensures.weight

pub returns-in-Retreat-clause-next : goal.returns-in-Retreat-clause-next
returns-in-Retreat-clause-next c =
    on_ok c.replace-in-Retreat.result (subst (λ x. Becomes (λ program d. acting program d (act_view x)) c.args.self.now c.replace-in-Retreat.new.self) (sym c.in-Retreat.is)) c.replace-in-Retreat.ensures.next

pub returns-in-Retreat-clause-weight : goal.returns-in-Retreat-clause-weight
returns-in-Retreat-clause-weight c =
    on_ok c.replace-in-Retreat.result (λ e. omega (arith, e, ap (λ x. action_weight (act_view x)) c.in-Retreat.is)) c.replace-in-Retreat.ensures.weight

pub returns-in-Bump-clause-next : goal.returns-in-Bump-clause-next
returns-in-Bump-clause-next c =
    on_ok c.replace_alone.result (subst (λ x. Becomes (λ program d. acting program d (act_view x)) c.args.self.now c.replace_alone.new.self) (sym c.in-Bump.is)) c.replace_alone.ensures.next

pub returns-in-Bump-clause-weight : goal.returns-in-Bump-clause-weight
returns-in-Bump-clause-weight c =
    on_ok c.replace_alone.result (λ e. omega (arith, e, ap (λ x. action_weight (act_view x)) c.in-Bump.is)) c.replace_alone.ensures.weight

pub returns-in-BumpPointer-clause-next : goal.returns-in-BumpPointer-clause-next
returns-in-BumpPointer-clause-next c =
    on_ok c.replace_alone-in-BumpPointer.result (subst (λ x. Becomes (λ program d. acting program d (act_view x)) c.args.self.now c.replace_alone-in-BumpPointer.new.self) (sym c.in-BumpPointer.is)) c.replace_alone-in-BumpPointer.ensures.next

pub returns-in-BumpPointer-clause-weight : goal.returns-in-BumpPointer-clause-weight
returns-in-BumpPointer-clause-weight c =
    on_ok c.replace_alone-in-BumpPointer.result (λ e. omega (arith, e, ap (λ x. action_weight (act_view x)) c.in-BumpPointer.is)) c.replace_alone-in-BumpPointer.ensures.weight
