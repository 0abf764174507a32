use Rattle.std.proofs.Common.{sym, ap, ◌∙◌, arith}
use Rattle.rvt_tree.specs.Views.{act_view, acts_view}
use Rattle.c_meaning.specs.Statements.{act, acts}
use Rattle.c_meaning.specs.Runs.{stepping}
use Rattle.c_tasks.specs.Operands.{operands}
use Rattle.c_tasks.specs.Tasks.{acting, acting_all, after}
use Rattle.c_tasks.specs.Weights.{actions_weight}
use Rattle.c_tasks.proofs.Sequences.{one_part, becomes_then}
use Rattle.c_tasks.proofs.ValueForms.{on_ok}
use Rattle.c_tasks.proofs.work.Work.act_all.Goals as goal

pub returns-in-End-clause-next : goal.returns-in-End-clause-next
returns-in-End-clause-next c =
    λ program d s. sym (ap (λ x. acting_all program d (acts_view x) (after program d c.args.self.now.tasks.items) (operands c.args.self.now) s) c.in-End.is)

pub returns-in_ok-put-in-More-clause-next : goal.returns-in_ok-put-in-More-clause-next
returns-in_ok-put-in-More-clause-next c =
    on_ok c.act.result (λ h. becomes_then (λ program d. acting_all program d (acts_view c.in-More.rest.value)) (λ program d. acting program d (act_view c.in-More.act)) (λ program d. acting_all program d (acts_view c.args.acts.now)) c.args.self.now c.act.new.self c.put.new.tasks.items c.in_ok-put-in-More.ensures.next h (λ program d next on s. one_part (act program (stepping program d) (act_view c.in-More.act)) (λ _. acts program (stepping program d) (acts_view c.in-More.rest.value)) (λ _. next on) s ∙ sym (ap (λ x. acting_all program d (acts_view x) next on s) c.in-More.is))) c.act.ensures.next

pub returns-in_ok-put-in-More-clause-weight : goal.returns-in_ok-put-in-More-clause-weight
returns-in_ok-put-in-More-clause-weight c =
    on_ok c.act.result (λ e. omega (arith, e, c.in_ok-put-in-More.ensures.weight, ap (λ x. actions_weight (acts_view x)) c.in-More.is)) c.act.ensures.weight
