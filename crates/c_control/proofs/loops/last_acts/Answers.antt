use Rattle.std.proofs.Common.{sym, ap, ◌∙◌, arith}
use Rattle.rvt_tree.specs.Views.{acts_view, stmt_view}
use Rattle.c_meaning.specs.Outcomes.{Normally, give, and_then}
use Rattle.c_meaning.specs.Statements.{acts}
use Rattle.c_meaning.specs.Runs.{stepping}
use Rattle.c_tasks.specs.Operands.{with_manner}
use Rattle.c_tasks.specs.Tasks.{acting_all, ending, last_in, step}
use Rattle.c_tasks.specs.Weights.{actions_weight}
use Rattle.c_tasks.specs.declared.tasks.Task.TheVariants as T
use Rattle.c_tasks.proofs.Sequences.{one_part, becomes, becomes_then}
use Rattle.c_tasks.proofs.ValueForms.{on_ok}
use Rattle.c_control.proofs.Turns.{not_for}
use Rattle.c_control.proofs.loops.last_acts.Goals as goal

pub returns-in-For-clause-next : goal.returns-in-For-clause-next
returns-in-For-clause-next c =
    on_ok c.act_all.result (λ h. becomes_then (λ program d. step program d T.Complete) (λ program d. acting_all program d (acts_view c.in-For.last)) (λ program d. ending program d (and_then (acts program (stepping program d) (last_in (stmt_view c.args.s.now))) (λ _. give Normally))) c.args.work.now c.act_all.new.self c.put.new.tasks.items c.in_ok-put.ensures.next h (λ program d next on s. one_part (acts program (stepping program d) (acts_view c.in-For.last)) (λ _. give Normally) (λ manner. next (with_manner manner on)) s ∙ sym (ap (λ x. ending program d (and_then (acts program (stepping program d) (last_in (stmt_view x))) (λ _. give Normally)) next on s) c.in-For.is))) c.act_all.ensures.next

pub returns-in-For-clause-weight : goal.returns-in-For-clause-weight
returns-in-For-clause-weight c =
    on_ok c.act_all.result (λ e. omega (arith, e, c.in_ok-put.ensures.weight, ap (λ x. actions_weight (last_in (stmt_view x))) c.in-For.is)) c.act_all.ensures.weight

pub returns-in_default : goal.returns-in_default
returns-in_default c =
    record {
      next = becomes (λ program d. step program d T.Complete) (λ program d. ending program d (and_then (acts program (stepping program d) (last_in (stmt_view c.args.s.now))) (λ _. give Normally))) c.args.work.now c.put.new.tasks.items c.in_ok-put.ensures.next (λ program d next on s. sym (ap (λ l. ending program d (and_then (acts program (stepping program d) l) (λ _. give Normally)) next on s) (not_for c.args.s.now c.in_default.not-For)));
      weight = omega (arith, c.in_ok-put.ensures.weight);
    }
