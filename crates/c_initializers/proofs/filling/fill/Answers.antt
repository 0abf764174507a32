use Rattle.std.proofs.Common.{sym, ap, subst, arith}
use Rattle.rvt_tree.specs.Views.{init_view, inits_view}
use Rattle.c_tasks.specs.Tasks.{filling, filling_members, Becomes}
use Rattle.c_tasks.specs.Weights.{initializer_weight}
use Rattle.c_tasks.proofs.Sequences.{becomes}
use Rattle.c_tasks.proofs.ValueForms.{on_ok}
use Rattle.c_initializers.proofs.filling.fill.Goals as goal

pub returns-in-Value-clause-next : goal.returns-in-Value-clause-next
returns-in-Value-clause-next c =
    on_ok c.fill_cell.result (subst (λ x. Becomes (λ program d. filling program d (init_view x) c.args.at c.args.count) c.args.work.now c.fill_cell.new.work) (sym c.in-Value.is)) c.fill_cell.ensures.next

pub returns-in-Value-clause-weight : goal.returns-in-Value-clause-weight
returns-in-Value-clause-weight c =
    on_ok c.fill_cell.result (λ e. omega (arith, e, ap (λ x. initializer_weight (init_view x)) c.in-Value.is)) c.fill_cell.ensures.weight

pub returns-in-Braces-clause-next : goal.returns-in-Braces-clause-next
returns-in-Braces-clause-next c =
    on_ok c.put.result (λ h. becomes (λ program d. filling_members program d (inits_view c.in-Braces.members.value) c.args.at c.args.count) (λ program d. filling program d (init_view c.args.init.now) c.args.at c.args.count) c.args.work.now c.put.new.tasks.items h (λ program d next on s. sym (ap (λ x. filling program d (init_view x) c.args.at c.args.count next on s) c.in-Braces.is))) c.put.ensures.next

pub returns-in-Braces-clause-weight : goal.returns-in-Braces-clause-weight
returns-in-Braces-clause-weight c =
    on_ok c.put.result (λ e. omega (arith, e, ap (λ x. initializer_weight (init_view x)) c.in-Braces.is)) c.put.ensures.weight
