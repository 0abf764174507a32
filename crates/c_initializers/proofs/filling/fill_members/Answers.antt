use Rattle.std.proofs.Common.{sym, ap, subst, arith}
use Rattle.rvt_tree.specs.Views.{inits_view}
use Rattle.c_tasks.specs.Tasks.{filling_members, step, Becomes}
use Rattle.c_tasks.specs.Weights.{members_weight}
use Rattle.c_tasks.specs.declared.tasks.Task.TheVariants as T
use Rattle.c_tasks.proofs.Sequences.{becomes}
use Rattle.c_tasks.proofs.ValueForms.{on_ok}
use Rattle.c_initializers.proofs.filling.fill_members.Goals as goal

pub returns-in-End-clause-next : goal.returns-in-End-clause-next
returns-in-End-clause-next c =
    on_ok c.put.result (λ h. becomes (λ program d. step program d (T.Pad c.args.at c.args.count)) (λ program d. filling_members program d (inits_view c.args.members.now) c.args.at c.args.count) c.args.work.now c.put.new.tasks.items h (λ program d next on s. sym (ap (λ x. filling_members program d (inits_view x) c.args.at c.args.count next on s) c.in-End.is))) c.put.ensures.next

pub returns-in-End-clause-weight : goal.returns-in-End-clause-weight
returns-in-End-clause-weight c =
    on_ok c.put.result (λ e. omega (arith, e, ap (λ x. members_weight (inits_view x)) c.in-End.is)) c.put.ensures.weight

pub returns-in-More-clause-next : goal.returns-in-More-clause-next
returns-in-More-clause-next c =
    on_ok c.fill_first.result (subst (λ x. Becomes (λ program d. filling_members program d (inits_view x) c.args.at c.args.count) c.args.work.now c.fill_first.new.work) (sym c.in-More.is)) c.fill_first.ensures.next

pub returns-in-More-clause-weight : goal.returns-in-More-clause-weight
returns-in-More-clause-weight c =
    on_ok c.fill_first.result (λ e. omega (arith, e, ap (λ x. members_weight (inits_view x)) c.in-More.is)) c.fill_first.ensures.weight
