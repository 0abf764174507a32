use Rattle.std.proofs.Common.{◌∙◌, arith}
use Rattle.rvt_tree.specs.Views.{exprs_view}
use Rattle.c_tasks.proofs.Calls.{calling_void}
use Rattle.c_tasks.proofs.ValueForms.{on_ok}
use Rattle.c_tasks.proofs.work.Work.call_and_discard.Goals as goal

pub returns-clause-next : goal.returns-clause-next
returns-clause-next c =
    on_ok c.pass.result (λ h. λ program d s. h program d s ∙ calling_void c.args.self.now c.args.function (exprs_view c.args.arguments.now) c.len-height.result (c.len-height.ensures ∙ c.args.self.now.values.ok.0) c.put.new.tasks.items c.put-2.new.tasks.items c.in_ok-put.ensures.next c.in_ok-put-2.ensures.next program d s) c.pass.ensures.next

pub returns-clause-weight : goal.returns-clause-weight
returns-clause-weight c =
    on_ok c.pass.result (λ e. omega (arith, e, c.in_ok-put.ensures.weight, c.in_ok-put-2.ensures.weight)) c.pass.ensures.weight
