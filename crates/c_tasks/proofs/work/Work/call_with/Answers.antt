use Rattle.std.proofs.Common.{◌∙◌}
use Rattle.rvt_tree.specs.Views.{exprs_view}
use Rattle.c_tasks.proofs.Calls.{calling}
use Rattle.c_tasks.proofs.work.Work.call_with.Goals as goal

pub returns-clause-next : goal.returns-clause-next
returns-clause-next c =
    calling c.args.self.now c.args.function (exprs_view c.args.arguments.now.value) c.len-height.result (c.len-height.ensures ∙ c.args.self.now.values.ok.0) c.put.new.tasks.items c.put-2.new.tasks.items c.in_ok-put.ensures.next c.in_ok-put-2.ensures.next
