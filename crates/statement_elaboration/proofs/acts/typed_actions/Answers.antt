use Rattle.std.proofs.Common.{sym}
use Rattle.statement_elaboration.specs.Views.{block_view}
use Rattle.statement_elaboration.proofs.Lists.{actions_next}
use Rattle.statement_elaboration.proofs.acts.typed_actions.Goals as goal

pub actions-preserved : goal.actions-preserved
actions-preserved c = record {
  same_outcome = rw c.in_ok-put.ensures
      (actions_next _ (block_view c.args.environment.now c.args.block) c.actions.rest.now c.act-item.result c.actions.made.items c.in_ok-act.act _ _
      c.in-len1-up.len_at_least c.actions.invariant.same_outcome (rw (sym c.act-item.is) c.in_ok-act.ensures));
}
