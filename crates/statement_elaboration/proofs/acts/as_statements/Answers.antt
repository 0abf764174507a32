use Rattle.std.proofs.Common.{◌∙◌}
use Rattle.statement_elaboration.proofs.Lists.{acts_last}
use Rattle.statement_elaboration.proofs.acts.as_statements.Goals as goal

pub actions-preserved : goal.actions-preserved
actions-preserved c = record {
  same = c.actions.invariant.same ∙ rw (c.in-Some.ensures.items, c.in_ok-new.ensures.ok) (acts_last _ _ _);
}
