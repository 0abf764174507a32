use Rattle.std.proofs.Common.{sym, ◌∙◌}
use Rattle.sym_store.proofs.MergingSteps.{merged_same, merged_other}
use Rattle.sym_store.proofs.merging.merge_lit.Goals as goal

pub returns-then-eq-clause-built : goal.returns-then-eq-clause-built
returns-then-eq-clause-built c = merged_same _ _ _ _ (sym c.eq.ensures ∙ c.if-eq.true)

pub returns-clause-built : goal.returns-clause-built
returns-clause-built c = merged_other _ _ _ _ _ (sym c.eq.ensures ∙ c.if-eq.false) c.in_ok-lit.ensures.built
