use Rattle.std.proofs.Common.{◌∙◌, ap, ◌++◌}
use Rattle.sym_values.specs.Values.{lits_of}
use Rattle.uf_abstraction.proofs.FreshSteps.{lits_step}
use Rattle.uf_abstraction.proofs.copies.key_lits.Goals as goal

pub values-preserved : goal.values-preserved
values-preserved c = lits_step c.args.values.now c.values.value-index _ _ _ c.values-test.true c.values.invariant (c.in_ok-push_lits.ensures ∙ ap (λ x. c.values.lits.items ++ lits_of x) c.value-item.is)
