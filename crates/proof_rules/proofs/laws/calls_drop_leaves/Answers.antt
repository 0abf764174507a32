use Rattle.proof_rules.proofs.Drops.{calls_drop_leaves}
use Rattle.proof_rules.proofs.laws.calls_drop_leaves.Goals as goal

pub returns : goal.returns
returns c = λ joint effects shared good before p within holds refuted. calls_drop_leaves joint effects good before p within shared holds refuted
