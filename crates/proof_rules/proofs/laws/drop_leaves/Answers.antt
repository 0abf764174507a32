use Rattle.proof_rules.proofs.Drops.{drop_leaves}
use Rattle.proof_rules.proofs.laws.drop_leaves.Goals as goal

pub returns : goal.returns
returns c = λ joint effects good before p fits pairs within holds refuted. drop_leaves joint effects good before p within fits pairs holds refuted
