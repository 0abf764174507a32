use Rattle.proof_rules.proofs.Drops.{more_full}
use Rattle.proof_rules.proofs.laws.more_full.Goals as goal

pub returns : goal.returns
returns c = λ joint effects shared small large within p h. more_full joint effects small large within shared p h
