use Rattle.uf_abstraction.proofs.FreshAnswers.{kept}
use Rattle.uf_abstraction.proofs.laws.kept.Goals as goal

pub returns : goal.returns
returns c = kept
