use Rattle.function_pairs.proofs.PairLemmas.{pairs_stand}
use Rattle.function_pairs.proofs.laws.pairs_stand.Goals as goal

pub returns : goal.returns
returns c = pairs_stand
