use Rattle.function_pairs.proofs.PairLemmas.{pairs_are_named}
use Rattle.function_pairs.proofs.laws.pairs_are_named.Goals as goal

pub returns : goal.returns
returns c = pairs_are_named
