use Rattle.function_pairs.proofs.PairLemmas.{pairs_turn}
use Rattle.function_pairs.proofs.laws.pairs_turn.Goals as goal

pub returns : goal.returns
returns c = pairs_turn
