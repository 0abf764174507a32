use Rattle.bit_words.proofs.Multiplication.{AreThere-replicate}
use Rattle.bit_words.proofs.products.row.Goals as goal

pub ripple-requires-clause-b_is_there : goal.ripple-requires-clause-b_is_there
ripple-requires-clause-b_is_there c = rw c.deref.ensures.value (rw c.in_ok-copies.ensures (AreThere-replicate _ _ _ c.requires.lit_is_there))
