use Rattle.bit_words.proofs.RippleCarry.{AreThere-later}
use Rattle.sym_spots.proofs.Loops.{hit_made}
use Rattle.sym_spots.proofs.pointers.hit.Goals as goal

pub word_is-requires-2 : goal.word_is-requires-2
word_is-requires-2 c = record { word_is_there = AreThere-later _ _ _ c.in_ok-in_object.ensures.grows c.requires.cell_is_there }

pub returns-clause-built : goal.returns-clause-built
returns-clause-built c = hit_made _ _ _ _ _ _ _ c.in_ok-in_object.ensures.built c.in_ok-at_cell.ensures.built c.in_ok-lit.ensures.built
