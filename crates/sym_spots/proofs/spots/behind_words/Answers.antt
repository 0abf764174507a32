use Rattle.aig_build.proofs.Nodes.{Grows-trans}
use Rattle.bit_words.proofs.RippleCarry.{AreThere-later}
use Rattle.sym_spots.proofs.spots.behind_words.Goals as goal

pub pointed-requires-clause-object_is_there : goal.pointed-requires-clause-object_is_there
pointed-requires-clause-object_is_there c = AreThere-later _ _ _ c.in_ok-null.ensures.grows c.requires.object_is_there

pub pointed-requires-clause-cell_is_there : goal.pointed-requires-clause-cell_is_there
pointed-requires-clause-cell_is_there c = AreThere-later _ _ _ c.in_ok-null.ensures.grows c.requires.cell_is_there

pub indexed-requires-clause-registers_are_there : goal.indexed-requires-clause-registers_are_there
indexed-requires-clause-registers_are_there c = AreThere-later _ _ _ (Grows-trans _ _ _ c.in_ok-null.ensures.grows c.in_ok-first.ensures.grows) c.requires.registers_are_there
