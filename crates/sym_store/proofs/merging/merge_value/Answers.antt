use Rattle.bit_words.proofs.ConvertValues.{AreThere-append}
use Rattle.bit_words.proofs.RippleCarry.{AreThere-later}
use Rattle.sym_store.proofs.MergingSteps.{object_there, cell_there}
use Rattle.sym_store.proofs.merging.merge_value.Goals as goal

pub merge_word-requires-in-Pointer-Pointer-clause-first_is_there :
    goal.merge_word-requires-in-Pointer-Pointer-clause-first_is_there
merge_word-requires-in-Pointer-Pointer-clause-first_is_there c = object_there _ _ _ _ c.in-Pointer-Pointer.is-0 c.requires.first_is_there

pub merge_word-requires-in-Pointer-Pointer-clause-second_is_there :
    goal.merge_word-requires-in-Pointer-Pointer-clause-second_is_there
merge_word-requires-in-Pointer-Pointer-clause-second_is_there c = object_there _ _ _ _ c.in-Pointer-Pointer.is-1 c.requires.second_is_there

pub merge_word-requires-in-Pointer-Pointer-2-clause-first_is_there :
    goal.merge_word-requires-in-Pointer-Pointer-2-clause-first_is_there
merge_word-requires-in-Pointer-Pointer-2-clause-first_is_there c =
    AreThere-later _ _ _ c.in_ok-object-in-Pointer-Pointer.ensures.grows (cell_there _ _ _ _ c.in-Pointer-Pointer.is-0 c.requires.first_is_there)

pub merge_word-requires-in-Pointer-Pointer-2-clause-second_is_there :
    goal.merge_word-requires-in-Pointer-Pointer-2-clause-second_is_there
merge_word-requires-in-Pointer-Pointer-2-clause-second_is_there c =
    AreThere-later _ _ _ c.in_ok-object-in-Pointer-Pointer.ensures.grows (cell_there _ _ _ _ c.in-Pointer-Pointer.is-1 c.requires.second_is_there)

pub returns-in_ok-cell-in-Pointer-Pointer-clause-there : goal.returns-in_ok-cell-in-Pointer-Pointer-clause-there
returns-in_ok-cell-in-Pointer-Pointer-clause-there c =
    AreThere-append _ _ _ (AreThere-later _ _ _ c.in_ok-cell-in-Pointer-Pointer.ensures.grows c.in_ok-object-in-Pointer-Pointer.ensures.there) c.in_ok-cell-in-Pointer-Pointer.ensures.there
