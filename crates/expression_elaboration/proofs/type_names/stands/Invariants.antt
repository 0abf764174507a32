use Rattle.std.proofs.Common.{length, ◌≡◌}
use Rattle.std.specs.List.{list_any}
use Rattle.expression_elaboration.specs.TypeWords.{is_word}
use Rattle.expression_elaboration.proofs.type_names.stands.Given as goal

abbrev pub invariant-words : goal.invariant-words
invariant-words l = record { so_far : list_any (is_word l.wanted) l.left ≡ list_any (is_word l.wanted) l.fn.words }

abbrev pub decreases-words : goal.decreases-words
decreases-words l = length l.left
