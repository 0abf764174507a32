use Rattle.std.proofs.Common.{◌≡◌, length}
use Rattle.std.specs.List.{list_any}
use Rattle.std.specs.Str.{bytes_eq}
use Rattle.c_lexer.proofs.defines.is_one_of.Given as goal

abbrev pub invariant-words : goal.invariant-words
invariant-words l = list_any (λ word. bytes_eq word.now l.text) l.words ≡ list_any (λ word. bytes_eq word.now l.text) l.initial.words

abbrev pub decreases-words : goal.decreases-words
decreases-words l = length l.words
