use Rattle.std.proofs.Common.{ap, ◌∙◌}
use Rattle.c_tokens.specs.Tables.{written_so}
use Rattle.version_map.specs.Words.{kind_of}
use Rattle.version_map.proofs.WordLemmas.{kinds_are}
use Rattle.version_map.proofs.words.kind_of.Goals as goal

pub returns : goal.returns
unfolding kind_of
returns c = c.kind_in.ensures ∙ ap (λ table. written_so table c.args.text.now) kinds_are
