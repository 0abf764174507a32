use Rattle.std.proofs.Common.{ap, ◌∙◌}
use Rattle.c_tokens.specs.Tables.{keyword_of, written_so}
use Rattle.c_tokens.proofs.TableLemmas.{keywords_are}
use Rattle.c_tokens.proofs.front.keyword.Goals as goal

pub returns : goal.returns
unfolding keyword_of
returns c = c.written_so.ensures ∙ ap (λ table. written_so table c.args.text.now) keywords_are
