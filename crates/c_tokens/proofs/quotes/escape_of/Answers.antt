use Rattle.std.proofs.Common.{ap, ◌∙◌}
use Rattle.c_tokens.specs.Tables.{escape_of, written_so}
use Rattle.c_tokens.proofs.TableLemmas.{escapes_are}
use Rattle.c_tokens.proofs.quotes.escape_of.Goals as goal

pub returns : goal.returns
unfolding escape_of
returns c = c.written_so.ensures ∙ ap (λ table. written_so table c.args.escape.now) escapes_are
