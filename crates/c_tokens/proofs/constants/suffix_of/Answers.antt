use Rattle.std.proofs.Common.{ap, ◌∙◌}
use Rattle.c_tokens.specs.Tables.{suffix_of, written_so}
use Rattle.c_tokens.proofs.TableLemmas.{suffixes_are}
use Rattle.c_tokens.proofs.constants.suffix_of.Goals as goal

pub returns : goal.returns
unfolding suffix_of
returns c = c.written_so.ensures ∙ ap (λ table. written_so table c.args.text.now) suffixes_are
