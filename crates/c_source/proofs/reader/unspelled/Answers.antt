use Rattle.std.proofs.Common.{subst}
use Rattle.c_lexer.specs.Spells.{IsFaultOf}
use Rattle.c_source.specs.Source.{by_lexer}
use Rattle.c_source.proofs.reader.unspelled.Goals as goal

pub returns-in-Ok-clause-refused : goal.returns-in-Ok-clause-refused
returns-in-Ok-clause-refused c =
    by_lexer c.in-Refused.cause (subst (IsFaultOf c.args.bytes.now) c.in-Refused.is c.requires.refused) c.lexer_number-number.ensures c.in-Ok.ensures
