use Rattle.std.proofs.Common.{◌-◌, length}
use Rattle.c_lexer.proofs.ReadingLemmas.{Stands}
use Rattle.c_lexer.proofs.lexer.lex.Given as goal

abbrev pub invariant-items : goal.invariant-items
invariant-items l = Stands l.bytes l.at l.spot l.defines l.tokens.items

abbrev pub decreases-items : goal.decreases-items
decreases-items l = length l.bytes - l.at
