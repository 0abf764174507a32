use Rattle.std.proofs.Common.{◌≡◌, ◌++◌, map, take}
use Rattle.c_lexer.specs.Spells.{met_at}
use Rattle.c_lexer.proofs.lexer.add.Given as goal

abbrev pub invariant-pieces : goal.invariant-pieces
invariant-pieces l = l.tokens.items ≡ l.initial.tokens.items ++ map (met_at l.place) (take l.piece-index l.pieces)
