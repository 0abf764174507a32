use Rattle.std.proofs.Common.{◌≡◌, drop}
use Rattle.c_lexer.specs.Lines.{last_end}
use Rattle.c_lexer.proofs.lines.last_end.Given as goal

abbrev pub invariant-pieces : goal.invariant-pieces
invariant-pieces l = last_end l.«end» (drop l.piece-index l.pieces) ≡ last_end l.initial.«end» l.pieces
