use Rattle.std.proofs.Common.{◌-◌, ◌≤◌, length}
use Rattle.c_lexer.specs.Pieces.{CutsTo}
use Rattle.c_lexer.proofs.pieces.cut_from.Given as goal

abbrev pub invariant-pieces : goal.invariant-pieces
invariant-pieces l = CutsTo l.bytes l.stop l.at l.pieces.items × (l.stop ≤ length l.bytes)

abbrev pub decreases-pieces : goal.decreases-pieces
decreases-pieces l = length l.bytes - l.stop
