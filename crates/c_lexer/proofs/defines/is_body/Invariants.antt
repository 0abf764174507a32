use Rattle.std.proofs.Common.{◌≡◌, ◌+◌, length}
use Rattle.c_lexer.specs.Defines.{is_body}
use Rattle.c_lexer.proofs.defines.is_body.Given as goal

abbrev pub invariant-pieces : goal.invariant-pieces
invariant-pieces l = (is_body l.count l.rest ≡ is_body 0 l.pieces) × (l.count + length l.rest ≡ length l.pieces)

abbrev pub decreases-pieces : goal.decreases-pieces
decreases-pieces l = length l.rest
