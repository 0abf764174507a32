use Rattle.std.proofs.Common.{◌≡◌, length}
use Rattle.std.specs.List.{list_all}
use Rattle.c_lexer.specs.Defines.{is_right}
use Rattle.c_lexer.proofs.defines.is_closed.Given as goal

abbrev pub invariant-pieces : goal.invariant-pieces
invariant-pieces l = list_all (λ piece. is_right piece.class) l.rest ≡ list_all (λ piece. is_right piece.class) l.pieces

abbrev pub decreases-pieces : goal.decreases-pieces
decreases-pieces l = length l.rest
