use Rattle.std.proofs.Common.{◌≡◌, length}
use Rattle.std.specs.Prelude.{All}
use Rattle.c_lexer.specs.Defines.{same_texts}
use Rattle.c_lexer.specs.Pieces.{PieceStands}
use Rattle.c_lexer.proofs.defines.same_texts.Given as goal

abbrev pub invariant-pieces : goal.invariant-pieces
invariant-pieces l =
    (same_texts l.bytes l.left l.right ≡ same_texts l.bytes l.initial.left l.initial.right) × All (PieceStands l.bytes) l.left × All (PieceStands l.bytes) l.right

abbrev pub decreases-pieces : goal.decreases-pieces
decreases-pieces l = length l.left
