-- A text cut into tokens.
use Rattle.std.specs.Prelude.{◌≡◌, ℕ, ◌+◌, ◌-◌, ◌<◌, ◌≤◌, Bool, ◌==◌, List, [], ◌∷◌, ◌++◌, length, take, drop, Option, Some, None}
use Rattle.c_tokens.specs.declared.tokens.TokenClass.{TokenClass}
use Rattle.c_tokens.specs.Classes.{token_class}
use Rattle.c_lexer.specs.declared.pieces.Piece.{Piece}
use Rattle.c_lexer.specs.Starts.{StandsFirst, NothingFirst}

abbrev pub piece_of : Option TokenClass → ℕ → ℕ → List Piece
piece_of None start after = []
piece_of (Some class) start after = record { class = class; start = start; end = after } ∷ []

-- The bytes from `at` to `stop` are white space, comments, and these tokens.
pub data CutsTo (bytes : List ℕ) (stop : ℕ) : ℕ → List Piece → Type 0 where
  end : CutsTo bytes stop stop []
  more : {at : ℕ} {pieces : List Piece} (length : ℕ) (class : Option TokenClass) → StandsFirst (drop at bytes) length class → CutsTo bytes stop (at + length) pieces
      → CutsTo bytes stop at (piece_of class at (at + length) ++ pieces)

-- The bytes from `at` on are cut into tokens as far as they can be; whole says that this is to their end.
pub record IsCut (bytes : List ℕ) (at : ℕ) (pieces : List Piece) (whole : Bool) : Type 0 where
  pub stop : ℕ
  pub cut : CutsTo bytes stop at pieces
  pub nothing : NothingFirst (drop stop bytes)
  pub reached : whole ≡ (stop == length bytes)

abbrev pub text_between : List ℕ → ℕ → ℕ → List ℕ
text_between bytes start after = take (after - start) (drop start bytes)

abbrev pub piece_text : List ℕ → Piece → List ℕ
piece_text bytes piece = text_between bytes piece.start piece.end

-- the bytes have the text of the piece, which is of its class
pub record PieceStands (bytes : List ℕ) (piece : Piece) : Type 0 where
  pub some : piece.start < piece.end
  pub within : piece.end ≤ length bytes
  pub class : token_class (piece_text bytes piece) ≡ Some piece.class
