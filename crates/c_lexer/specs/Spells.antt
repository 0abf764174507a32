-- What the bytes of a file spell.
use Rattle.std.specs.Prelude.{◌≡◌, ℕ, ◌+◌, ◌<◌, ◌≤◌, Bool, true, false, ◌&&◌, List, [], ◌∷◌, ◌++◌, length, take, drop, map, Option, Some, None, Err}
use Rattle.c_tokens.specs.declared.tokens.TokenClass.{TokenClass}
use Rattle.c_lexer.specs.declared.faults.Cause.{Cause}
use Rattle.c_lexer.specs.declared.faults.Cause.TheVariants.{TooManyTokens}
use Rattle.c_lexer.specs.declared.faults.Fault.{Fault}
use Rattle.c_lexer.specs.declared.faults.Fault.TheVariants.{Refused, Memory}
use Rattle.c_lexer.specs.declared.faults.Wrong.{Wrong}
use Rattle.c_lexer.specs.declared.pieces.Piece.{Piece}
use Rattle.c_lexer.specs.declared.tokens.Place.{Place}
use Rattle.c_lexer.specs.declared.tokens.Token.{Token}
use Rattle.c_lexer.specs.Defines.{Definition, defined_as}
use Rattle.c_lexer.specs.Lines.{line_end, ReadsLine, TakesLine}
use Rattle.c_lexer.specs.Pieces.{text_between, piece_of}
use Rattle.c_lexer.specs.Places.{place_after, ends_blank}
use Rattle.c_lexer.specs.Starts.{begins_byte, StandsFirst, IsWrong}

-- a place in the bytes of a file, and the defines that are in force there
pub record Point : Type 0 where
  pub at : ℕ
  pub defines : List Definition

abbrev pub start : Point
start = record { at = 0; defines = [] }

-- a `#` that is the first byte of its line but for white space
abbrev pub begins_directive : List ℕ → ℕ → Bool
begins_directive bytes at = ends_blank (take at bytes) && begins_byte 35 (drop at bytes)

-- the token of a piece that is met at this place
abbrev pub met_at : Place → Piece → Token
met_at place piece = record { class = piece.class; start = piece.start; end = piece.end; place = place }

-- what a token stands for: the body where its text is defined, else itself
abbrev pub standing_for : Option (List Piece) → List Piece → List Piece
standing_for None pieces = pieces
standing_for (Some body) pieces = body

-- the tokens of what stands between two places
abbrev pub stood : List ℕ → List Definition → Option TokenClass → ℕ → ℕ → List Piece
stood bytes ds None first after = []
stood bytes ds (Some class) first after = standing_for (defined_as ds (text_between bytes first after)) (piece_of (Some class) first after)

-- the same, each met at the first place
abbrev pub given : List ℕ → Point → Option TokenClass → ℕ → List Token
given bytes from class length = map (met_at (place_after (take from.at bytes))) (stood bytes from.defines class from.at (from.at + length))

-- White space, a comment, a token or a directive stands at the point, these tokens come of it, and the next point is behind it.
pub data Steps (bytes : List ℕ) (from : Point) : List Token → Point → Type 0 where
  item : begins_directive bytes from.at ≡ false → (length : ℕ) (class : Option TokenClass) → StandsFirst (drop from.at bytes) length class
      → Steps bytes from (given bytes from class length) (record { at = from.at + length; defines = from.defines })
  directive : begins_directive bytes from.at ≡ true → (later : List Definition) → TakesLine bytes from.at from.defines later
      → Steps bytes from [] (record { at = line_end bytes from.at; defines = later })

-- from one point to the other the bytes spell the tokens
pub data SpellsTo (bytes : List ℕ) (stop : Point) : Point → List Token → Type 0 where
  end : SpellsTo bytes stop stop []
  step : {from : Point} {first later : List Token} (next : Point) → Steps bytes from first next → SpellsTo bytes stop next later → SpellsTo bytes stop from (first ++ later)

-- the bytes of a file spell the tokens
pub record Spells (bytes : List ℕ) (tokens : List Token) : Type 0 where
  pub stop : Point
  pub last : stop.at ≡ length bytes
  pub spelled : SpellsTo bytes stop start tokens

-- the most tokens that a file may have
abbrev pub max_tokens : ℕ
max_tokens = 200000

-- Nothing goes on from the point, where so many tokens came before: what is wrong, and where.
pub data IsStuck (bytes : List ℕ) (from : Point) (count : ℕ) : Place → Cause → Type 0 where
  item : begins_directive bytes from.at ≡ false → (wrong : Wrong) → IsWrong (drop from.at bytes) wrong
      → IsStuck bytes from count (place_after (take (from.at + wrong.offset) bytes)) wrong.cause
  directive : begins_directive bytes from.at ≡ true → (wrong : Wrong) → ReadsLine bytes from.defines from.at (Err wrong)
      → IsStuck bytes from count (place_after (take (from.at + wrong.offset) bytes)) wrong.cause
  many : (first : List Token) (next : Point) → Steps bytes from first next → max_tokens < count + length first
      → IsStuck bytes from count (place_after (take from.at bytes)) TooManyTokens

-- The file is spelled up to a point from which nothing goes on.
pub record IsRefused (bytes : List ℕ) (place : Place) (cause : Cause) : Type 0 where
  pub reached : Point
  pub tokens : List Token
  pub within : reached.at < length bytes
  pub spelled : SpellsTo bytes reached start tokens
  pub few : length tokens ≤ max_tokens
  pub stuck : IsStuck bytes reached (length tokens) place cause

-- the fault is want of memory, or a place and a cause of which this is said
abbrev pub IfRefused : (Place → Cause → Type 0) → Fault → Type 0
IfRefused Says (Refused place cause) = Says place cause
IfRefused Says Memory = Unit {0}

-- the fault is want of memory, or tells the first place that is wrong
abbrev pub IsFaultOf : List ℕ → Fault → Type 0
IsFaultOf bytes = IfRefused (IsRefused bytes)

-- the fault is want of memory, or no other place and cause are told so
abbrev pub IsOnlyFault : List ℕ → Fault → Type 0
IsOnlyFault bytes = IfRefused (λ place cause. (there : Place) (why : Cause) → IsRefused bytes there why → (there ≡ place) × (why ≡ cause))

-- the fault is want of memory, or the bytes spell nothing, or too many tokens
abbrev pub HasNoTokens : List ℕ → Fault → Type 0
HasNoTokens bytes = IfRefused (λ _ _. (tokens : List Token) → Spells bytes tokens → length tokens ≤ max_tokens → ⊥)

-- one step on, by which these tokens become those
pub record Goes (bytes : List ℕ) (from next : Point) (tokens later : List Token) : Type 0 where
  pub first : List Token
  pub steps : Steps bytes from first next
  pub joined : later ≡ tokens ++ first
