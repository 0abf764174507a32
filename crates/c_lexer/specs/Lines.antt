-- Directives, each on a line of its own (C 6.10).
use Rattle.std.specs.Prelude.{◌≡◌, ℕ, ◌+◌, ◌<◌, Bool, true, false, ◌&&◌, ◌||◌, ◌==◌, nat_lt, not, if◌then◌else◌, List, [], ◌∷◌, ◌++◌, length, take, drop, fold, codes, Option, Some, None, Result, Ok, Err}
use Rattle.std.specs.List.{prefix_len}
use Rattle.std.specs.Str.{bytes_eq}
use Rattle.c_tokens.specs.declared.tokens.Keyword.{Keyword}
use Rattle.c_tokens.specs.declared.tokens.TokenClass.{TokenClass}
use Rattle.c_tokens.specs.declared.tokens.TokenClass.TheVariants as class
use Rattle.c_tokens.specs.Bytes.{between, is_space, is_digit}
use Rattle.c_lexer.specs.declared.comments.Inside.{Inside}
use Rattle.c_lexer.specs.declared.comments.Inside.TheVariants as i
use Rattle.c_lexer.specs.declared.faults.Cause.{Cause}
use Rattle.c_lexer.specs.declared.faults.Cause.TheVariants.{BadByte, BadDirective, BadDefine}
use Rattle.c_lexer.specs.declared.faults.Wrong.{Wrong}
use Rattle.c_lexer.specs.declared.pieces.Piece.{Piece}
use Rattle.c_lexer.specs.Defines.{Definition, defined_as, is_built_in, is_body, same_texts}
use Rattle.c_lexer.specs.Pieces.{IsCut, text_between, piece_text}
use Rattle.c_lexer.specs.Starts.{line_length}

-- where the line ends on which the byte at this place is
abbrev pub line_end : List ℕ → ℕ → ℕ
line_end bytes at = at + line_length (drop at bytes)

-- the line from there on
abbrev pub line_at : List ℕ → ℕ → List ℕ
line_at bytes at = take (line_length (drop at bytes)) (drop at bytes)

-- ---- comments that a line leaves open

-- what a byte of the line's text leaves one in; no comment begins in quotes (C 6.4.9)
abbrev pub in_text : ℕ → Inside
in_text byte = if byte == 47 then i.Slash else (if byte == 39 || byte == 34 then i.Quote byte else i.Text)

abbrev pub next_inside : Inside → ℕ → Inside
next_inside i.Text byte = in_text byte
next_inside i.Slash byte = if byte == 47 then i.LineComment else (if byte == 42 then i.Comment else in_text byte)
next_inside i.LineComment byte = i.LineComment
next_inside i.Comment byte = if byte == 42 then i.Star else i.Comment
next_inside i.Star byte = if byte == 47 then i.Text else (if byte == 42 then i.Star else i.Comment)
next_inside (i.Quote quote) byte = if byte == quote then i.Text else (if byte == 92 then i.Escape quote else i.Quote quote)
next_inside (i.Escape quote) byte = i.Quote quote

abbrev pub is_open_comment : Inside → Bool
is_open_comment i.Text = false
is_open_comment i.Slash = false
is_open_comment i.LineComment = false
is_open_comment i.Comment = true
is_open_comment i.Star = true
is_open_comment (i.Quote quote) = false
is_open_comment (i.Escape quote) = false

-- a `/*` on the line isn't closed on it
abbrev pub leaves_comment_open : List ℕ → Bool
leaves_comment_open line = is_open_comment (fold next_inside i.Text line)

-- ---- line markers

-- a byte that may stand outside comments
abbrev pub is_file_byte : ℕ → Bool
is_file_byte byte = between 9 13 byte || between 32 126 byte

abbrev pub begins_digit : List ℕ → Bool
begins_digit [] = false
begins_digit (byte ∷ bytes) = is_digit byte

-- behind the `#` a number stands, white space alone between them
abbrev pub is_marker : List ℕ → Bool
is_marker line = begins_digit (drop (prefix_len is_space (drop 1 line)) (drop 1 line))

-- a line marker has no effect, and the bytes in it are those of a file
abbrev pub marker_result : List ℕ → Result (Option Definition) Wrong
marker_result line =
    if nat_lt (prefix_len is_file_byte line) (length line) then Err (record { offset = prefix_len is_file_byte line; cause = BadByte }) else Ok None

-- ---- includes and defines

abbrev pub is_header : List ℕ → Bool
is_header text = bytes_eq text (codes "<stdint.h>") || bytes_eq text (codes "<stdbool.h>") || bytes_eq text (codes "<stddef.h>")

abbrev pub last_end : ℕ → List Piece → ℕ
last_end = fold (λ _ piece. piece.end)

-- What a directive does whose tokens behind `include` are these: nothing, where they are a header's name.
abbrev pub include_result : List ℕ → Bool → List Piece → Result (Option Piece) Cause
include_result bytes whole [] = Err BadDirective
include_result bytes whole (piece ∷ pieces) =
    if whole && is_header (text_between bytes piece.start (last_end piece.end pieces)) then Ok None else Err BadDirective

abbrev pub is_name_class : TokenClass → Bool
is_name_class class.Word = true
is_name_class (class.Keyword keyword) = true
is_name_class _ = false

abbrev pub is_word_class : TokenClass → Bool
is_word_class class.Word = true
is_word_class _ = false

-- something stands between the name and the first token behind it
abbrev pub is_apart : ℕ → List Piece → Bool
is_apart after [] = false
is_apart after (piece ∷ pieces) = nat_lt after piece.start

-- a name may be defined that is no keyword and isn't built in
abbrev pub may_be_defined : List ℕ → Piece → Bool
may_be_defined bytes name = is_word_class name.class && not (is_built_in (piece_text bytes name))

-- a name that may be defined, apart from the body of a define
abbrev pub is_definition : List ℕ → Bool → Piece → List Piece → Bool
is_definition bytes whole name body = may_be_defined bytes name && whole && is_apart name.end body && is_body 0 body

-- a name is defined that wasn't, or again so
abbrev pub defines : List ℕ → Option (List Piece) → Piece → List Piece → Result (Option Piece) Cause
defines bytes None name body = Ok (Some name)
defines bytes (Some old) name body = if same_texts bytes old body then Ok None else Err BadDefine

-- What a directive does whose tokens behind `define` are these: it defines a name, or again so.
abbrev pub define_result : List ℕ → List Definition → Bool → List Piece → Result (Option Piece) Cause
define_result bytes ds whole [] = Err BadDirective
define_result bytes ds whole (name ∷ body) =
    if is_name_class name.class
    then (if is_definition bytes whole name body then defines bytes (defined_as ds (piece_text bytes name)) name body else Err BadDefine)
    else Err BadDirective

-- What a directive of these tokens does: the name that it defines newly, if any. Whole says that the line was cut to its end.
abbrev pub directive_result : List ℕ → List Definition → Bool → List Piece → Result (Option Piece) Cause
directive_result bytes ds whole [] = Err BadDirective
directive_result bytes ds whole (word ∷ pieces) =
    if bytes_eq (piece_text bytes word) (codes "include") then include_result bytes whole pieces
    else (if bytes_eq (piece_text bytes word) (codes "define") then define_result bytes ds whole pieces else Err BadDirective)

-- the same, with the body: the tokens behind `define` and the name
abbrev pub with_body : List ℕ → List Piece → Result (Option Piece) Cause → Result (Option Definition) Wrong
with_body bytes pieces (Ok None) = Ok None
with_body bytes pieces (Ok (Some name)) = Ok (Some (record { name = piece_text bytes name; body = drop 2 pieces }))
with_body bytes pieces (Err cause) = Err (record { offset = 0; cause = cause })

-- What the directive does whose `#` is the byte at this place: what it defines newly, or what is wrong.
pub data ReadsLine (bytes : List ℕ) (ds : List Definition) (at : ℕ) : Result (Option Definition) Wrong → Type 0 where
  marker : is_marker (line_at bytes at) ≡ true → ReadsLine bytes ds at (marker_result (line_at bytes at))
  open_comment : is_marker (line_at bytes at) ≡ false → leaves_comment_open (line_at bytes at) ≡ true
      → ReadsLine bytes ds at (Err (record { offset = 0; cause = BadDirective }))
  directive : is_marker (line_at bytes at) ≡ false → leaves_comment_open (line_at bytes at) ≡ false → (pieces : List Piece) (whole : Bool)
      → IsCut (take (line_end bytes at) bytes) (at + 1) pieces whole → ReadsLine bytes ds at (with_body bytes pieces (directive_result bytes ds whole pieces))

-- the defines in force where this one comes to them
abbrev pub with_define : List Definition → Option Definition → List Definition
with_define ds None = ds
with_define ds (Some d) = ds ++ d ∷ []

-- the directive is taken, and these are the defines in force from the next line on
pub record TakesLine (bytes : List ℕ) (at : ℕ) (ds later : List Definition) : Type 0 where
  pub new : Option Definition
  pub reads : ReadsLine bytes ds at (Ok new)
  pub added : later ≡ with_define ds new
