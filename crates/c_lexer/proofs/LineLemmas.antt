-- Directives, line by line.
use Rattle.std.proofs.Common.{◌≡◌, ℕ, suc, ◌+◌, ◌-◌, ◌<◌, ◌≤◌, Bool, true, false, cond, ◌&&◌, List, [], ◌∷◌, ◌++◌, length, take, drop, Option, Some, None, Result, Ok, Err, refl, sym, ◌∙◌, ap, subst, arith}
use Rattle.std.specs.Prelude.{All, IfSome, option_map, codes}
use Rattle.std.specs.Borrow.{Bor}
use Rattle.std.specs.Str.{bytes_eq}
use Rattle.std.proofs.lemmas.List.Elements.{All-head, All-tail, All-drop, All-push, All-weaker}
use Rattle.c_tokens.specs.declared.tokens.TokenClass.{TokenClass}
use Rattle.c_lexer.specs.declared.faults.Cause.{Cause}
use Rattle.c_lexer.specs.declared.faults.Cause.TheVariants as c
use Rattle.c_lexer.specs.declared.faults.Wrong.{Wrong}
use Rattle.c_lexer.specs.declared.lines.Stop.{Stop}
use Rattle.c_lexer.specs.declared.lines.Stop.TheVariants as stop
use Rattle.c_lexer.specs.declared.pieces.Piece.{Piece}
use Rattle.c_lexer.specs.Defines.{Definition, defined_as, BodiesStand, same_texts}
use Rattle.c_lexer.specs.Lines.{line_end, line_at, is_marker, leaves_comment_open, marker_result, include_result, define_result, directive_result, defines, is_definition, is_header, is_name_class, last_end, with_body, ReadsLine, marker, open_comment, directive, TakesLine, with_define}
use Rattle.c_lexer.specs.Pieces.{PieceStands, IsCut, text_between, piece_text}
use Rattle.c_lexer.specs.Starts.{line_length}
use Rattle.c_lexer.specs.Stops.{IfWrong}
use Rattle.c_lexer.proofs.DefineLemmas.{body_stands}
use Rattle.c_lexer.proofs.PieceLemmas.{cut_same, cut_stands, stands_in_front}

pub line_is : (bytes : List ℕ) (at after : ℕ) → after ≡ line_end bytes at → take (after - at) (drop at bytes) ≡ line_at bytes at
line_is bytes at after ends =
    let count : after - at ≡ line_length (drop at bytes) = omega (arith, ends) in
    ap (λ k. take k (drop at bytes)) count

pub weaker_wrong : (P Q : Wrong → Type 0) → ((wrong : Wrong) → P wrong → Q wrong) → (why : Stop) → IfWrong P why → IfWrong Q why
weaker_wrong P Q weaker (stop.Wrong wrong) says = weaker wrong says
weaker_wrong P Q weaker stop.Memory says = tt

pub reads_marker : (bytes line : List ℕ) (ds : List Definition) (at : ℕ) (result : Result (Option Definition) Wrong) → line ≡ line_at bytes at → is_marker line ≡ true → marker_result line ≡ result
    → ReadsLine bytes ds at result
reads_marker bytes line ds at result e is gives =
    subst (ReadsLine bytes ds at) (sym (ap marker_result e) ∙ gives) (marker (sym (ap is_marker e) ∙ is))

pub reads_open : (bytes line : List ℕ) (ds : List Definition) (at : ℕ) → line ≡ line_at bytes at → is_marker line ≡ false → leaves_comment_open line ≡ true
    → ReadsLine bytes ds at (Err (record { offset = 0; cause = c.BadDirective }))
reads_open bytes line ds at e is leaves = open_comment (sym (ap is_marker e) ∙ is) (sym (ap leaves_comment_open e) ∙ leaves)

pub reads_directive : (bytes line : List ℕ) (ds : List Definition) (at after : ℕ) (pieces : List Piece) (whole : Bool) (result : Result (Option Piece) Cause) → line ≡ line_at bytes at
    → after ≡ line_end bytes at → is_marker line ≡ false → leaves_comment_open line ≡ false → IsCut (take after bytes) (at + 1) pieces whole → directive_result bytes ds whole pieces ≡ result
    → ReadsLine bytes ds at (with_body bytes pieces result)
reads_directive bytes line ds at after pieces whole result e ends is leaves cut gives =
    subst (λ r. ReadsLine bytes ds at (with_body bytes pieces r)) gives
    (directive (sym (ap is_marker e) ∙ is) (sym (ap leaves_comment_open e) ∙ leaves) pieces whole (subst (λ k. IsCut (take k bytes) (at + 1) pieces whole) ends cut))

pub cut_in_file : (bytes : List ℕ) (after at : ℕ) (pieces : List Piece) (whole : Bool) → IsCut (take after bytes) at pieces whole → All (PieceStands bytes) pieces
cut_in_file bytes after at pieces whole is = All-weaker (PieceStands (take after bytes)) (PieceStands bytes) (stands_in_front bytes after) pieces (cut_stands is.cut)

pub found_stands : (bytes text : List ℕ) (ds : List Definition) → BodiesStand bytes ds → (found : Option (Bor (List Piece))) → option_map (λ body. body.now) found ≡ defined_as ds text
    → IfSome found (λ body. All (PieceStands bytes) body.now)
found_stands bytes text ds all None e = tt
found_stands bytes text ds all (Some body) e = body_stands bytes text ds all body.now (sym e)

-- ---- a new name

-- a directive that defines a name anew
pub record Anew (bytes : List ℕ) (ds : List Definition) (pieces : List Piece) (name : Piece) : Type 0 where
  pub two : 2 ≤ length pieces
  pub fresh : defined_as ds (piece_text bytes name) ≡ None
  pub stands : All (PieceStands bytes) pieces → PieceStands bytes name

include_step : (b : Bool) (name : Piece) → ◌≡◌ {A = Result (Option Piece) Cause} (cond b (Ok None) (Err c.BadDirective)) (Ok (Some name)) → ⊥
include_step true name e = absurd (cc)
include_step false name e = absurd (cc)

include_never : (bytes : List ℕ) (whole : Bool) (pieces : List Piece) (name : Piece) → include_result bytes whole pieces ≡ Ok (Some name) → ⊥
include_never bytes whole [] name e = absurd (cc)
include_never bytes whole (piece ∷ pieces) name e = include_step (whole && is_header (text_between bytes piece.start (last_end piece.end pieces))) name e

again : (b : Bool) (name : Piece) → ◌≡◌ {A = Result (Option Piece) Cause} (cond b (Ok None) (Err c.BadDefine)) (Ok (Some name)) → ⊥
again true name e = absurd (cc)
again false name e = absurd (cc)

defines_new : (bytes : List ℕ) (old : Option (List Piece)) (first name : Piece) (body : List Piece) → defines bytes old first body ≡ Ok (Some name) → (old ≡ None) × (first ≡ name)
defines_new bytes None first name body e = (refl, cc)
defines_new bytes (Some old) first name body e = absurd (again (same_texts bytes old body) name e)

define_step : (bytes : List ℕ) (ds : List Definition) (named good : Bool) (first name : Piece) (body : List Piece)
    → cond named (cond good (defines bytes (defined_as ds (piece_text bytes first)) first body) (Err c.BadDefine)) (Err c.BadDirective) ≡ Ok (Some name)
    → (defined_as ds (piece_text bytes first) ≡ None) × (first ≡ name)
define_step bytes ds true true first name body e = defines_new bytes (defined_as ds (piece_text bytes first)) first name body e
define_step bytes ds true false first name body e = absurd (cc)
define_step bytes ds false good first name body e = absurd (cc)

define_new : (bytes : List ℕ) (ds : List Definition) (whole : Bool) (word : Piece) (pieces : List Piece) (name : Piece) → define_result bytes ds whole pieces ≡ Ok (Some name)
    → Anew bytes ds (word ∷ pieces) name
define_new bytes ds whole word [] name e = absurd (cc)
define_new bytes ds whole word (first ∷ body) name e =
    let one = define_step bytes ds (is_name_class first.class) (is_definition bytes whole first body) first name body e in
    record {
      two = omega arith;
      fresh = subst (λ n. defined_as ds (piece_text bytes n) ≡ None) one.1 one.0;
      stands = λ all. subst (PieceStands bytes) one.1 (All-head (PieceStands bytes) first body (All-tail (PieceStands bytes) word (first ∷ body) all));
    }

new_step : (bytes : List ℕ) (ds : List Definition) (include define whole : Bool) (word : Piece) (pieces : List Piece) (name : Piece)
    → cond include (include_result bytes whole pieces) (cond define (define_result bytes ds whole pieces) (Err c.BadDirective)) ≡ Ok (Some name) → Anew bytes ds (word ∷ pieces) name
new_step bytes ds true define whole word pieces name e = absurd (include_never bytes whole pieces name e)
new_step bytes ds false true whole word pieces name e = define_new bytes ds whole word pieces name e
new_step bytes ds false false whole word pieces name e = absurd (cc)

pub anew : (bytes : List ℕ) (ds : List Definition) (whole : Bool) (pieces : List Piece) (name : Piece) → directive_result bytes ds whole pieces ≡ Ok (Some name) → Anew bytes ds pieces name
anew bytes ds whole [] name e = absurd (cc)
anew bytes ds whole (word ∷ pieces) name e =
    new_step bytes ds (bytes_eq (piece_text bytes word) (codes "include")) (bytes_eq (piece_text bytes word) (codes "define")) whole word pieces name e

pub bodies_more : (bytes : List ℕ) (ds : List Definition) (name : List ℕ) (pieces : List Piece) → BodiesStand bytes ds → All (PieceStands bytes) pieces
    → BodiesStand bytes (ds ++ record { name = name; body = drop 2 pieces } ∷ [])
bodies_more bytes ds name pieces all stands =
    All-push (λ d. All (PieceStands bytes) d.body) ds (record { name = name; body = drop 2 pieces }) all (All-drop (PieceStands bytes) 2 pieces stands)

-- ---- one result

pub reads_same : {bytes : List ℕ} {ds : List Definition} {at : ℕ} {result other : Result (Option Definition) Wrong} → ReadsLine bytes ds at result → ReadsLine bytes ds at other → result ≡ other
reads_same (marker is) (marker too) = refl
reads_same (marker is) (open_comment no_marker leaves) = absurd (cc)
reads_same (marker is) (directive no_marker leaves pieces whole cut) = absurd (cc)
reads_same (open_comment no_marker leaves) (marker is) = absurd (cc)
reads_same (open_comment no_marker leaves) (open_comment too unclosed) = refl
reads_same (open_comment no_marker leaves) (directive too closed pieces whole cut) = absurd (cc)
reads_same (directive no_marker closed pieces whole cut) (marker is) = absurd (cc)
reads_same (directive no_marker closed pieces whole cut) (open_comment too leaves) = absurd (cc)
reads_same {bytes = bytes} {ds = ds} (directive no_marker closed pieces whole cut) (directive too clear others full other) =
    let one = cut_same cut other in
    ap (λ ps. with_body bytes ps (directive_result bytes ds whole ps)) one.0 ∙ ap (λ w. with_body bytes others (directive_result bytes ds w others)) one.1

pub takes_same : {bytes : List ℕ} {ds later other : List Definition} {at : ℕ} → TakesLine bytes at ds later → TakesLine bytes at ds other → later ≡ other
takes_same {ds = ds} takes too =
    let one : takes.new ≡ too.new = ok_same takes.new too.new (reads_same takes.reads too.reads) in
    takes.added ∙ ap (with_define ds) one ∙ sym too.added
  where
    ok_same : (a b : Option Definition) → ◌≡◌ {A = Result (Option Definition) Wrong} (Ok a) (Ok b) → a ≡ b
    ok_same a b e = cc
