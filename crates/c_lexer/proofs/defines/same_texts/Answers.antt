use Rattle.std.proofs.Common.{◌≡◌, true, sym, ◌∙◌, ap}
use Rattle.std.specs.Str.{bytes_eq}
use Rattle.std.proofs.lemmas.Bool.{not-false}
use Rattle.c_lexer.specs.Pieces.{piece_text}
use Rattle.c_lexer.proofs.DefineLemmas.{first_of_all, rest_of_all, same_step}
use Rattle.c_lexer.proofs.defines.same_texts.Goals as goal

pub piece_text-requires : goal.piece_text-requires
piece_text-requires c = first_of_all c.args.bytes.now c.in-Some.piece.now c.in-Some.later.now c.pieces.left.now c.in-Some.ensures.cases.0 c.pieces.invariant.1

pub piece_text-requires-in-Some-split_first : goal.piece_text-requires-in-Some-split_first
piece_text-requires-in-Some-split_first c =
    first_of_all c.args.bytes.now c.in-Some-split_first.other.now c.in-Some-split_first.more.now c.pieces.right.now c.in-Some-split_first.ensures.cases.0 c.pieces.invariant.2

pub pieces-preserved : goal.pieces-preserved
pieces-preserved c =
    let bytes = c.args.bytes.now in
    let x = c.in-Some.piece.now in
    let y = c.in-Some-split_first.other.now in
    let read : bytes_eq c.piece_text.result.now c.piece_text-in-Some-split_first.result.now ≡ true = not-false _ (sym c.ne.ensures ∙ c.if-ne.false) in
    let same : bytes_eq (piece_text bytes x) (piece_text bytes y) ≡ true =
    ap (λ t. bytes_eq t (piece_text bytes y)) (sym c.piece_text.ensures) ∙ ap (λ t. bytes_eq c.piece_text.result.now t) (sym c.piece_text-in-Some-split_first.ensures) ∙ read in
    let left = c.in-Some.ensures.cases.0 in
    let right = c.in-Some-split_first.ensures.cases.0 in (
      same_step bytes c.pieces.left.now c.pieces.right.now x y c.in-Some.later.now c.in-Some-split_first.more.now left right same ∙ c.pieces.invariant.0,
      rest_of_all bytes x c.in-Some.later.now c.pieces.left.now left c.pieces.invariant.1,
      rest_of_all bytes y c.in-Some-split_first.more.now c.pieces.right.now right c.pieces.invariant.2,
    )
