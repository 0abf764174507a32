use Rattle.std.proofs.Common.{◌≡◌, ◌+◌, ◌-◌, ◌≤◌, ◌++◌, ◌∷◌, [], take, drop, length, Some, None, Ok, Err, refl, sym, ◌∙◌, ap, subst}
use Rattle.std.specs.Prelude.{All}
use Rattle.c_lexer.specs.Defines.{BodiesStand}
use Rattle.c_lexer.specs.Lines.{marker_result, directive_result, ReadsLine}
use Rattle.c_lexer.specs.Pieces.{PieceStands, piece_text}
use Rattle.c_lexer.specs.Stops.{IfWrong}
use Rattle.c_lexer.proofs.LineLemmas.{line_is, weaker_wrong, reads_marker, reads_open, reads_directive, cut_in_file, anew, bodies_more}
use Rattle.c_lexer.proofs.lines.directive.Goals as goal

pub returns-in-Ok-clause-takes : goal.returns-in-Ok-clause-takes
returns-in-Ok-clause-takes c =
    let bytes = c.args.bytes.now in
    let at = c.args.at in
    let line = take (c.args.end - at) (drop at bytes) in
    record {
      new = None;
      reads = reads_marker bytes line c.args.defines.now at (Ok None) (line_is bytes at c.args.end c.requires.line) (sym c.is_marker.ensures ∙ c.if-is_marker.true) c.in-Ok.ensures.good;
      added = refl;
    }

pub returns-in-Err-clause-wrong : goal.returns-in-Err-clause-wrong
returns-in-Err-clause-wrong c =
    let bytes = c.args.bytes.now in
    let at = c.args.at in
    let line = take (c.args.end - at) (drop at bytes) in
    weaker_wrong (λ wrong. marker_result line ≡ Err wrong) (λ wrong. ReadsLine bytes c.args.defines.now at (Err wrong))
    (λ wrong gives. reads_marker bytes line c.args.defines.now at (Err wrong) (line_is bytes at c.args.end c.requires.line) (sym c.is_marker.ensures ∙ c.if-is_marker.true) gives)
    c.in-Err.stop c.in-Err.ensures.wrong

pub returns-then-leaves_comment_open-clause-wrong : goal.returns-then-leaves_comment_open-clause-wrong
returns-then-leaves_comment_open-clause-wrong c =
    let bytes = c.args.bytes.now in
    let at = c.args.at in
    let line = take (c.args.end - at) (drop at bytes) in
    subst (IfWrong (λ wrong. ReadsLine bytes c.args.defines.now at (Err wrong))) (sym c.at_the_hash.ensures)
    (reads_open bytes line c.args.defines.now at (line_is bytes at c.args.end c.requires.line) (sym c.is_marker.ensures ∙ c.if-is_marker.false)
    (sym c.leaves_comment_open.ensures ∙ c.if-leaves_comment_open.true))

pub directive_result-requires-clause-pieces : goal.directive_result-requires-clause-pieces
directive_result-requires-clause-pieces c =
    let cut = c.in-Ok-cut_from.cut in
    subst (All (PieceStands c.args.bytes.now)) (sym c.deref.ensures.value) (cut_in_file c.args.bytes.now c.args.end (c.args.at + 1) cut.pieces.items cut.whole c.in-Ok-cut_from.ensures)

pub returns-in-Ok-None-clause-takes : goal.returns-in-Ok-None-clause-takes
returns-in-Ok-None-clause-takes c =
    let bytes = c.args.bytes.now in
    let at = c.args.at in
    let ds = c.args.defines.now in
    let line = take (c.args.end - at) (drop at bytes) in
    let cut = c.in-Ok-cut_from.cut in
    let gives : directive_result bytes ds cut.whole cut.pieces.items ≡ Ok None =
    ap (directive_result bytes ds cut.whole) (sym c.deref.ensures.value) ∙ sym c.directive_result.ensures ∙ c.in-Ok-None.is ∙ ap Ok c.in-Ok-None.field-0-is in
    record {
      new = None;
      reads = reads_directive bytes line ds at c.args.end cut.pieces.items cut.whole (Ok None) (line_is bytes at c.args.end c.requires.line) c.requires.line
          (sym c.is_marker.ensures ∙ c.if-is_marker.false) (sym c.leaves_comment_open.ensures ∙ c.if-leaves_comment_open.false) c.in-Ok-cut_from.ensures gives;
      added = refl;
    }

pub add-requires-clause-name : goal.add-requires-clause-name
add-requires-clause-name c =
    let bytes = c.args.bytes.now in
    let ds = c.args.defines.now in
    let cut = c.in-Ok-cut_from.cut in
    let gives : directive_result bytes ds cut.whole cut.pieces.items ≡ Ok (Some c.in-Ok-Some.name) =
    ap (directive_result bytes ds cut.whole) (sym c.deref.ensures.value) ∙ sym c.directive_result.ensures ∙ c.in-Ok-Some.is ∙ ap Ok c.in-Ok-Some.field-0-is in
    (anew bytes ds cut.whole cut.pieces.items c.in-Ok-Some.name gives).stands (cut_in_file bytes c.args.end (c.args.at + 1) cut.pieces.items cut.whole c.in-Ok-cut_from.ensures)

pub add-requires-clause-two : goal.add-requires-clause-two
add-requires-clause-two c =
    let bytes = c.args.bytes.now in
    let ds = c.args.defines.now in
    let cut = c.in-Ok-cut_from.cut in
    let gives : directive_result bytes ds cut.whole cut.pieces.items ≡ Ok (Some c.in-Ok-Some.name) =
    ap (directive_result bytes ds cut.whole) (sym c.deref.ensures.value) ∙ sym c.directive_result.ensures ∙ c.in-Ok-Some.is ∙ ap Ok c.in-Ok-Some.field-0-is in
    subst (λ pieces. 2 ≤ length pieces) (sym c.deref-in-Ok-Some.ensures.value) (anew bytes ds cut.whole cut.pieces.items c.in-Ok-Some.name gives).two

pub add-requires-clause-new : goal.add-requires-clause-new
add-requires-clause-new c =
    let bytes = c.args.bytes.now in
    let ds = c.args.defines.now in
    let cut = c.in-Ok-cut_from.cut in
    let gives : directive_result bytes ds cut.whole cut.pieces.items ≡ Ok (Some c.in-Ok-Some.name) =
    ap (directive_result bytes ds cut.whole) (sym c.deref.ensures.value) ∙ sym c.directive_result.ensures ∙ c.in-Ok-Some.is ∙ ap Ok c.in-Ok-Some.field-0-is in
    (anew bytes ds cut.whole cut.pieces.items c.in-Ok-Some.name gives).fresh

pub returns-in-Ok-Some-clause-takes : goal.returns-in-Ok-Some-clause-takes
returns-in-Ok-Some-clause-takes c =
    let bytes = c.args.bytes.now in
    let at = c.args.at in
    let ds = c.args.defines.now in
    let line = take (c.args.end - at) (drop at bytes) in
    let cut = c.in-Ok-cut_from.cut in
    let name = c.in-Ok-Some.name in
    let gives : directive_result bytes ds cut.whole cut.pieces.items ≡ Ok (Some name) =
    ap (directive_result bytes ds cut.whole) (sym c.deref.ensures.value) ∙ sym c.directive_result.ensures ∙ c.in-Ok-Some.is ∙ ap Ok c.in-Ok-Some.field-0-is in
    record {
      new = Some (record { name = piece_text bytes name; body = drop 2 cut.pieces.items });
      reads = reads_directive bytes line ds at c.args.end cut.pieces.items cut.whole (Ok (Some name)) (line_is bytes at c.args.end c.requires.line) c.requires.line
          (sym c.is_marker.ensures ∙ c.if-is_marker.false) (sym c.leaves_comment_open.ensures ∙ c.if-leaves_comment_open.false) c.in-Ok-cut_from.ensures gives;
      added = c.in_ok-add-in-Ok-Some.ensures.added ∙ ap (λ ps. ds ++ record { name = piece_text bytes name; body = drop 2 ps } ∷ []) c.deref-in-Ok-Some.ensures.value;
    }

pub returns-in-Ok-Some-clause-bodies : goal.returns-in-Ok-Some-clause-bodies
returns-in-Ok-Some-clause-bodies c =
    let bytes = c.args.bytes.now in
    let ds = c.args.defines.now in
    let cut = c.in-Ok-cut_from.cut in
    let stands = cut_in_file bytes c.args.end (c.args.at + 1) cut.pieces.items cut.whole c.in-Ok-cut_from.ensures in
    let added = c.in_ok-add-in-Ok-Some.ensures.added ∙ ap (λ ps. ds ++ record { name = piece_text bytes c.in-Ok-Some.name; body = drop 2 ps } ∷ []) c.deref-in-Ok-Some.ensures.value in
    subst (BodiesStand bytes) (sym added) (bodies_more bytes ds (piece_text bytes c.in-Ok-Some.name) cut.pieces.items c.requires.bodies stands)

pub returns-clause-wrong : goal.returns-clause-wrong
returns-clause-wrong c =
    let bytes = c.args.bytes.now in
    let at = c.args.at in
    let ds = c.args.defines.now in
    let line = take (c.args.end - at) (drop at bytes) in
    let cut = c.in-Ok-cut_from.cut in
    let cause = c.in-Err-directive_result.cause in
    let gives : directive_result bytes ds cut.whole cut.pieces.items ≡ Err cause =
    ap (directive_result bytes ds cut.whole) (sym c.deref.ensures.value) ∙ sym c.directive_result.ensures ∙ c.in-Err-directive_result.is in
    subst (IfWrong (λ wrong. ReadsLine bytes ds at (Err wrong))) (sym c.at_the_hash-in-Err-directive_result.ensures)
    (reads_directive bytes line ds at c.args.end cut.pieces.items cut.whole (Err cause) (line_is bytes at c.args.end c.requires.line) c.requires.line
    (sym c.is_marker.ensures ∙ c.if-is_marker.false) (sym c.leaves_comment_open.ensures ∙ c.if-leaves_comment_open.false) c.in-Ok-cut_from.ensures gives)
