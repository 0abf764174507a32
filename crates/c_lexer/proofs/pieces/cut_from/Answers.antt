use Rattle.std.proofs.Common.{◌+◌, ◌-◌, ◌≤◌, length, drop, sym, subst, arith}
use Rattle.std.proofs.lemmas.List.{take_rest, length-drop, length-take}
use Rattle.c_lexer.specs.Pieces.{CutsTo, end}
use Rattle.c_lexer.specs.Starts.{StandsFirst, IsWrong}
use Rattle.c_lexer.proofs.PieceLemmas.{cuts_more, cut_to_end, cut_before_end}
use Rattle.c_lexer.proofs.pieces.cut_from.Goals as goal

pub pieces-init : goal.pieces-init
pieces-init c = (subst (λ ps. CutsTo c.args.bytes.now c.args.at c.args.at ps) (sym c.new-pieces.ensures.items) end, c.requires)

pub pieces-preserved : goal.pieces-preserved
pieces-preserved c =
    let bytes = c.args.bytes.now in
    let stop = c.pieces.stop in
    let stands = subst (λ text. StandsFirst text c.in-Ok.first.length c.in-Ok.first.class) (take_rest bytes stop) c.in-Ok.ensures.stands in
    let left = length-drop stop bytes in
    let shown = length-take (length bytes - stop) (drop stop bytes) in (
      subst (λ ps. CutsTo bytes (stop + c.in-Ok.first.length) c.args.at ps) (sym c.in_ok-put-in-Ok.ensures) (cuts_more c.pieces.invariant.0 stands),
      omega (arith, c.in-Ok.ensures.within, left, shown, c.pieces-test.true),
    )

pub returns-in-Err : goal.returns-in-Err
returns-in-Err c =
    cut_before_end c.args.bytes.now c.pieces.stop c.args.at c.pieces.pieces.items _ c.pieces-test.true c.pieces.invariant.0
    (subst (λ text. IsWrong text c.in-Err.field-0) (take_rest c.args.bytes.now c.pieces.stop) c.in-Err.ensures.wrong)

pub returns : goal.returns
returns c = cut_to_end c.args.bytes.now c.pieces.stop c.args.at c.pieces.pieces.items c.pieces.invariant.1 c.pieces-test.false c.pieces.invariant.0
