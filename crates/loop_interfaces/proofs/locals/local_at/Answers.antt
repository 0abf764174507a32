use Rattle.std.proofs.Common.{◌≡◌, ◌+◌, ◌-◌, ℕ, List, length, slice_get, sym, ◌∙◌, ap, arith}
use Rattle.rvt_tree.specs.declared.programs.Local.{Local}
use Rattle.loop_interfaces.proofs.Places.{in_front, past_front}
use Rattle.loop_interfaces.proofs.locals.local_at.Goals as goal

pub returns-then-number-count : goal.returns-then-number-count
returns-then-number-count c =
    let params = c.args.function.now.params in
    c.at.ensures ∙ ap (λ (l : List Local). slice_get l c.args.number) c.as_slice.ensures ∙ sym (in_front params c.args.function.now.locals c.args.number (omega (arith, c.if-number-count.true, c.len-count.ensures)))

pub returns : goal.returns
returns c =
    let params = c.args.function.now.params in
    c.at-2.ensures ∙ ap (λ (l : List Local). slice_get l (c.args.number - c.len-count.result)) c.as_slice-2.ensures
    ∙ sym (past_front params c.args.function.now.locals c.args.number (c.args.number - c.len-count.result) (omega (arith, c.if-number-count.false, c.len-count.ensures)))
