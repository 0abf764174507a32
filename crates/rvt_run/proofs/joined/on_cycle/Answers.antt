use Rattle.std.proofs.Common.{◌≢◌, [], ◌∷◌, ◌∙◌, refl, sym, subst}
use Rattle.std.specs.Prelude.{All, codes}
use Rattle.rvt_run.specs.Lines.{line}
use Rattle.rvt_run.proofs.Results.{shaped_at}
use Rattle.rvt_run.proofs.Shaped.{line_of, literal, only_this, no_line_end}
use Rattle.rvt_run.proofs.joined.on_cycle.Goals as goal

pub returns-clause-shaped : goal.returns-clause-shaped
returns-clause-shaped c =
    let name = c.bytes-2.result.now in
    shaped_at c.one_line.result (line name (codes ": address of a local on a call cycle of the two files") ∷ []) c.one_line.ensures.lines
    (only_this _ (line_of name (codes ": address of a local on a call cycle of the two files")
    (no_line_end name (subst (All (λ byte. byte ≢ 10)) (c.bytes.ensures ∙ sym c.bytes-2.ensures) (c.if-not-is_one_line.ensures refl)))
    (literal (codes ": address of a local on a call cycle of the two files") refl)))
