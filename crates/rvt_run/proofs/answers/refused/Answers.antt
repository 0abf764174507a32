use Rattle.std.proofs.Common.{◌≢◌, [], ◌∷◌, ◌∙◌, refl, sym, subst}
use Rattle.std.specs.Prelude.{All}
use Rattle.rvt_run.specs.Lines.{line}
use Rattle.rvt_run.specs.Texts.{HasNoLineEnd}
use Rattle.rvt_run.proofs.Results.{shaped_at}
use Rattle.rvt_run.proofs.Shaped.{line_of, only_this, no_line_end}
use Rattle.rvt_run.proofs.answers.refused.Goals as goal

pub returns-clause-shaped : goal.returns-clause-shaped
returns-clause-shaped c =
    shaped_at c.one_line.result (line c.as_bytes.result.now c.bytes-2.result.now ∷ []) c.one_line.ensures.lines
    (only_this _ (line_of c.as_bytes.result.now c.bytes-2.result.now (subst HasNoLineEnd (sym c.as_bytes.ensures.value) c.requires)
    (no_line_end c.bytes-2.result.now (subst (All (λ byte. byte ≢ 10)) (c.bytes.ensures ∙ sym c.bytes-2.ensures) (c.if-not-is_one_line.ensures refl)))))
