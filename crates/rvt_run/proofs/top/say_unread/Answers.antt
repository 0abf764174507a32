use Rattle.std.proofs.Common.{[], ◌∷◌, refl, sym, subst}
use Rattle.std.specs.Prelude.{codes}
use Rattle.rvt_run.specs.Texts.{HasNoLineEnd}
use Rattle.rvt_run.specs.Lines.{line}
use Rattle.rvt_run.proofs.Results.{shaped_at}
use Rattle.rvt_run.proofs.Shaped.{line_shaped}
use Rattle.rvt_run.proofs.top.say_unread.Goals as goal

pub returns-in-Failed-clause-shaped : goal.returns-in-Failed-clause-shaped
returns-in-Failed-clause-shaped c =
    shaped_at c.one_line.result (line c.as_bytes.result.now (codes ": cannot read") ∷ []) c.one_line.ensures.lines
    (line_shaped c.as_bytes.result.now (codes ": cannot read") (subst HasNoLineEnd (sym c.as_bytes.ensures.value) c.requires) refl)

pub returns-in-TooLong-clause-shaped : goal.returns-in-TooLong-clause-shaped
returns-in-TooLong-clause-shaped c =
    shaped_at c.one_line-in-TooLong.result (line c.as_bytes-in-TooLong.result.now (codes ": too long") ∷ []) c.one_line-in-TooLong.ensures.lines
    (line_shaped c.as_bytes-in-TooLong.result.now (codes ": too long") (subst HasNoLineEnd (sym c.as_bytes-in-TooLong.ensures.value) c.requires) refl)
