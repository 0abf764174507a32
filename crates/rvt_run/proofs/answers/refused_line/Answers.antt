use Rattle.std.proofs.Common.{◌≡◌, ℕ, List, [], ◌∷◌, ◌++◌, ◌∙◌, ap, sym, subst}
use Rattle.rvt_run.specs.Lines.{line, line_said}
use Rattle.rvt_run.specs.Texts.{HasNoLineEnd}
use Rattle.rvt_run.proofs.Results.{shaped_at}
use Rattle.rvt_run.proofs.Shaped.{line_of, line_said_none, only_this}
use Rattle.rvt_run.proofs.answers.refused_line.Goals as goal

pub returns-clause-shaped : goal.returns-clause-shaped
returns-clause-shaped c =
    let name = c.as_bytes-2.result.now in
    let text = c.as_slice.result.now in
    let said : text ≡ line_said c.args.line c.args.text.now =
    c.as_slice.ensures.value ∙ c.in_ok-extend_from_slice.ensures.items ∙ ap (λ (l : List ℕ). l ++ c.args.text.now) (c.in_ok-said.ensures.items ∙ c.as_bytes.ensures.value ∙ c.in_ok-place.ensures.ok) in
    shaped_at c.one_line.result (line name text ∷ []) c.one_line.ensures.lines
    (only_this _ (line_of name text (subst HasNoLineEnd (sym c.as_bytes-2.ensures.value) c.requires.name_plain)
    (subst HasNoLineEnd (sym said) (line_said_none c.args.line c.args.text.now c.requires.text_plain))))
