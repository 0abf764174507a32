use Rattle.std.proofs.Common.{rules, ◌≡◌, ℤ, pos, ap, sym, ◌∙◌, w64}
use Rattle.std.proofs.lemmas.Int.{to_z-of_z}
use mir.Val.{SFits, of_z}
use Rattle.clause_db.specs.Literal.{variable_of}
use Rattle.chain_resolution.proofs.Tables.{at}
use Rattle.chain_resolution.proofs.Reading.{same_read, no_opposite_of_none, no_opposite_of_same, opposite_of_other}
use Rattle.chain_resolution.proofs.table.has_opposite.Goals as goal

pub returns-then-here-eq0 : goal.returns-then-here-eq0
returns-then-here-eq0 c =
    let l : ℤ = c.args.literal in
    let fits : SFits w64 l = search rules in
    let here_fits : SFits w64 c.at-here.result = search rules in
    let zero_fits : SFits w64 (pos 0) = search rules in
    let v : c.variable.result ≡ variable_of l = c.variable.ensures ∙ ap variable_of (to_z-of_z w64 l fits) in
    let read : c.at-here.result ≡ at c.args.table.now (variable_of l) = c.at-here.ensures ∙ ap (at c.args.table.now) v in
    let none = sym read ∙ same_read c.at-here.result (pos 0) here_fits zero_fits c.if-here-eq0.true in
    ((λ e. cc), (λ w. absurd (no_opposite_of_none c.args.table.now c.requires.at_variables l c.requires.positive none w)))

pub returns-then-here-literal : goal.returns-then-here-literal
returns-then-here-literal c =
    let l : ℤ = c.args.literal in
    let fits : SFits w64 l = search rules in
    let here_fits : SFits w64 c.at-here.result = search rules in
    let v : c.variable.result ≡ variable_of l = c.variable.ensures ∙ ap variable_of (to_z-of_z w64 l fits) in
    let read : c.at-here.result ≡ at c.args.table.now (variable_of l) = c.at-here.ensures ∙ ap (at c.args.table.now) v in
    let same = sym read ∙ same_read c.at-here.result l here_fits fits c.if-here-literal.true in
    ((λ e. cc), (λ w. absurd (no_opposite_of_same c.args.table.now c.requires.at_variables l c.requires.positive same w)))

pub returns : goal.returns
returns c =
    let l : ℤ = c.args.literal in
    let fits : SFits w64 l = search rules in
    let v : c.variable.result ≡ variable_of l = c.variable.ensures ∙ ap variable_of (to_z-of_z w64 l fits) in
    let read : c.at-here.result ≡ at c.args.table.now (variable_of l) = c.at-here.ensures ∙ ap (at c.args.table.now) v in
    ((λ e. opposite_of_other c.args.table.now c.requires.at_variables l c.requires.positive (λ f. c.if-here-eq0.false (ap (of_z w64) (read ∙ f))) (λ f. c.if-here-literal.false (ap (of_z w64) (read ∙ f)))), (λ w. cc))
