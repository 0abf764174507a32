use Rattle.std.proofs.Common.{rules, arith, ◌≡◌, ◌+◌, ℕ, pos, get_or, w64, ap, sym, ◌∙◌, subst}
use Rattle.std.proofs.lemmas.Int.{to_z-of_z}
use mir.Val.{SFits}
use Rattle.clause_db.specs.Literal.{variable_of}
use Rattle.clause_db.proofs.Ordered.{variable_at}
use Rattle.clause_db.proofs.Reading.{IsReadTo, one_more, all_read, not_above, not_too_large}
use Rattle.clause_db.proofs.variables.is_clause.Goals as goal

pub loop-place-preserved : goal.loop-place-preserved
loop-place-preserved c =
    let literals = c.args.literals.now in
    let place : ℕ = c.loop-place.place in
    let fits : SFits w64 (get_or literals place (pos 0)) = search rules in
    let next : c.variable-next.result ≡ variable_at literals place = c.variable-next.ensures ∙ ap variable_of (to_z-of_z w64 _ fits) in
    subst (IsReadTo literals (place + 1)) (sym next) (one_more literals place c.loop-place.last c.loop-place.invariant (omega (arith, next)) (omega (arith, next)))

pub returns-then-next-last : goal.returns-then-next-last
returns-then-next-last c =
    let literals = c.args.literals.now in
    let place : ℕ = c.loop-place.place in
    let fits : SFits w64 (get_or literals place (pos 0)) = search rules in
    let next : c.variable-next.result ≡ variable_at literals place = c.variable-next.ensures ∙ ap variable_of (to_z-of_z w64 _ fits) in
    ((λ e. cc), λ good. absurd (not_above literals place c.loop-place.last c.loop-place.invariant (omega arith) (omega (arith, next)) good))

pub returns-then-next-gt-GREATEST_VARIABLE : goal.returns-then-next-gt-GREATEST_VARIABLE
returns-then-next-gt-GREATEST_VARIABLE c =
    let literals = c.args.literals.now in
    let place : ℕ = c.loop-place.place in
    let fits : SFits w64 (get_or literals place (pos 0)) = search rules in
    let next : c.variable-next.result ≡ variable_at literals place = c.variable-next.ensures ∙ ap variable_of (to_z-of_z w64 _ fits) in
    ((λ e. cc), λ good. absurd (not_too_large literals place c.loop-place.last c.loop-place.invariant (omega arith) (omega (arith, next)) good))

pub returns : goal.returns
returns c = ((λ _. all_read c.args.literals.now c.loop-place.place c.loop-place.last c.loop-place.invariant (omega (arith, c.loop-place.auto.place-end, c.loop-place-test.false))), λ _. search rules)
