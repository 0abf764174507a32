use Rattle.std.proofs.Common.{rules, arith, ◌≡◌, ◌<◌, ℕ, ℤ, pos, ap, ◌∙◌, subst, get_or, length, w64}
use Rattle.std.specs.Prelude.{Contains}
use Rattle.std.proofs.lemmas.Int.{to_z-of_z}
use mir.Val.{SFits}
use Rattle.clause_db.specs.Literal.{variable_of, opposite}
use Rattle.chain_resolution.specs.Marked.{marked}
use Rattle.chain_resolution.proofs.Reading.{clash_at_place, answer_at_end}
use Rattle.chain_resolution.proofs.table.clashes_only_at.Goals as goal

pub returns-then-variable-pivot : goal.returns-then-variable-pivot
returns-then-variable-pivot c =
    let a = marked c.args.table.now in
    let b = c.args.other.now in
    let i : ℕ = c.loop-place.place in
    let l : ℤ = get_or b i (pos 0) in
    let fits : SFits w64 l = search rules in
    let has : Contains a (opposite l) = subst (λ m. Contains a (opposite m)) (to_z-of_z w64 l fits) (c.has_opposite.ensures.0 c.if-not-has_opposite.false) in
    let v : c.variable.result ≡ variable_of l = c.variable.ensures ∙ ap variable_of (to_z-of_z w64 l fits) in
    let within : i < length b = omega (arith, c.loop-place-test.true) in
    ((λ e. cc), (λ only. absurd (c.if-variable-pivot.true (v ∙ only.nowhere_else (variable_of l) (clash_at_place a b i within has)))))

pub returns : goal.returns
returns c =
    answer_at_end (marked c.args.table.now) c.args.other.now c.args.pivot c.loop-place.found c.loop-place.place c.loop-place.invariant.passed (omega (arith, c.loop-place-test.false)) c.loop-place.invariant.witness
