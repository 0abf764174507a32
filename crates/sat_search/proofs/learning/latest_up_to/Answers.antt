use Rattle.std.proofs.Common.{rules, arith, ◌≡◌, ◌<◌, ◌-◌, ℕ, ℤ, List, length, inl, inr, sym, subst, w64}
use Rattle.std.proofs.lemmas.Bool.{cases_lt}
use mir.Val.{SFits}
use Rattle.clause_db.specs.Literal.{variable_of}
use Rattle.chain_resolution.specs.Marked.{marked, Mentions}
use Rattle.unit_propagation.specs.Places.{literal_at}
use Rattle.sat_search.proofs.Reading.{variable_read}
use Rattle.sat_search.proofs.learning.latest_up_to.Goals as goal

pub returns-then-mentions-clause-stands : goal.returns-then-mentions-clause-stands
returns-then-mentions-clause-stands c =
    let trail : List ℤ = c.args.trail.now.literals.items in
    let p : ℕ = c.loop-place.place - 1 in
    let fits : SFits w64 c.index.result.now = search rules in
    let within : p < length trail = omega (arith, c.requires, c.loop-place.invariant.within, c.loop-place-test.true) in
    let v = variable_read trail p c.index.result.now c.variable.result within c.index.ensures fits c.variable.ensures in
    λ some. subst (Mentions (marked c.args.marks.now.table.items)) v (c.mentions.ensures.0 c.if-mentions.true)

pub loop-place-preserved : goal.loop-place-preserved
loop-place-preserved c =
    let trail : List ℤ = c.args.trail.now.literals.items in
    let clause : List ℤ = marked c.args.marks.now.table.items in
    let p : ℕ = c.loop-place.place - 1 in
    let fits : SFits w64 c.index.result.now = search rules in
    let within : p < length trail = omega (arith, c.requires, c.loop-place.invariant.within, c.loop-place-test.true) in
    let v = variable_read trail p c.index.result.now c.variable.result within c.index.ensures fits c.variable.ensures in
    let here : Mentions clause (variable_of (literal_at trail p)) → ⊥ = λ w. cc (c.mentions.ensures.1 (subst (Mentions clause) (sym v) w), c.if-mentions.false) in
    record {
      within = omega (arith, c.loop-place.invariant.within);
      none = λ k low high w. elim (cases_lt p k) [
        | inl h ↦ c.loop-place.invariant.none k (omega (arith, h)) high w
        | inr h ↦ let e : k ≡ p = omega (arith, h, low) in here (subst (λ n. Mentions clause (variable_of (literal_at trail n))) e w)
      ];
    }

pub returns-clause-none_between : goal.returns-clause-none_between
returns-clause-none_between c p low high w = c.loop-place.invariant.none p (omega (arith, c.loop-place-test.false)) high w
