use Rattle.std.proofs.Common.{rules, arith, ◌≡◌, ◌≢◌, ◌<◌, ℕ, ℤ, pos, ◌∙◌, length, subst, w64, below_more}
use Rattle.std.specs.Prelude.{Contains}
use Rattle.std.proofs.lemmas.Int.{to_z-of_z}
use Rattle.std.proofs.lemmas.List.{get_or_read}
use mir.Val.{SFits}
use Rattle.chain_resolution.specs.Marked.{marked}
use Rattle.clause_db.specs.Literal.{variable_of}
use Rattle.clause_db.proofs.Ordered.{read_at_place}
use Rattle.unit_propagation.specs.Places.{literal_at}
use Rattle.sat_search.proofs.shortening.is_within.Goals as goal

pub loop-place-preserved : goal.loop-place-preserved
loop-place-preserved c =
    let items = c.args.other.now.literals.items in
    let clause = marked c.args.marks.now.table.items in
    let i : ℕ = c.loop-place.place in
    let fits : SFits w64 c.index.result.now = search rules in
    let within : i < length items = omega (arith, c.loop-place-test.true, c.len-place-end.ensures, c.args.other.now.literals.ok.0) in
    let at : c.index.result.now ≡ literal_at items i = get_or_read items i c.index.result.now within c.index.ensures (pos 0) in
    let known : variable_of (literal_at items i) ≢ c.args.pivot → Contains clause (literal_at items i) = subst (λ (l : ℤ). variable_of l ≢ c.args.pivot → Contains clause l) (to_z-of_z w64 _ fits ∙ at) (c.is_known.ensures c.if-not-is_known.false) in
    λ p h. below_more (λ n. variable_of (literal_at items n) ≢ c.args.pivot → Contains clause (literal_at items n)) i c.loop-place.invariant known p h

pub returns : goal.returns
returns c fine l w away =
    let is = read_at_place c.args.other.now.literals.items l w in
    let within = w.1 in
    subst (Contains (marked c.args.marks.now.table.items)) is (c.loop-place.invariant w.0 (omega (arith, within, c.loop-place-test.false, c.len-place-end.ensures, c.args.other.now.literals.ok.0)) (λ e. away (subst (λ m. variable_of m ≡ c.args.pivot) is e)))
