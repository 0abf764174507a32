use Rattle.std.proofs.Common.{rules, arith, ◌≡◌, ◌++◌, ◌-◌, ◌<◌, length, ℕ, ℤ, List, sym, subst, slice_index, w64}
use mir.Val.{SFits}
use Rattle.std.specs.Bool.{OnTrue}
use Rattle.chain_resolution.specs.Marked.{marked}
use Rattle.chain_resolution.proofs.Tables.{marked_ordered}
use Rattle.clause_db.specs.Literal.{variable_of}
use Rattle.clause_db.specs.Log.{literal_lists, results}
use Rattle.clause_db.specs.Resolution.{IsResolvent}
use Rattle.unit_propagation.specs.Places.{literal_at}
use Rattle.sat_search.specs.Learning.{IsResolution}
use Rattle.sat_search.proofs.Chain.{resolves_push}
use Rattle.sat_search.proofs.Reading.{variable_read}
use Rattle.sat_search.proofs.Parts.{resolvent_part}
use Rattle.sat_search.proofs.shortening.resolve_within.Goals as goal

pub returns-clause-part : goal.returns-clause-part
returns-clause-part c =
    let trail = c.args.trail.now in
    let places = trail.places.items in
    let p : ℕ = c.args.place - 1 in
    let v : ℕ = c.variable-pivot.result in
    let current : List ℤ = marked c.args.marks.now.table.items in
    let other : List ℤ = c.in-Some.other.now.literals.items in
    let new : List ℤ = marked c.resolve_with.new.self.table.items in
    let fits : SFits w64 c.index.result.now = search rules in
    let in_trail : p < length trail.literals.items = omega (arith, c.if-place-eq0.false, c.if-place-len.false, c.len.ensures, trail.literals.ok.0) in
    let pivot : v ≡ variable_of (literal_at trail.literals.items p) = variable_read trail.literals.items p c.index.result.now v in_trail c.index.ensures fits c.variable-pivot.ensures in
    let has_place = trail.places_right.of_literal p in_trail in
    let low : slice_index places v < c.args.bound = subst (λ n. slice_index places n < c.args.bound) (sym pivot) (omega (arith, has_place.2, c.if-place-bound.false, c.if-place-eq0.false)) in
    let resolvent = subst (λ done. OnTrue done (IsResolvent v current other new)) c.if-not-branch.false c.in_ok-resolve_with.ensures.resolvent in
    resolvent_part places c.args.bound v current other new low (c.is_within.ensures c.if-not-is_within.false) resolvent

pub returns-clause-chain : goal.returns-clause-chain
returns-clause-chain c start h =
    let clauses : List (List ℤ) = literal_lists c.args.clauses.now.list.items ++ results c.args.lines.now in
    let v : ℕ = c.variable-pivot.result in
    let number : ℕ = c.index-number.result.now in
    let current : List ℤ = marked c.args.marks.now.table.items in
    let other : List ℤ = c.in-Some.other.now.literals.items in
    let new : List ℤ = marked c.resolve_with.new.self.table.items in
    let resolvent = subst (λ done. OnTrue done (IsResolvent v current other new)) c.if-not-branch.false c.in_ok-resolve_with.ensures.resolvent in
    let step : IsResolution clauses current v number new = record { other = other; numbered = c.in-Some.ensures.found; clash = c.in_ok-resolve_with.ensures.answer.0 c.if-not-branch.false; resolvent = resolvent } in
    rw c.in-Ok.ensures.items (resolves_push clauses start c.args.pivots.now.items current (v, number) new h step (marked_ordered c.resolve_with.new.self.table.items c.resolve_with.new.self.at_variables))
