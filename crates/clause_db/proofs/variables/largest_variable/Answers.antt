use Rattle.std.proofs.Common.{arith, ◌≡◌, ◌≤◌, ◌<◌, ◌+◌, ℕ, [], slice_index_or, sym, ◌∙◌, subst}
use Rattle.std.specs.Prelude.{All, Any}
use Rattle.std.proofs.lemmas.List.{length-map}
use Rattle.clause_db.specs.declared.clause.Clause.{Clause}
use Rattle.clause_db.specs.Literal.{variable_of}
use Rattle.clause_db.specs.Log.{literal_lists}
use Rattle.clause_db.proofs.Reading.{IsLargestTo, larger_here, not_larger_here, largest_of_all, largest_stands, literals_at}
use Rattle.clause_db.proofs.variables.largest_variable.Goals as goal
use Rattle.clause_db.proofs.variables.largest_variable.Goals.{then-here-largest, else-here-largest}

pub loop-place-preserved : goal.loop-place-preserved
loop-place-preserved c =
    let clauses = c.args.clauses.now in
    let place : ℕ = c.loop-place.place in
    let old = c.loop-place.invariant in
    let clause : Clause = c.index-clauses-place.result in
    let here : ℕ = c.largest_of-here.result in
    let read : c.deref.result.now ≡ slice_index_or (literal_lists clauses) place [] = c.deref.ensures.value ∙ sym (literals_at clauses place clause c.loop-place-test.true) in
    let within = subst (λ ls. All (λ l. variable_of l ≤ here) ls) read c.largest_of-here.ensures.within in
    let stands = subst (λ ls. 0 < here → Any (λ l. variable_of l ≡ here) ls) read c.largest_of-here.ensures.stands in
    elim c.if-here-largest.branch [
      | then-here-largest w ↦ subst (IsLargestTo (literal_lists clauses) (place + 1)) (sym w.largest-is) (larger_here (literal_lists clauses) place c.loop-place.largest here old within stands (omega (arith, w.if-here-largest.true)))
      | else-here-largest w ↦ subst (IsLargestTo (literal_lists clauses) (place + 1)) (sym w.largest-is) (not_larger_here (literal_lists clauses) place c.loop-place.largest here old within stands (omega (arith, w.if-here-largest.false)))
    ]

pub returns-clause-within : goal.returns-clause-within
returns-clause-within c =
    largest_of_all (literal_lists c.args.clauses.now) c.loop-place.place c.loop-place.largest (simp length-map (omega (arith, c.loop-place.auto.place-end, c.loop-place-test.false))) c.loop-place.invariant

pub returns-clause-stands : goal.returns-clause-stands
returns-clause-stands c =
    largest_stands (literal_lists c.args.clauses.now) c.loop-place.place c.loop-place.largest (simp length-map (omega (arith, c.loop-place.auto.place-end, c.loop-place-test.false))) c.loop-place.invariant
