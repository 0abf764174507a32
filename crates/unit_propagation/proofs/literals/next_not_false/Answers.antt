use Rattle.std.proofs.Common.{rules, arith, ◌≡◌, pos, inl, inr, w64, get_or, subst}
use Rattle.std.specs.Prelude.{Contains}
use Rattle.std.proofs.lemmas.Int.{to_z-of_z}
use Rattle.std.proofs.lemmas.Bool.{cases_lt}
use mir.Val.{SFits}
use Rattle.clause_db.specs.Literal.{opposite}
use Rattle.unit_propagation.proofs.literals.next_not_false.Goals as goal

pub loop-place-preserved : goal.loop-place-preserved
loop-place-preserved c p from to =
    let clause = c.args.clause.now in
    let fits : SFits w64 (get_or clause c.loop-place.place (pos 0)) = search rules in
    elim (cases_lt p c.loop-place.place) [
      | inl k ↦ c.loop-place.invariant p from k
      | inr k ↦ let e : p ≡ c.loop-place.place = omega arith in
          rw e (subst (λ l. Contains c.args.trail.now.literals.items (opposite l)) (to_z-of_z w64 _ fits) c.in-False.ensures)
    ]
