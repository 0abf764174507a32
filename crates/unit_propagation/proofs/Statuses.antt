-- What the first literals that are not false say of a clause.
use Rattle.std.proofs.Common.{◌≡◌, ◌≢◌, inl, inr, ℕ, ℤ, pos, ◌+◌, List, sym, ap, ◌∙◌, arith, subst}
use Rattle.std.specs.Prelude.{Contains}
use Rattle.std.proofs.lemmas.Bool.{cases_lt, cases_eq}
use Rattle.std.proofs.lemmas.List.{get_or_default}
use Rattle.clause_db.specs.Literal.{opposite}
use Rattle.clause_db.proofs.Ordered.{contains_at, read_at_place}
use Rattle.unit_propagation.specs.Places.{literal_at}
use Rattle.unit_propagation.specs.Truth.{IsFree}
use Rattle.unit_propagation.specs.Quiet.{IsFalseClause}
use Rattle.unit_propagation.specs.Status.{IsNext}
use Rattle.unit_propagation.specs.declared.trail.Value.TheVariants.{False, Free}

pub falsified : (trail clause : List ℤ) (place : ℕ) → IsNext trail clause 0 place False → IsFalseClause trail clause
falsified trail clause place next k d h =
    subst (λ l. Contains trail (opposite l)) (get_or_default clause k (pos 0) d h) (next.passed k (omega arith) (omega (arith, next.stands)))

pub forces : (trail clause : List ℤ) (p q : ℕ) → IsNext trail clause 0 p Free → IsNext trail clause (p + 1) q False → Contains clause (literal_at clause p) × IsFree trail (literal_at clause p) × ((m : ℤ) → Contains clause m → m ≢ literal_at clause p → Contains trail (opposite m))
forces trail clause p q first second = (contains_at clause p first.stands.0, first.stands.1, others) where
  others : (m : ℤ) → Contains clause m → m ≢ literal_at clause p → Contains trail (opposite m)
  others m w ne =
      let is : literal_at clause w.0 ≡ m = read_at_place clause m w in
      elim (cases_lt w.0 p) [
        | inl k ↦ subst (λ l. Contains trail (opposite l)) is (first.passed w.0 (omega arith) k)
        | inr k ↦ elim (cases_eq w.0 p) [
          | inl e ↦ absurd (ne (sym is ∙ ap (literal_at clause) e))
          | inr other ↦ subst (λ l. Contains trail (opposite l)) is (second.passed w.0 (omega arith) (omega (arith, second.stands, w.1)))
        ]
      ]
