-- Where a trail is quiet, propagation from some of its literals stays on it, and refutes nothing.
use Rattle.std.proofs.Common.{◌≢◌, inl, inr, ℤ, List, sym, ◌∙◌, subst}
use Rattle.std.specs.Prelude.{Contains}
use Rattle.clause_db.specs.Literal.{opposite}
use Rattle.clause_db.specs.Propagation.{Propagates, PropagationRefutes, assumption, unit}
use Rattle.unit_propagation.specs.Quiet.{IsQuiet, IsQuietClause}
use Rattle.unit_propagation.proofs.Consistent.{IsConsistent, cases_int, free_not_false}

module _ (clauses : List (List ℤ)) (trail assumed : List ℤ) (consistent : IsConsistent trail) (quiet : IsQuiet trail clauses) (on_trail : (l : ℤ) → Contains assumed l → Contains trail l) where
  quiet_at : (clause : List ℤ) → Contains clauses clause → IsQuietClause trail clause
  quiet_at clause w = subst (IsQuietClause trail) w.2 (quiet w.0 clause w.1)

  -- where all literals of a quiet clause but one are false, that one is true
  pub forced : (clause : List ℤ) (l : ℤ) → Contains clauses clause → ((m : ℤ) → Contains clause m → m ≢ l → Contains trail (opposite m)) → Contains trail l
  forced clause l in_clauses others =
      elim (quiet_at clause in_clauses) [
        | inl w ↦ elim (cases_int w.0 l) [
          | inl e ↦ subst (Contains trail) e w.2
          | inr ne ↦ absurd (consistent w.0 w.2 (others w.0 w.1 ne))
        ]
        | inr w ↦ elim (cases_int w.0 l) [
          | inl e ↦ absurd (free_not_false trail w.1 w.6 (others w.1 w.3 (λ f. w.4 (e ∙ sym f))))
          | inr ne ↦ absurd (free_not_false trail w.0 w.5 (others w.0 w.2 ne))
        ]
      ]

  pub propagation_stays : {l : ℤ} → Propagates clauses assumed l → Contains trail l
  propagation_stays (assumption w) = on_trail _ w
  propagation_stays (unit clause in_clauses has others) = forced clause _ in_clauses (λ m w ne. propagation_stays (others m w ne))

  pub refutes_nothing : PropagationRefutes clauses assumed → ⊥
  refutes_nothing (clause, in_clauses, all_false) =
      elim (quiet_at clause in_clauses) [
        | inl w ↦ consistent w.0 w.2 (propagation_stays (all_false w.0 w.1))
        | inr w ↦ free_not_false trail w.0 w.5 (propagation_stays (all_false w.0 w.2))
      ]
