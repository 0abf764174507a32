-- Places are tried by halves.
use Rattle.std.proofs.Common.{Bool, true, false, not, ◌≡◌, inl, inr, ℕ, ℤ, ◌<◌, ◌≤◌, ◌+◌, ◌-◌, ◌/◌, ◌%◌, ◌↔◌, List, arith, subst, refl}
use Rattle.std.specs.Prelude.{Contains, IsTrue}
use Rattle.std.proofs.lemmas.Bool.{cases_lt}
use Rattle.std.proofs.lemmas.Nat.{div-add-mod', mod_below}
use Rattle.unit_propagation.specs.Places.{literal_at}
use Rattle.refutation_check.specs.Budget.{IsNewAt, IsNewAmong}

-- the middle of two places or more is none of their ends
module _ (from to : ℕ) (some : from < to) (more : to - from ≡ 1 → ⊥) where
  pub above : from < from + (to - from) / 2
  above =
      let split = div-add-mod' (to - from) 2 in
      let low : (to - from) % 2 < 2 = mod_below (to - from) 2 (omega arith) in
      omega (arith, split, low, some, more)

  pub below : from + (to - from) / 2 < to
  below =
      let split = div-add-mod' (to - from) 2 in
      omega (arith, split, some, more)

-- one place
pub new_at_one : (clauses : List (List ℤ)) (clause trail : List ℤ) (from to : ℕ) (is_true : Bool) → to ≡ from + 1 → ((Contains trail (literal_at clause from) → ⊥) → IsNewAt clauses clause from) → (Contains trail (literal_at clause from) → IsNewAt clauses clause from → ⊥) → (IsTrue is_true ↔ Contains trail (literal_at clause from)) → IsTrue (not is_true) ↔ IsNewAmong clauses clause from to
new_at_one clauses clause trail from to true one new old answer = (
  (λ never. absurd cc),
  λ some. absurd (let e : some.0 ≡ from = (let low = some.1 in let high = some.2 in omega (arith, low, high, one)) in old (answer.0 refl) (subst (IsNewAt clauses clause) e some.3)),
)
new_at_one clauses clause trail from to false one new old answer = (
  (λ is. (from, omega arith, omega (arith, one), new (λ w. cc (answer.1 w)))),
  λ some. refl,
)

-- the second half, where the first has none
pub new_in_second : (clauses : List (List ℤ)) (clause : List ℤ) (from middle to : ℕ) (first second : Bool) → middle < to → first ≡ false → (IsTrue first ↔ IsNewAmong clauses clause middle to) → (IsTrue second ↔ IsNewAmong clauses clause from middle) → IsTrue second ↔ IsNewAmong clauses clause from to
new_in_second clauses clause from middle to first second low is right left = (
  (λ is_true. let w = left.0 is_true in (w.0, w.1, (let h = w.2 in omega (arith, h, low)), w.3)),
  λ some. elim (cases_lt some.0 middle) [
    | inl h ↦ left.1 (some.0, some.1, h, some.3)
    | inr h ↦ absurd (let w = right.1 (some.0, (let g : middle ≤ some.0 = omega (arith, h) in g), some.2, some.3) in cc (w, is))
  ],
)
