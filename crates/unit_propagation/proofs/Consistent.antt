-- A trail has no variable twice.
use Rattle.std.proofs.Common.{◌≡◌, ◌≢◌, ◌⊎◌, inl, inr, ℕ, ℤ, ◌<◌, List, length, slice_index, refl, sym, ap, ◌∙◌, arith, Bool, true, false, subst, Decides}
use Rattle.std.specs.Prelude.{Contains}
use Rattle.std.specs.Ordering.{int_eq}
use Rattle.std.proofs.lemmas.Bool.Decides.{Decides-int_eq}
use Rattle.clause_db.specs.Literal.{variable_of, opposite}
use Rattle.clause_db.proofs.Ordered.{variable_of-opposite, not_opposite_self, read_at_place}
use Rattle.unit_propagation.specs.Places.{literal_at, PlacesAreRight}
use Rattle.unit_propagation.specs.Truth.{IsFree}

by_bool : (b : Bool) (P : Type 0) → Decides b P → P ⊎ (P → ⊥)
by_bool true P d = inl (d.0 refl)
by_bool false P d = inr (λ p. cc (d.1 p))

-- two numbers are equal or not
pub cases_int : (x y : ℤ) → (x ≡ y) ⊎ (x ≢ y)
cases_int x y = by_bool (int_eq x y) (x ≡ y) (Decides-int_eq x y)

-- no variable stands twice
abbrev pub IsDistinctTrail : List ℤ → Type 0
IsDistinctTrail trail = (p q : ℕ) → p < length trail → q < length trail → variable_of (literal_at trail p) ≡ variable_of (literal_at trail q) → p ≡ q

-- no literal and its opposite are both true
abbrev pub IsConsistent : List ℤ → Type 0
IsConsistent trail = (l : ℤ) → Contains trail l → Contains trail (opposite l) → ⊥

pub distinct_from_places : (trail : List ℤ) (places : List ℕ) → PlacesAreRight trail places → IsDistinctTrail trail
distinct_from_places trail places right p q hp hq e =
    let a = (right.of_literal p hp).2 in
    let b = (right.of_literal q hq).2 in
    let c = ap (slice_index places) e in
    omega (arith, a, b, c)

pub consistent_from_places : (trail : List ℤ) (places : List ℕ) → PlacesAreRight trail places → IsConsistent trail
consistent_from_places trail places right l is_true is_false =
    let at_yes : literal_at trail is_true.0 ≡ l = read_at_place trail l is_true in
    let at_no : literal_at trail is_false.0 ≡ opposite l = read_at_place trail (opposite l) is_false in
    let same : is_true.0 ≡ is_false.0 = distinct_from_places trail places right is_true.0 is_false.0 is_true.1 is_false.1 (ap variable_of at_yes ∙ sym (variable_of-opposite l) ∙ sym (ap variable_of at_no)) in
    let positive : 0 < variable_of l = subst (λ m. 0 < variable_of m) at_yes (right.of_literal is_true.0 is_true.1).0 in
    not_opposite_self l positive (sym at_yes ∙ ap (literal_at trail) same ∙ at_no)

-- a free literal is neither true nor false
pub free_not_true : (trail : List ℤ) (l : ℤ) → IsFree trail l → Contains trail l → ⊥
free_not_true trail l free is_true = free is_true.0 is_true.1 (ap variable_of (read_at_place trail l is_true))

pub free_not_false : (trail : List ℤ) (l : ℤ) → IsFree trail l → Contains trail (opposite l) → ⊥
free_not_false trail l free is_false = free is_false.0 is_false.1 (ap variable_of (read_at_place trail (opposite l) is_false) ∙ variable_of-opposite l)
