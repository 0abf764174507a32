-- Clauses with the same literals.
use Rattle.std.proofs.Common.{◌≡◌, ◌⊎◌, inl, inr, zero, suc, ℤ, ◌<◌, ◌≤◌, List, [], ◌∷◌, length, refl, sym, ap, ◌∙◌, arith, subst, true, Bool}
use Rattle.std.specs.Prelude.{Contains, filter}
use Rattle.std.proofs.lemmas.Bool.{cond_both}
use Rattle.clause_db.specs.Literal.{variable_of, IsOrdered}

head_of : (x : ℤ) (xs : List ℤ) → Contains (x ∷ xs) x
head_of x xs = (0, omega arith, refl)

behind : (x : ℤ) (xs : List ℤ) (l : ℤ) → Contains xs l → Contains (x ∷ xs) l
behind x xs l (k, h, e) = (suc k, omega (arith, h), e)

head_or_behind : (x : ℤ) (xs : List ℤ) (l : ℤ) → Contains (x ∷ xs) l → (x ≡ l) ⊎ Contains xs l
head_or_behind x xs l (zero, h, e) = inl e
head_or_behind x xs l (suc k, h, e) = inr (k, omega (arith, h), e)

ordered_behind : (x : ℤ) (xs : List ℤ) → IsOrdered (x ∷ xs) → IsOrdered xs
ordered_behind x xs ordered i j d a b = ordered (suc i) (suc j) d (omega (arith, a)) (omega (arith, b))

above_head : (x : ℤ) (xs : List ℤ) (l : ℤ) → IsOrdered (x ∷ xs) → Contains xs l → variable_of x < variable_of l
above_head x xs l ordered (k, h, e) = subst (λ m. variable_of x < variable_of m) e (ordered 0 (suc k) l (omega arith) (omega (arith, h)))

-- nothing stands in the empty clause
pub nothing_in : (l : ℤ) → Contains [] l → ⊥
nothing_in l w = let h = w.1 in omega (arith, h)

pub empty_from : (xs : List ℤ) → ((l : ℤ) → Contains xs l → ⊥) → xs ≡ []
empty_from [] none = refl
empty_from (x ∷ xs) none = absurd (none x (head_of x xs))

-- a filter keeps what passes
pub contains_filter : (p : ℤ → Bool) (xs : List ℤ) (l : ℤ) → Contains xs l → p l ≡ true → Contains (filter p xs) l
contains_filter p [] l w passes = w
contains_filter p (x ∷ xs) l w passes = elim (head_or_behind x xs l w) [
  | inl e ↦ cond_both (p x) (x ∷ filter p xs) (filter p xs) (λ ys. Contains ys l) (λ _. subst (Contains (x ∷ filter p xs)) e (head_of x (filter p xs))) (λ fails. absurd (let same : p x ≡ p l = ap p e in cc))
  | inr v ↦ cond_both (p x) (x ∷ filter p xs) (filter p xs) (λ ys. Contains ys l) (λ _. behind x (filter p xs) l (contains_filter p xs l v passes)) (λ _. contains_filter p xs l v passes)
]

-- what is left of a part, where the first literals are the same
tails : (x : ℤ) (xs : List ℤ) (y : ℤ) (ys : List ℤ) → IsOrdered (x ∷ xs) → x ≡ y → ((l : ℤ) → Contains (x ∷ xs) l → Contains (y ∷ ys) l) → (l : ℤ) → Contains xs l → Contains ys l
tails x xs y ys ox same there l w =
    elim (head_or_behind y ys l (there l (behind x xs l w))) [
      | inl e ↦ absurd (let a = above_head x xs l ox w in let b = ap variable_of (same ∙ e) in omega (arith, a, b))
      | inr v ↦ v
    ]

-- where the first literal of a part stands behind that of the whole, all of them do
all_behind : (x : ℤ) (xs : List ℤ) (y : ℤ) (ys : List ℤ) → IsOrdered (x ∷ xs) → IsOrdered (y ∷ ys) → Contains ys x → ((l : ℤ) → Contains (x ∷ xs) l → Contains (y ∷ ys) l) → (l : ℤ) → Contains (x ∷ xs) l → Contains ys l
all_behind x xs y ys ox oy first there l w =
    elim (head_or_behind y ys l (there l w)) [
      | inr v ↦ v
      | inl e ↦ absurd (
          let a = above_head y ys x oy first in
          elim (head_or_behind x xs l w) [
            | inl same ↦ let b = ap variable_of (e ∙ sym same) in omega (arith, a, b)
            | inr v ↦ let b = above_head x xs l ox v in let c = ap variable_of e in omega (arith, a, b, c)
          ])
    ]

-- a part of a clause is no longer than it
part_length : (xs ys : List ℤ) → IsOrdered xs → IsOrdered ys → ((l : ℤ) → Contains xs l → Contains ys l) → length xs ≤ length ys
part_length [] ys ox oy there = omega arith
part_length (x ∷ xs) [] ox oy there = absurd (nothing_in x (there x (head_of x xs)))
part_length (x ∷ xs) (y ∷ ys) ox oy there =
    elim (head_or_behind y ys x (there x (head_of x xs))) [
      | inl e ↦ let h = part_length xs ys (ordered_behind x xs ox) (ordered_behind y ys oy) (tails x xs y ys ox (sym e) there) in omega (arith, h)
      | inr v ↦ let h = part_length (x ∷ xs) ys ox (ordered_behind y ys oy) (all_behind x xs y ys ox oy v there) in omega (arith, h)
    ]

-- a part of a clause that is as long is the clause
pub part_same : (xs ys : List ℤ) → IsOrdered xs → IsOrdered ys → ((l : ℤ) → Contains xs l → Contains ys l) → length ys ≤ length xs → xs ≡ ys
part_same [] [] ox oy there long = refl
part_same [] (y ∷ ys) ox oy there long = absurd (omega (arith, long))
part_same (x ∷ xs) [] ox oy there long = absurd (nothing_in x (there x (head_of x xs)))
part_same (x ∷ xs) (y ∷ ys) ox oy there long =
    elim (head_or_behind y ys x (there x (head_of x xs))) [
      | inl e ↦ ap (λ z. z ∷ xs) (sym e) ∙ ap (λ zs. y ∷ zs) (part_same xs ys (ordered_behind x xs ox) (ordered_behind y ys oy) (tails x xs y ys ox (sym e) there) (omega (arith, long)))
      | inr v ↦ absurd (let h = part_length (x ∷ xs) ys ox (ordered_behind y ys oy) (all_behind x xs y ys ox oy v there) in omega (arith, h, long))
    ]

-- two clauses with the same literals are the same
pub ordered_same : (xs ys : List ℤ) → IsOrdered xs → IsOrdered ys → ((l : ℤ) → Contains xs l → Contains ys l) → ((l : ℤ) → Contains ys l → Contains xs l) → xs ≡ ys
ordered_same xs ys ox oy there back = part_same xs ys ox oy there (part_length ys xs oy ox back)
