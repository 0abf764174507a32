-- Places in two lists, one after the other.
use Rattle.std.proofs.Common.{◌≡◌, ℕ, zero, suc, ◌+◌, ◌-◌, ◌<◌, ◌≤◌, List, [], ◌∷◌, ◌++◌, length, slice_get, refl, sym, ◌∙◌, ap, arith}

pub in_front : {A : Type 0} (xs ys : List A) (i : ℕ) → i < length xs → slice_get (xs ++ ys) i ≡ slice_get xs i
in_front [] ys i low = absurd (omega (arith, low))
in_front (x ∷ xs) ys zero low = refl
in_front (x ∷ xs) ys (suc i) low = in_front xs ys i (omega (arith, low))

pub past_front : {A : Type 0} (xs ys : List A) (n i : ℕ) → n ≡ length xs + i → slice_get (xs ++ ys) n ≡ slice_get ys i
past_front [] ys n i e = let same : n ≡ i = omega (arith, e) in ap (slice_get ys) same
past_front (x ∷ xs) ys zero i e = absurd (omega (arith, e))
past_front (x ∷ xs) ys (suc n) i e = past_front xs ys n i (omega (arith, e))
