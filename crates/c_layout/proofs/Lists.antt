-- Where elements stand in lists that grow, shrink and change.
use Rattle.std.proofs.Common.{◌≡◌, ◌⊎◌, inl, inr, ℕ, zero, suc, ◌<◌, ◌+◌, List, [], ◌∷◌, ◌++◌, length, set, take, refl, arith, subst}
use Rattle.c_layout.specs.Sizes.{At}

pub within : {X : Type 0} (xs : List X) (k : ℕ) (x : X) → At xs k x → k < length xs
within [] k x h = absurd (cc)
within (y ∷ xs) zero x h = omega arith
within (y ∷ xs) (suc k) x h = let r = within xs k x h in omega arith

pub same_at : {X : Type 0} (xs : List X) (k : ℕ) (x y : X) → At xs k x → At xs k y → x ≡ y
same_at [] k x y h e = absurd (cc)
same_at (z ∷ xs) zero x y h e = cc
same_at (z ∷ xs) (suc k) x y h e = same_at xs k x y h e

pub exists_at : {X : Type 0} (xs : List X) (k : ℕ) → k < length xs → (x : X) × At xs k x
exists_at [] k h = absurd (omega arith)
exists_at (x ∷ xs) zero h = (x, refl)
exists_at (x ∷ xs) (suc k) h = exists_at xs k (omega arith)

pub append_keeps : {X : Type 0} (xs ys : List X) (k : ℕ) (x : X) → At xs k x → At (xs ++ ys) k x
append_keeps [] ys k x h = absurd (cc)
append_keeps (z ∷ xs) ys zero x h = h
append_keeps (z ∷ xs) ys (suc k) x h = append_keeps xs ys k x h

pub append_new : {X : Type 0} (xs ys : List X) (j : ℕ) (k : ℕ) (y : X) → k ≡ length xs + j → At ys j y → At (xs ++ ys) k y
append_new [] ys j k y e h = let s : j ≡ k = omega arith in subst (λ n. At ys n y) s h
append_new (z ∷ xs) ys j zero y e h = absurd (omega arith)
append_new (z ∷ xs) ys j (suc k) y e h = append_new xs ys j k y (omega arith) h

-- what stands in two lists one after the other stands in the first or in the second
pub append_cases : {X : Type 0} (xs ys : List X) (k : ℕ) (x : X) → At (xs ++ ys) k x → (At xs k x) ⊎ ((j : ℕ) × (k ≡ length xs + j) × At ys j x)
append_cases [] ys k x h = inr (k, omega arith, h)
append_cases (z ∷ xs) ys zero x h = inl h
append_cases (z ∷ xs) ys (suc k) x h = elim (append_cases xs ys k x h) [ inl a ↦ inl a | inr w ↦ inr (w.0, omega (arith, w.1), w.2) ]

pub push_new : {X : Type 0} (xs : List X) (x : X) → At (xs ++ x ∷ []) (length xs) x
push_new xs x = append_new xs (x ∷ []) 0 (length xs) x (omega arith) refl

pub push_cases : {X : Type 0} (xs : List X) (y : X) (k : ℕ) (x : X) → At (xs ++ y ∷ []) k x → (At xs k x) ⊎ ((k ≡ length xs) × (x ≡ y))
push_cases [] y zero x h = inr (omega arith, cc)
push_cases [] y (suc k) x h = absurd (cc)
push_cases (z ∷ xs) y zero x h = inl h
push_cases (z ∷ xs) y (suc k) x h = elim (push_cases xs y k x h) [ inl a ↦ inl a | inr w ↦ inr (omega (arith, w.0), w.1) ]

pub take_at : {X : Type 0} (n : ℕ) (xs : List X) (k : ℕ) (x : X) → At (take n xs) k x → (k < n) × At xs k x
take_at zero xs k x h = absurd (cc)
take_at (suc n) [] k x h = absurd (cc)
take_at (suc n) (z ∷ xs) zero x h = (omega arith, h)
take_at (suc n) (z ∷ xs) (suc k) x h = let r = take_at n xs k x h in (omega (arith, r.0), r.1)

pub take_keeps : {X : Type 0} (n : ℕ) (xs : List X) (k : ℕ) (x : X) → k < n → At xs k x → At (take n xs) k x
take_keeps zero xs k x l h = absurd (omega arith)
take_keeps (suc n) [] k x l h = absurd (cc)
take_keeps (suc n) (z ∷ xs) zero x l h = h
take_keeps (suc n) (z ∷ xs) (suc k) x l h = take_keeps n xs k x (omega arith) h

pub set_new : {X : Type 0} (xs : List X) (v : ℕ) (x y : X) → At xs v y → At (set xs v x) v x
set_new [] v x y h = absurd (cc)
set_new (z ∷ xs) zero x y h = refl
set_new (z ∷ xs) (suc v) x y h = set_new xs v x y h

pub set_keeps : {X : Type 0} (xs : List X) (v : ℕ) (x : X) (k : ℕ) (y : X) → (k ≡ v → ⊥) → At xs k y → At (set xs v x) k y
set_keeps [] v x k y d h = absurd (cc)
set_keeps (z ∷ xs) zero x zero y d h = absurd (d refl)
set_keeps (z ∷ xs) zero x (suc k) y d h = h
set_keeps (z ∷ xs) (suc v) x zero y d h = h
set_keeps (z ∷ xs) (suc v) x (suc k) y d h = set_keeps xs v x k y (λ e. d (omega arith)) h

pub set_cases : {X : Type 0} (xs : List X) (v : ℕ) (x : X) (k : ℕ) (y : X) → At (set xs v x) k y → ((k ≡ v) × (y ≡ x)) ⊎ ((k ≡ v → ⊥) × At xs k y)
set_cases [] v x k y h = absurd (cc)
set_cases (z ∷ xs) zero x zero y h = inl (refl, cc)
set_cases (z ∷ xs) zero x (suc k) y h = inr (λ e. omega arith, h)
set_cases (z ∷ xs) (suc v) x zero y h = inr (λ e. omega arith, h)
set_cases (z ∷ xs) (suc v) x (suc k) y h = elim (set_cases xs v x k y h) [ inl a ↦ inl (omega (arith, a.0), a.1) | inr a ↦ inr (λ e. a.0 (omega arith), a.1) ]

pub set_either : {X : Type 0} (xs : List X) (v : ℕ) (x : X) (k : ℕ) (y : X) → At xs k y → (At (set xs v x) k y) ⊎ (k ≡ v)
set_either [] v x k y h = absurd (cc)
set_either (z ∷ xs) zero x zero y h = inr refl
set_either (z ∷ xs) zero x (suc k) y h = inl h
set_either (z ∷ xs) (suc v) x zero y h = inl h
set_either (z ∷ xs) (suc v) x (suc k) y h = elim (set_either xs v x k y h) [ inl a ↦ inl a | inr e ↦ inr (omega (arith, e)) ]
