-- What is sought is found by its number.
use Rattle.std.proofs.Common.{◌≡◌, ℕ, zero, suc, ◌+◌, ◌-◌, ◌≤◌, Bool, true, false, ◌||◌, cond, is_some, List, [], ◌∷◌, map, slice_get, Option, Some, None, option_map, option_and_then, refl, sym, ap, ◌∙◌, arith}
use Rattle.std.specs.List.{position_from, list_any}
use Rattle.joint_objects.specs.Sought.{sought_from, sought}

at_least : {X : Type 0} (has : X → Bool) (n : ℕ) (xs : List X) (k : ℕ) → position_from has n xs ≡ Some k → n ≤ k
at_least has n [] k h = absurd (let no : None ≡ Some k = h in cc)
at_least has n (x ∷ xs) k h = by (has x) (at_least has (n + 1) xs k) h
  where
    by : (b : Bool) → (position_from has (n + 1) xs ≡ Some k → n + 1 ≤ k) → cond b (Some n) (position_from has (n + 1) xs) ≡ Some k → n ≤ k
    by true rest h = let same : n ≡ k = (let e : Some n ≡ Some k = h in cc) in omega (arith, same)
    by false rest h = let above : n + 1 ≤ k = rest h in omega (arith, above)

-- what the element at this place gives, where the elements are numbered from here on
abbrev given : {X Y : Type 0} → (ℕ → X → Option Y) → ℕ → List X → ℕ → Option Y
given gives n xs k = option_and_then (gives k) (slice_get xs (k - n))

one_further : {X Y : Type 0} (gives : ℕ → X → Option Y) (n : ℕ) (x : X) (xs : List X) (k : ℕ) → n + 1 ≤ k → given gives (n + 1) xs k ≡ given gives n (x ∷ xs) k
one_further gives n x xs k above =
    let place : suc (k - (n + 1)) ≡ k - n = omega (arith, above) in
    ap (λ (j : ℕ). option_and_then (gives k) (slice_get (x ∷ xs) j)) place

sought_given : {X Y : Type 0} (has : X → Bool) (gives : ℕ → X → Option Y) (n : ℕ) (xs : List X) → sought_from has gives n xs ≡ option_and_then (given gives n xs) (position_from has n xs)
sought_given has gives n [] = refl
sought_given has gives n (x ∷ xs) = by (has x) (sought_given has gives (n + 1) xs) (moved (position_from has (n + 1) xs) refl)
  where
    moved : (r : Option ℕ) → position_from has (n + 1) xs ≡ r → option_and_then (given gives (n + 1) xs) r ≡ option_and_then (given gives n (x ∷ xs)) r
    moved None h = refl
    moved (Some k) h = one_further gives n x xs k (at_least has (n + 1) xs k h)

    by : (b : Bool)
        → sought_from has gives (n + 1) xs ≡ option_and_then (given gives (n + 1) xs) (position_from has (n + 1) xs)
        → option_and_then (given gives (n + 1) xs) (position_from has (n + 1) xs) ≡ option_and_then (given gives n (x ∷ xs)) (position_from has (n + 1) xs)
        → cond b (gives n x) (sought_from has gives (n + 1) xs) ≡ option_and_then (given gives n (x ∷ xs)) (cond b (Some n) (position_from has (n + 1) xs))
    by true rest further = let here : 0 ≡ n - n = omega arith in ap (λ (j : ℕ). option_and_then (gives n) (slice_get (x ∷ xs) j)) here
    by false rest further = rest ∙ further

-- what is sought is what the element gives whose number is found
pub sought_is : {X Y : Type 0} (has : X → Bool) (gives : ℕ → X → Option Y) (xs : List X) → sought has gives xs ≡ option_and_then (λ k. option_and_then (gives k) (slice_get xs k)) (position_from has 0 xs)
sought_is has gives xs = sought_given has gives 0 xs ∙ by (position_from has 0 xs)
  where
    by : (r : Option ℕ) → option_and_then (given gives 0 xs) r ≡ option_and_then (λ k. option_and_then (gives k) (slice_get xs k)) r
    by None = refl
    by (Some k) = let same : k - 0 ≡ k = omega arith in ap (λ (j : ℕ). option_and_then (gives k) (slice_get xs j)) same

-- the same test gives the same number
pub position_alike : {X Y : Type 0} (f : X → Y) (test : Y → Bool) (test' : X → Bool) → ((x : X) → test (f x) ≡ test' x) → (n : ℕ) (xs : List X) → position_from test n (map f xs) ≡ position_from test' n xs
position_alike f test test' same n [] = refl
position_alike f test test' same n (x ∷ xs) =
    ap (λ (b : Bool). cond b (Some n) (position_from test (n + 1) (map f xs))) (same x)
    ∙ ap (λ (r : Option ℕ). cond (test' x) (Some n) r) (position_alike f test test' same (n + 1) xs)

-- ---- the three ways in which a search by number ends

module _ {X Y : Type 0} (has : X → Bool) (gives : ℕ → X → Option Y) (xs : List X) where
  pub lost : position_from has 0 xs ≡ None → sought has gives xs ≡ None
  lost none = sought_is has gives xs ∙ ap (λ (r : Option ℕ). option_and_then (λ k. option_and_then (gives k) (slice_get xs k)) r) none

  pub beyond : (k : ℕ) → position_from has 0 xs ≡ Some k → slice_get xs k ≡ None → sought has gives xs ≡ None
  beyond k at none =
      sought_is has gives xs ∙ ap (λ (r : Option ℕ). option_and_then (λ j. option_and_then (gives j) (slice_get xs j)) r) at ∙ ap (λ (o : Option X). option_and_then (gives k) o) none

  pub kept : (k : ℕ) (x : X) → position_from has 0 xs ≡ Some k → slice_get xs k ≡ Some x → sought has gives xs ≡ gives k x
  kept k x at there =
      sought_is has gives xs ∙ ap (λ (r : Option ℕ). option_and_then (λ j. option_and_then (gives j) (slice_get xs j)) r) at ∙ ap (λ (o : Option X). option_and_then (gives k) o) there

option_itself : {X : Type 0} (o : Option X) → option_and_then (λ x. Some x) o ≡ o
option_itself None = refl
option_itself (Some x) = refl

-- where the element itself is sought
pub sought_itself : {X : Type 0} (has : X → Bool) (xs : List X) (k : ℕ) → position_from has 0 xs ≡ Some k → sought has (λ _ x. Some x) xs ≡ slice_get xs k
sought_itself has xs k at =
    sought_is has (λ _ x. Some x) xs ∙ ap (λ (r : Option ℕ). option_and_then (λ j. option_and_then (λ x. Some x) (slice_get xs j)) r) at ∙ option_itself (slice_get xs k)

-- an element stands at each number that is found
there_from : {X : Type 0} (has : X → Bool) (n : ℕ) (xs : List X) (k : ℕ) → position_from has n xs ≡ Some k → (x : X) × (slice_get xs (k - n) ≡ Some x)
there_from has n [] k h = absurd (let no : None ≡ Some k = h in cc)
there_from {X} has n (x ∷ xs) k h = by (has x) (there_from has (n + 1) xs k) h
  where
    further : (n + 1 ≤ k) → (y : X) × (slice_get xs (k - (n + 1)) ≡ Some y) → (y : X) × (slice_get (x ∷ xs) (k - n) ≡ Some y)
    further above found = let place : suc (k - (n + 1)) ≡ k - n = omega (arith, above) in (found.0, ap (λ (j : ℕ). slice_get (x ∷ xs) j) (sym place) ∙ found.1)

    by : (b : Bool) → (position_from has (n + 1) xs ≡ Some k → (y : X) × (slice_get xs (k - (n + 1)) ≡ Some y)) → cond b (Some n) (position_from has (n + 1) xs) ≡ Some k
        → (y : X) × (slice_get (x ∷ xs) (k - n) ≡ Some y)
    by true rest h =
        let same : n ≡ k = (let e : Some n ≡ Some k = h in cc) in
        let place : k - n ≡ 0 = omega (arith, same) in
        (x, ap (λ (j : ℕ). slice_get (x ∷ xs) j) place)
    by false rest h = further (at_least has (n + 1) xs k h) (rest h)

pub is_there : {X : Type 0} (has : X → Bool) (xs : List X) (k : ℕ) → position_from has 0 xs ≡ Some k → (x : X) × (slice_get xs k ≡ Some x)
is_there has xs k h =
    let found = there_from has 0 xs k h in
    let same : k ≡ k - 0 = omega arith in
    (found.0, ap (λ (j : ℕ). slice_get xs j) same ∙ found.1)

pub any_position : {X : Type 0} (has : X → Bool) (n : ℕ) (xs : List X) → list_any has xs ≡ is_some (position_from has n xs)
any_position has n [] = refl
any_position has n (x ∷ xs) = by (has x) (any_position has (n + 1) xs)
  where
    by : (b : Bool) → list_any has xs ≡ is_some (position_from has (n + 1) xs) → (b || list_any has xs) ≡ is_some (cond b (Some n) (position_from has (n + 1) xs))
    by true rest = refl
    by false rest = rest

option_mapped : {X Y : Type 0} (f : X → Y) (o : Option X) → option_and_then (λ x. Some (f x)) o ≡ option_map f o
option_mapped f None = refl
option_mapped f (Some x) = refl

-- where a part of the element is sought
pub sought_part : {X Y : Type 0} (has : X → Bool) (f : X → Y) (xs : List X) (k : ℕ) → position_from has 0 xs ≡ Some k → sought has (λ _ x. Some (f x)) xs ≡ option_map f (slice_get xs k)
sought_part has f xs k at =
    sought_is has (λ _ x. Some (f x)) xs ∙ ap (λ (r : Option ℕ). option_and_then (λ j. option_and_then (λ x. Some (f x)) (slice_get xs j)) r) at ∙ option_mapped f (slice_get xs k)
