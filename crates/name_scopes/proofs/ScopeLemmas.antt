-- Bindings and their values.
use Rattle.std.proofs.Common.{◌≡◌, ℕ, ◌-◌, ◌<◌, ◌≤◌, zero, suc, Bool, true, false, List, [], ◌∷◌, ◌++◌, length, take, drop, ◌⊎◌, inl, inr, Some, None, refl, sym, ◌∙◌, ap, arith}
use Rattle.std.specs.Prelude.{nat_lt, if◌then◌else◌, ◌||◌, reverse, slice_get}
use Rattle.std.specs.List.{list_any}
use Rattle.std.specs.Str.{bytes_eq}
use Rattle.std.proofs.lemmas.List.{length-reverse}
use Rattle.std.proofs.lemmas.Grind.{reverse_onto}
use Rattle.name_scopes.specs.Names.{Named, named_in, bound}
use Rattle.name_scopes.specs.Places.{place_of}

module _ {T : Type 0} where
  pub long_bound : (names : List (List ℕ)) (values : List T) → length values ≡ length names → length (bound names values) ≡ length values
  long_bound [] [] same = refl
  long_bound [] (value ∷ values) same = absurd (let no : ⊥ = omega (arith, same) in no)
  long_bound (name ∷ names) [] same = refl
  long_bound (name ∷ names) (value ∷ values) same = ap suc (long_bound names values (omega (arith, same)))

pub place_within : (names : List (List ℕ)) (name : List ℕ) → place_of names name ≤ length names
place_within [] name = omega arith
place_within (other ∷ names) name = cases (bytes_eq name other) (place_within names name)
  where
    cases : (b : Bool) → place_of names name ≤ length names → (if b then suc (length names) else place_of names name) ≤ suc (length names)
    cases true le = omega arith
    cases false le = omega (arith, le)

below : (place height : ℕ) → place ≤ height → nat_lt height place ≡ false
below place height le = grind arith

above : (place height : ℕ) → height < place → nat_lt height place ≡ true
above place height less = grind arith

less_or_not : (a b : ℕ) → (a < b) ⊎ (b ≤ a)
less_or_not a b = grind arith

module _ {T : Type 0} where
  at_front : (xs ys : List T) (k : ℕ) → k < length xs → slice_get (xs ++ ys) k ≡ slice_get xs k
  at_front [] ys k within = absurd (let no : ⊥ = omega (arith, within) in no)
  at_front (x ∷ xs) ys zero within = refl
  at_front (x ∷ xs) ys (suc k) within = at_front xs ys k (omega (arith, within))

  at_end : (xs : List T) (y : T) → slice_get (xs ++ y ∷ []) (length xs) ≡ Some y
  at_end [] y = refl
  at_end (x ∷ xs) y = at_end xs y

  -- A name without a binding stands for nothing.
  pub unnamed : (names : List (List ℕ)) (values : List T) (name : List ℕ) → 0 ≡ place_of names name → None ≡ named_in (bound names values) name
  unnamed [] values name none = refl
  unnamed (other ∷ names) [] name none = refl
  unnamed (other ∷ names) (value ∷ values) name none = cases (bytes_eq name other) refl (unnamed names values name)
    where
      cases : (b : Bool) → bytes_eq name other ≡ b → (0 ≡ place_of names name → None ≡ named_in (bound names values) name) → None ≡ named_in (bound (other ∷ names) (value ∷ values)) name
      cases true is rest = let none_here : 0 ≡ suc (length names) = none ∙ ap (λ (b : Bool). if b then suc (length names) else place_of names name) is in absurd (let wrong : ⊥ = omega (arith, none_here) in wrong)
      cases false is rest =
          rest (none ∙ ap (λ (b : Bool). if b then suc (length names) else place_of names name) is)
          ∙ sym (ap (λ (b : Bool). if b then Some value else named_in (bound names values) name) is)

  -- A name stands for the value at its place.
  pub named_at : (names : List (List ℕ)) (values : List T) (name : List ℕ) (k : ℕ) → length values ≡ length names → place_of names name ≡ suc k → slice_get (reverse values) k ≡ named_in (bound names values) name
  named_at [] values name k same place = absurd (let no : ⊥ = omega (arith, place) in no)
  named_at (other ∷ names) [] name k same place = absurd (let no : ⊥ = omega (arith, same) in no)
  named_at (other ∷ names) (value ∷ values) name k same place = cases (bytes_eq name other) refl (named_at names values name k (omega (arith, same)))
    where
      split : reverse (value ∷ values) ≡ reverse values ++ value ∷ []
      split = reverse_onto values value []

      cases : (b : Bool) → bytes_eq name other ≡ b → (place_of names name ≡ suc k → slice_get (reverse values) k ≡ named_in (bound names values) name)
          → slice_get (reverse (value ∷ values)) k ≡ named_in (bound (other ∷ names) (value ∷ values)) name
      cases true is rest =
          let here : suc (length names) ≡ suc k = sym (ap (λ (b : Bool). if b then suc (length names) else place_of names name) is) ∙ place in
          let end : k ≡ length (reverse values) = omega (arith, here, same, length-reverse values) in
          ap (λ xs. slice_get xs k) split ∙ ap (slice_get (reverse values ++ value ∷ [])) end ∙ at_end (reverse values) value
          ∙ sym (ap (λ (b : Bool). if b then Some value else named_in (bound names values) name) is)
      cases false is rest =
          let there : place_of names name ≡ suc k = sym (ap (λ (b : Bool). if b then suc (length names) else place_of names name) is) ∙ place in
          let le = place_within names name in
          let within : k < length (reverse values) = omega (arith, there, le, same, length-reverse values) in
          ap (λ xs. slice_get xs k) split ∙ at_front (reverse values) (value ∷ []) k within ∙ rest there
          ∙ sym (ap (λ (b : Bool). if b then Some value else named_in (bound names values) name) is)

  -- ---- the bindings since a height

  abbrev pub has : List ℕ → List (Named T) → Bool
  has name = list_any (λ (binding : Named T). bytes_eq name binding.name)

  since_within : (other : List ℕ) (value : T) (names : List (List ℕ)) (bindings : List (Named T)) (name : List ℕ) (height : ℕ) (b : Bool) → bytes_eq name other ≡ b → length bindings ≡ length names → height < suc (length bindings)
      → nat_lt height (place_of names name) ≡ has name (take (length bindings - height) bindings)
      → nat_lt height (place_of (other ∷ names) name) ≡ has name (take (suc (length bindings) - height) (record { name = other; value = value } ∷ bindings))
  since_within other value names bindings name height true is same less rest =
      let next : suc (length bindings) - height ≡ suc (length bindings - height) = omega (arith, less) in
      ap (λ (b : Bool). nat_lt height (if b then suc (length names) else place_of names name)) is
      ∙ above (suc (length names)) height (omega (arith, less, same))
      ∙ sym (ap (λ (b : Bool). b || has name (take (length bindings - height) bindings)) is)
      ∙ sym (ap (λ n. has name (take n (record { name = other; value = value } ∷ bindings))) next)
  since_within other value names bindings name height false is same less rest =
      let next : suc (length bindings) - height ≡ suc (length bindings - height) = omega (arith, less) in
      ap (λ (b : Bool). nat_lt height (if b then suc (length names) else place_of names name)) is
      ∙ rest
      ∙ sym (ap (λ (b : Bool). b || has name (take (length bindings - height) bindings)) is)
      ∙ sym (ap (λ n. has name (take n (record { name = other; value = value } ∷ bindings))) next)

  since_over : (binding : Named T) (names : List (List ℕ)) (bindings : List (Named T)) (name : List ℕ) (height : ℕ) → length (binding ∷ bindings) ≡ length names → length (binding ∷ bindings) ≤ height
      → nat_lt height (place_of names name) ≡ has name (take (length (binding ∷ bindings) - height) (binding ∷ bindings))
  since_over binding names bindings name height same le =
      let place = place_within names name in
      let none : length (binding ∷ bindings) - height ≡ 0 = omega (arith, le) in
      below (place_of names name) height (omega (arith, place, same, le)) ∙ sym (ap (λ n. has name (take n (binding ∷ bindings))) none)

  -- A name was declared since the height where its place is above it.
  pub since : (names : List (List ℕ)) (values : List T) (name : List ℕ) (height : ℕ) → length values ≡ length names
      → nat_lt height (place_of names name) ≡ has name (take (length (bound names values) - height) (bound names values))
  since [] values name height same = below 0 height (omega arith) ∙ sym (nothing (length (bound [] values) - height))
    where
      nothing : (n : ℕ) → has name (take n []) ≡ false
      nothing zero = refl
      nothing (suc n) = refl
  since (other ∷ names) [] name height same = absurd (let no : ⊥ = omega (arith, same) in no)
  since (other ∷ names) (value ∷ values) name height same =
      let shorter : length values ≡ length names = omega (arith, same) in
      let long : length (bound names values) ≡ length names = long_bound names values shorter ∙ shorter in
      cases (less_or_not height (suc (length (bound names values)))) long (since names values name height shorter)
    where
      cases : (height < suc (length (bound names values))) ⊎ (suc (length (bound names values)) ≤ height) → length (bound names values) ≡ length names
          → nat_lt height (place_of names name) ≡ has name (take (length (bound names values) - height) (bound names values))
          → nat_lt height (place_of (other ∷ names) name) ≡ has name (take (length (bound (other ∷ names) (value ∷ values)) - height) (bound (other ∷ names) (value ∷ values)))
      cases (inl less) long rest = since_within other value names (bound names values) name height (bytes_eq name other) refl long less rest
      cases (inr le) long rest = since_over (record { name = other; value = value }) (other ∷ names) (bound names values) name height (ap suc long) le

  -- one binding less
  pub left : (bindings : List (Named T)) (height : ℕ) → height < length bindings → drop (length (drop 1 bindings) - height) (drop 1 bindings) ≡ drop (length bindings - height) bindings
  left [] height within = absurd (let no : ⊥ = omega (arith, within) in no)
  left (binding ∷ bindings) height within = let next : suc (length bindings) - height ≡ suc (length bindings - height) = omega (arith, within) in sym (ap (λ n. drop n (binding ∷ bindings)) next)

pub before : (n : ℕ) → (n ≡ 0 → ⊥) → n ≡ suc (n - 1)
before zero some = absurd (some refl)
before (suc n) some = omega arith
