-- Where the elements of mapped and joined lists stand.
use Rattle.std.proofs.Common.{◌≡◌, inl, inr, ℕ, zero, suc, ◌+◌, ◌<◌, List, [], ◌∷◌, ◌++◌, map, flat_map, length, Some, None, take, refl, sym, ap, subst, get_or, ◌∙◌}
use Rattle.std.proofs.lemmas.List.{flat_map_more, take_more}
use Rattle.call_graph.proofs.Lists.{append_keeps, append_new, append_cases}
use Rattle.call_graph.specs.Graphs.{At}

pub at_map : {X Y : Type 0} (f : X → Y) (xs : List X) (k : ℕ) (y : Y) → At (map f xs) k y → (x : X) × At xs k x × (f x ≡ y)
at_map f [] k y h = absurd (cc)
at_map f (x ∷ xs) zero y h = (x, refl, cc)
at_map f (x ∷ xs) (suc k) y h = at_map f xs k y h

pub map_at : {X Y : Type 0} (f : X → Y) (xs : List X) (k : ℕ) (x : X) → At xs k x → At (map f xs) k (f x)
map_at f [] k x h = absurd (cc)
map_at f (z ∷ xs) zero x h = cc
map_at f (z ∷ xs) (suc k) x h = map_at f xs k x h

pub map-map : {X Y Z : Type 0} (g : Y → Z) (f : X → Y) (xs : List X) → map g (map f xs) ≡ map (λ x. g (f x)) xs
map-map g f [] = refl
map-map g f (x ∷ xs) = ap (λ rest. g (f x) ∷ rest) (map-map g f xs)

-- what stands in the lists of all elements stands in that of one of them
pub at_flat_map : {X Y : Type 0} (f : X → List Y) (xs : List X) (k : ℕ) (y : Y) → At (flat_map f xs) k y → (i : ℕ) × (x : X) × (j : ℕ) × At xs i x × At (f x) j y
at_flat_map f [] k y h = absurd (cc)
at_flat_map f (x ∷ xs) k y h = elim (append_cases (f x) (flat_map f xs) k y h) [
  | inl here ↦ (0, x, k, refl, here)
  | inr later ↦ let r = at_flat_map f xs later.0 y later.2 in (suc r.0, r.1, r.2, r.3, r.4)
]

pub flat_map_at : {X Y : Type 0} (f : X → List Y) (xs : List X) (i : ℕ) (x : X) (j : ℕ) (y : Y) → At xs i x → At (f x) j y → (k : ℕ) × At (flat_map f xs) k y
flat_map_at f [] i x j y h g = absurd (let q : None ≡ Some x = h in cc)
flat_map_at f (z ∷ xs) zero x j y h g = let same : x ≡ z = cc in (j, append_keeps (f z) (flat_map f xs) j y (subst (λ w. At (f w) j y) same g))
flat_map_at f (z ∷ xs) (suc i) x j y h g = let r = flat_map_at f xs i x j y h g in (length (f z) + r.0, append_new (f z) (flat_map f xs) r.0 (length (f z) + r.0) y refl r.1)

-- the list of one element more, beside what stood before
pub flat_map_next : {X Y : Type 0} (f : X → List Y) (before : List Y) (xs : List X) (i : ℕ) (d : X) → i < length xs → (before ++ flat_map f (take i xs)) ++ f (get_or xs i d) ≡ before ++ flat_map f (take (i + 1) xs)
flat_map_next f before xs i d h = flat_map_more f before (take i xs) (get_or xs i d) ∙ ap (λ l. before ++ flat_map f l) (sym (take_more xs i d h))
