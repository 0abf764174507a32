-- The cells of a type, by a product that grows from the outermost array on.
use Rattle.std.proofs.Common.{◌≡◌, ℕ, zero, suc, ◌*◌, ◌⊎◌, inl, inr, ◌<◌, ◌≤◌, nat_le, true, false, min, Option, Some, None, option_map, refl, ap, sym, ◌∙◌, arith}
use Rattle.std.proofs.lemmas.Bool.Decides.{leb_tells}

-- saturating twice is saturating once
scaled_by : (p n : ℕ) → ((nat_le p 4294967295 ≡ true) × (p ≤ 4294967295)) ⊎ ((nat_le p 4294967295 ≡ false) × (4294967295 < p))
    → min 4294967295 (p * n) ≡ min 4294967295 (min 4294967295 p * n)
scaled_by p n (inl le) = let e : min 4294967295 p ≡ p = omega (arith, le.1) in rw e refl
scaled_by p zero (inr lt) = grind arith
scaled_by p (suc k) (inr lt) =
    let e : min 4294967295 p ≡ 4294967295 = omega (arith, lt.1) in
    let many : 4294967295 ≤ p * suc k = grind (arith, lt.1) in
    let some : 4294967295 ≤ 4294967295 * suc k = omega arith in
    let left : min 4294967295 (p * suc k) ≡ 4294967295 = omega (arith, many) in
    let right : min 4294967295 (4294967295 * suc k) ≡ 4294967295 = omega (arith, some) in
    rw e (left ∙ sym right)

pub scaled : (p n : ℕ) → min 4294967295 (p * n) ≡ min 4294967295 (min 4294967295 p * n)
scaled p n = scaled_by p n (leb_tells p 4294967295)

pub min_times : (a b n : ℕ) → min 4294967295 (a * (b * n)) ≡ min 4294967295 (min 4294967295 (a * b) * n)
min_times a b n =
    let e : a * (b * n) ≡ a * b * n = grind arith in
    rw e (scaled (a * b) n)

pub cells_of_items : (count : ℕ) (cells : Option ℕ)
    → option_map (min 4294967295) (option_map (λ n. count * n) cells) ≡ option_map (λ n. min 4294967295 (count * n)) (option_map (min 4294967295) cells)
cells_of_items count None = refl
cells_of_items count (Some n) =
    let e : count * n ≡ n * count = grind arith in
    let e' : count * min 4294967295 n ≡ min 4294967295 n * count = grind arith in
    rw (e, e') (ap Some (scaled n count))

pub cells_of_whole : (cells : Option ℕ) → option_map (min 4294967295) cells ≡ option_map (λ n. min 4294967295 (1 * n)) cells
cells_of_whole None = refl
cells_of_whole (Some n) = grind arith

pub cells_of_item : (factor count : ℕ) (cells : Option ℕ)
    → option_map (λ n. min 4294967295 (factor * n)) (option_map (λ n. count * n) cells) ≡ option_map (λ n. min 4294967295 (min 4294967295 (factor * count) * n)) cells
cells_of_item factor count None = refl
cells_of_item factor count (Some n) = ap Some (min_times factor count n)
