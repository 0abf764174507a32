-- A number times a size is far within 128 bits.
use Rattle.std.proofs.Common.{◌≡◌, ℕ, ◌*◌, ◌-◌, ◌^◌, ◌<◌, ◌≤◌, ℤ, pos, negsuc, ◌≤ℤ◌, ◌*ℤ◌, unsigned_abs, FitsSigned, to_z, of_z, sym, ap, subst, ◌∙◌, arith}
use Rattle.std.specs.Int.{w128}
use Rattle.std.proofs.Math.Nat.{mul-le-mul_left}
use Rattle.std.proofs.Math.Dec.{lit<}
use Rattle.std.proofs.lemmas.Int.{ints, to_z-of_z, fits_signed_mul, unsigned_abs-mul}

abs_small : (x : ℤ) → negsuc (2 ^ 63 - 1) ≤ℤ x → x ≤ℤ pos (2 ^ 64 - 1) → unsigned_abs x ≤ 2 ^ 64 - 1
abs_small (pos n) l h = omega (arith, ints)
abs_small (negsuc n) l h = omega (arith, ints)

product_small : (x : ℤ) (n : ℕ) → unsigned_abs x ≤ 2 ^ 64 - 1 → n < 2 ^ 32 → unsigned_abs (x *ℤ pos n) < 2 ^ 96
product_small x n small few =
    let less : n ≤ 2 ^ 32 - 1 = omega arith in
    let product : unsigned_abs x * n ≤ unsigned_abs x * (2 ^ 32 - 1) = mul-le-mul_left (unsigned_abs x) less in
    omega (arith, unsigned_abs-mul x (pos n), product)

module _ (x y : ℤ) (n : ℕ) (low : negsuc (2 ^ 63 - 1) ≤ℤ x) (high : x ≤ℤ pos (2 ^ 64 - 1)) (e : y ≡ pos n) (few : n < 2 ^ 32) where
  small : FitsSigned w128 x
  small = omega (arith, ints)

  small' : FitsSigned w128 (pos n)
  small' = omega (arith, ints)

  product_fits : FitsSigned w128 (x *ℤ pos n)
  product_fits = fits_signed_mul w128 x (pos n) (2 ^ 64 - 1) (2 ^ 32) (abs_small x low high) (omega arith) (lit< tt)

  times_is : to_z w128 (of_z w128 (to_z w128 (of_z w128 x) *ℤ to_z w128 (of_z w128 y))) ≡ x *ℤ pos n
  times_is =
      ap (λ z. to_z w128 (of_z w128 (to_z w128 (of_z w128 x) *ℤ to_z w128 (of_z w128 z)))) e
      ∙ ap (λ z. to_z w128 (of_z w128 (z *ℤ to_z w128 (of_z w128 (pos n))))) (to_z-of_z w128 x small)
      ∙ ap (λ z. to_z w128 (of_z w128 (x *ℤ z))) (to_z-of_z w128 (pos n) small')
      ∙ to_z-of_z w128 (x *ℤ pos n) product_fits

  pub times_small : unsigned_abs (to_z w128 (of_z w128 (to_z w128 (of_z w128 x) *ℤ to_z w128 (of_z w128 y)))) < 2 ^ 96
  times_small = subst (λ z. unsigned_abs z < 2 ^ 96) (sym times_is) (product_small x n (abs_small x low high) few)
