-- Numbers far within 128 bits, as the code reads them.
use Rattle.std.proofs.Common.{◌≡◌, ◌^◌, ◌<◌, ℤ, pos, ◌-ℤ◌, neg_ℤ, unsigned_abs, FitsSigned, to_z, of_z, sym, ap, subst, ◌∙◌, arith}
use Rattle.std.specs.Int.{w128}
use Rattle.std.proofs.lemmas.Int.{ints, to_z-of_z, fits_signed_from_abs}

small_fits : (x : ℤ) → unsigned_abs x < 2 ^ 96 → FitsSigned w128 x
small_fits x small = fits_signed_from_abs w128 x (omega (arith, small))

zero_minus : (x : ℤ) → pos 0 -ℤ x ≡ neg_ℤ x
zero_minus x = omega (arith, ints)

minus_small : (x : ℤ) → unsigned_abs x < 2 ^ 96 → unsigned_abs (pos 0 -ℤ x) < 2 ^ 96
minus_small x small = omega (arith, ints, small)

pub read_back : (x : ℤ) → FitsSigned w128 x → to_z w128 (of_z w128 x) ≡ x
read_back x fits = to_z-of_z w128 x fits

pub small_read : (x : ℤ) → unsigned_abs x < 2 ^ 96 → to_z w128 (of_z w128 x) ≡ x
small_read x small = to_z-of_z w128 x (small_fits x small)

pub negated_fits : (x : ℤ) → unsigned_abs x < 2 ^ 96 → FitsSigned w128 (pos 0 -ℤ to_z w128 (of_z w128 x))
negated_fits x small = subst (λ y. FitsSigned w128 (pos 0 -ℤ y)) (sym (small_read x small)) (small_fits (pos 0 -ℤ x) (minus_small x small))

pub negated_read : (x : ℤ) → unsigned_abs x < 2 ^ 96 → to_z w128 (of_z w128 (pos 0 -ℤ to_z w128 (of_z w128 x))) ≡ neg_ℤ x
negated_read x small =
    to_z-of_z w128 (pos 0 -ℤ to_z w128 (of_z w128 x)) (negated_fits x small) ∙ ap (λ y. pos 0 -ℤ y) (small_read x small) ∙ zero_minus x
