-- A number of a kind stays as it is.
use Rattle.std.proofs.Common.{◌≡◌, ◌<◌, ◌-◌, ◌%◌, nat_lt, true, false, refl, arith}
use Rattle.std.specs.Prelude.{ℤ, pos, negsuc, ◌≤ℤ◌}
use Rattle.std.proofs.lemmas.Int.{ints}
use Rattle.rvt_num.specs.Kinds.{IsOf}
use Rattle.rvt_num.specs.Wrapping.{wrapped}
use Rattle.rvt_num.specs.declared.kinds.Kind.TheVariants.{I32}

pub wrapped_int : (z : ℤ) → IsOf I32 z → wrapped I32 z ≡ record { kind = I32; value = z }
wrapped_int (pos n) is =
    let high : pos n ≤ℤ pos 2147483647 = is.high in
    let small : n < 2147483648 = omega (arith, ints, high) in
    let whole : n % 4294967296 ≡ n = grind (arith, small) in
    let below : nat_lt n 2147483648 ≡ true = grind (arith, small) in
    rw (whole, below) refl
wrapped_int (negsuc n) is =
    let low : negsuc 2147483647 ≤ℤ negsuc n = is.low in
    let small : n < 2147483648 = omega (arith, ints, low) in
    let whole : n % 4294967296 ≡ n = grind (arith, small) in
    let above : nat_lt (4294967295 - n) 2147483648 ≡ false = grind (arith, small) in
    let back : 4294967295 - (4294967295 - n) ≡ n = omega (arith, small) in
    rw (whole, above, back) refl
