-- The low bits of a number, read with and without a sign.
use Rattle.std.proofs.Common.{◌≡◌, ℕ, suc, nat_lt, if◌then◌else◌, ◌-◌, ◌%◌, ◌^◌, ◌<◌, true, false, ℤ, pos, negsuc, ◌≤ℤ◌, refl, ap, arith, FitsSigned, to_z, of_z}
use Rattle.std.specs.Int.{w8, w16, w32, w64}
use Rattle.std.proofs.Math.Nat.{mod-eq_of_lt}
use Rattle.std.proofs.lemmas.Int.{ints}
use Rattle.rvt_num.specs.declared.kinds.Kind.{Kind}
use Rattle.rvt_num.specs.declared.kinds.Kind.TheVariants.{Bool as BoolKind, I8, U8, I16, U16, I32, U32, I64, U64}
use Rattle.rvt_num.specs.Kinds.{IsOf}
use Rattle.rvt_num.specs.Wrapping.{pattern_of, signed_reading}
use Rattle.c_cells.specs.Contents.{is_short}

pub reading_8 : (n : ℕ) → to_z w8 n ≡ signed_reading 8 n
reading_8 n = let e : 2 ^ 8 - suc n ≡ 2 ^ 8 - 1 - n = omega arith in ap (λ m. if nat_lt n (2 ^ 7) then pos n else negsuc m) e

pub reading_16 : (n : ℕ) → to_z w16 n ≡ signed_reading 16 n
reading_16 n = let e : 2 ^ 16 - suc n ≡ 2 ^ 16 - 1 - n = omega arith in ap (λ m. if nat_lt n (2 ^ 15) then pos n else negsuc m) e

pub reading_32 : (n : ℕ) → to_z w32 n ≡ signed_reading 32 n
reading_32 n = let e : 2 ^ 32 - suc n ≡ 2 ^ 32 - 1 - n = omega arith in ap (λ m. if nat_lt n (2 ^ 31) then pos n else negsuc m) e

-- a number of a short kind fits 64 bits with a sign
pub short_fits : (kind : Kind) (z : ℤ) → is_short kind ≡ true → IsOf kind z → (negsuc (2 ^ 63 - 1) ≤ℤ z) × (z ≤ℤ pos (2 ^ 63 - 1))
short_fits BoolKind z s i = let l = i.low in let h = i.high in (omega (arith, ints), omega (arith, ints))
short_fits I8 z s i = let l = i.low in let h = i.high in (omega (arith, ints), omega (arith, ints))
short_fits U8 z s i = let l = i.low in let h = i.high in (omega (arith, ints), omega (arith, ints))
short_fits I16 z s i = let l = i.low in let h = i.high in (omega (arith, ints), omega (arith, ints))
short_fits U16 z s i = let l = i.low in let h = i.high in (omega (arith, ints), omega (arith, ints))
short_fits I32 z s i = let l = i.low in let h = i.high in (omega (arith, ints), omega (arith, ints))
short_fits U32 z s i = let l = i.low in let h = i.high in (omega (arith, ints), omega (arith, ints))
short_fits I64 z s i = (i.low, i.high)
short_fits U64 z s i = cc

-- the other kind has no negative numbers
pub long_fits : (kind : Kind) (z : ℤ) → is_short kind ≡ false → IsOf kind z → (kind ≡ U64) × (pos 0 ≤ℤ z) × (z ≤ℤ pos (2 ^ 64 - 1))
long_fits BoolKind z s i = cc
long_fits I8 z s i = cc
long_fits U8 z s i = cc
long_fits I16 z s i = cc
long_fits U16 z s i = cc
long_fits I32 z s i = cc
long_fits U32 z s i = cc
long_fits I64 z s i = cc
long_fits U64 z s i = (refl, i.low, i.high)

-- 64 bits of a number that fits them
pub pattern_of_negative : (n : ℕ) → n < 2 ^ 64 → pattern_of 64 (negsuc n) ≡ of_z w64 (negsuc n)
pattern_of_negative n s = let e : n % 2 ^ 64 ≡ n = mod-eq_of_lt s in omega arith

pub pattern_unsigned : (z : ℤ) → FitsSigned w64 z → pattern_of 64 z ≡ of_z w64 z
pattern_unsigned (pos n) f = let s = f.sfits in mod-eq_of_lt (omega arith)
pattern_unsigned (negsuc n) f = let s = f.sfits in pattern_of_negative n (omega arith)
