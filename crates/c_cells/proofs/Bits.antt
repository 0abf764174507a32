-- Operations on bits where 64 bits are enough.
use Rattle.std.proofs.Common.{◌≡◌, ℕ, ◌-◌, ◌^◌, ◌<◌, bit_and, bit_or, bit_xor, ℤ, pos, negsuc, ◌≤ℤ◌, to_z, of_z, sym, ◌∙◌, arith}
use Rattle.std.specs.Int.{w64}
use Rattle.std.proofs.Math.Nat.{mod-eq_of_lt}
use Rattle.std.proofs.lemmas.Int.{ints, to_z_pos}
use Rattle.std.proofs.lemmas.Nat.{and_le_l, or_lt, xor_lt}
use Rattle.rvt_num.specs.declared.kinds.Kind.{Kind}
use Rattle.rvt_num.specs.declared.kinds.Kind.TheVariants.{Bool as BoolKind, I8, U8, I16, U16, I32, U32, I64, U64}
use Rattle.rvt_num.specs.Kinds.{width, IsOf}
use Rattle.rvt_num.specs.Wrapping.{pattern_of}

-- ---- the bits of numbers that are not negative
bits_same : (kind : Kind) (n : ℕ) → IsOf kind (pos n) → pattern_of (width kind) (pos n) ≡ n
bits_same BoolKind n i = let h = i.high in mod-eq_of_lt {n = n} {m = 2} (omega (arith, ints))
bits_same I8 n i = let h = i.high in mod-eq_of_lt {n = n} {m = 2 ^ 8} (omega (arith, ints))
bits_same U8 n i = let h = i.high in mod-eq_of_lt {n = n} {m = 2 ^ 8} (omega (arith, ints))
bits_same I16 n i = let h = i.high in mod-eq_of_lt {n = n} {m = 2 ^ 16} (omega (arith, ints))
bits_same U16 n i = let h = i.high in mod-eq_of_lt {n = n} {m = 2 ^ 16} (omega (arith, ints))
bits_same I32 n i = let h = i.high in mod-eq_of_lt {n = n} {m = 2 ^ 32} (omega (arith, ints))
bits_same U32 n i = let h = i.high in mod-eq_of_lt {n = n} {m = 2 ^ 32} (omega (arith, ints))
bits_same I64 n i = let h = i.high in mod-eq_of_lt {n = n} {m = 2 ^ 64} (omega (arith, ints))
bits_same U64 n i = let h = i.high in mod-eq_of_lt {n = n} {m = 2 ^ 64} (omega (arith, ints))

-- 64 bits of numbers that are not negative
pub bits_and : (kind other : Kind) (x y : ℤ) → IsOf kind x → IsOf other y → pos 0 ≤ℤ x → pos 0 ≤ℤ y → x ≤ℤ pos (2 ^ 63 - 1) → y ≤ℤ pos (2 ^ 63 - 1) → to_z w64 (bit_and (of_z w64 x) (of_z w64 y)) ≡ pos (bit_and (pattern_of (width kind) x) (pattern_of (width other) y))
bits_and kind other (pos n) (pos m) i j low low' high high' =
    let small : bit_and n m < 2 ^ 63 = let le = and_le_l n m in omega (arith, ints) in
    to_z_pos w64 (bit_and n m) small ∙ (λ k. pos (bit_and (sym (bits_same kind n i) k) (sym (bits_same other m j) k)))
bits_and kind other (pos n) (negsuc m) i j low low' high high' = absurd (omega (arith, ints))
bits_and kind other (negsuc n) y i j low low' high high' = absurd (omega (arith, ints))

pub bits_or : (kind other : Kind) (x y : ℤ) → IsOf kind x → IsOf other y → pos 0 ≤ℤ x → pos 0 ≤ℤ y → x ≤ℤ pos (2 ^ 63 - 1) → y ≤ℤ pos (2 ^ 63 - 1) → to_z w64 (bit_or (of_z w64 x) (of_z w64 y)) ≡ pos (bit_or (pattern_of (width kind) x) (pattern_of (width other) y))
bits_or kind other (pos n) (pos m) i j low low' high high' =
    let small : bit_or n m < 2 ^ 63 = or_lt 63 n m (omega (arith, ints)) (omega (arith, ints)) in
    to_z_pos w64 (bit_or n m) small ∙ (λ k. pos (bit_or (sym (bits_same kind n i) k) (sym (bits_same other m j) k)))
bits_or kind other (pos n) (negsuc m) i j low low' high high' = absurd (omega (arith, ints))
bits_or kind other (negsuc n) y i j low low' high high' = absurd (omega (arith, ints))

pub bits_xor : (kind other : Kind) (x y : ℤ) → IsOf kind x → IsOf other y → pos 0 ≤ℤ x → pos 0 ≤ℤ y → x ≤ℤ pos (2 ^ 63 - 1) → y ≤ℤ pos (2 ^ 63 - 1) → to_z w64 (bit_xor (of_z w64 x) (of_z w64 y)) ≡ pos (bit_xor (pattern_of (width kind) x) (pattern_of (width other) y))
bits_xor kind other (pos n) (pos m) i j low low' high high' =
    let small : bit_xor n m < 2 ^ 63 = xor_lt 63 n m (omega (arith, ints)) (omega (arith, ints)) in
    to_z_pos w64 (bit_xor n m) small ∙ (λ k. pos (bit_xor (sym (bits_same kind n i) k) (sym (bits_same other m j) k)))
bits_xor kind other (pos n) (negsuc m) i j low low' high high' = absurd (omega (arith, ints))
bits_xor kind other (negsuc n) y i j low low' high high' = absurd (omega (arith, ints))
