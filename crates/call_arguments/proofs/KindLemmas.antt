-- A number of a kind stays as it is when it is converted to the kind.
use Rattle.std.proofs.Common.{◌≡◌, ℕ, zero, suc, ◌+◌, ◌-◌, ◌%◌, ◌^◌, ◌<◌, ◌≤◌, ◌⊎◌, nat_lt, Bool, true, false, if◌then◌else◌, refl, sym, ◌∙◌, ap, inl, inr, arith}
use Rattle.std.specs.Prelude.{ℤ, pos, negsuc, ◌≤ℤ◌}
use Rattle.std.proofs.lemmas.Int.{ints}
use Rattle.std.proofs.Math.Nat.{mod-eq_of_lt}
use Rattle.rvt_num.specs.Kinds.{IsOf, width, is_signed, least, greatest}
use Rattle.rvt_num.specs.Wrapping.{wrap}
use Rattle.rvt_num.specs.declared.kinds.Kind.{Kind}
use Rattle.rvt_num.specs.declared.kinds.Kind.TheVariants.{Bool as BoolKind, I8, U8, I16, U16, I32, U32, I64, U64}
use Rattle.call_arguments.proofs.WordLemmas.{IsLarge}

below : (n h : ℕ) → n < h → nat_lt n h ≡ true
below n h low = grind (arith, low)

above : (n h : ℕ) → h ≤ n → nat_lt n h ≡ false
above n h high = grind (arith, high)

-- what a pattern stands for, where half of them are those of negative numbers
abbrev pub signed_at : ℕ → ℕ → ℕ → ℤ
signed_at h m n = if nat_lt n h then pos n else negsuc (m - 1 - n)

signed_pos : (h m n : ℕ) → m ≡ h + h → n < h → signed_at h m (n % m) ≡ pos n
signed_pos h m n double low =
    let whole : n % m ≡ n = mod-eq_of_lt (omega (arith, double, low)) in
    ap (signed_at h m) whole ∙ ap (λ (b : Bool). if b then pos n else negsuc (m - 1 - n)) (below n h low)

signed_negsuc : (h m n : ℕ) → m ≡ h + h → n < h → signed_at h m (m - 1 - n % m) ≡ negsuc n
signed_negsuc h m n double low =
    let whole : n % m ≡ n = mod-eq_of_lt (omega (arith, double, low)) in
    let high : h ≤ m - 1 - n = omega (arith, double, low) in
    let back : m - 1 - (m - 1 - n) ≡ n = omega (arith, double, low) in
    ap (λ (k : ℕ). signed_at h m (m - 1 - k)) whole ∙ ap (λ (b : Bool). if b then pos (m - 1 - n) else negsuc (m - 1 - (m - 1 - n))) (above (m - 1 - n) h high) ∙ ap negsuc back

unsigned_pos : (m n : ℕ) → n < m → pos (n % m) ≡ pos n
unsigned_pos m n low = ap pos (mod-eq_of_lt low)

pub kept : (kind : Kind) (z : ℤ) → IsOf kind z → wrap kind z ≡ z
kept BoolKind (pos zero) is = refl
kept BoolKind (pos (suc n)) is = let high : pos (suc n) ≤ℤ pos 1 = is.high in let none : n ≡ 0 = omega (arith, ints, high) in ap (λ (k : ℕ). pos (suc k)) (sym none)
kept BoolKind (negsuc n) is = let low : pos 0 ≤ℤ negsuc n = is.low in absurd (omega (arith, ints, low))
kept I8 (pos n) is = let high : pos n ≤ℤ pos 127 = is.high in signed_pos 128 256 n refl (omega (arith, ints, high))
kept I8 (negsuc n) is = let low : negsuc 127 ≤ℤ negsuc n = is.low in signed_negsuc 128 256 n refl (omega (arith, ints, low))
kept U8 (pos n) is = let high : pos n ≤ℤ pos 255 = is.high in unsigned_pos 256 n (omega (arith, ints, high))
kept U8 (negsuc n) is = let low : pos 0 ≤ℤ negsuc n = is.low in absurd (omega (arith, ints, low))
kept I16 (pos n) is = let high : pos n ≤ℤ pos 32767 = is.high in signed_pos 32768 65536 n refl (omega (arith, ints, high))
kept I16 (negsuc n) is = let low : negsuc 32767 ≤ℤ negsuc n = is.low in signed_negsuc 32768 65536 n refl (omega (arith, ints, low))
kept U16 (pos n) is = let high : pos n ≤ℤ pos 65535 = is.high in unsigned_pos 65536 n (omega (arith, ints, high))
kept U16 (negsuc n) is = let low : pos 0 ≤ℤ negsuc n = is.low in absurd (omega (arith, ints, low))
kept I32 (pos n) is = let high : pos n ≤ℤ pos 2147483647 = is.high in signed_pos 2147483648 4294967296 n refl (omega (arith, ints, high))
kept I32 (negsuc n) is = let low : negsuc 2147483647 ≤ℤ negsuc n = is.low in signed_negsuc 2147483648 4294967296 n refl (omega (arith, ints, low))
kept U32 (pos n) is = let high : pos n ≤ℤ pos 4294967295 = is.high in unsigned_pos 4294967296 n (omega (arith, ints, high))
kept U32 (negsuc n) is = let low : pos 0 ≤ℤ negsuc n = is.low in absurd (omega (arith, ints, low))
kept I64 (pos n) is = let high : pos n ≤ℤ pos 9223372036854775807 = is.high in signed_pos 9223372036854775808 18446744073709551616 n refl (omega (arith, ints, high))
kept I64 (negsuc n) is = let low : negsuc 9223372036854775807 ≤ℤ negsuc n = is.low in signed_negsuc 9223372036854775808 18446744073709551616 n refl (omega (arith, ints, low))
kept U64 (pos n) is = let high : pos n ≤ℤ pos 18446744073709551615 = is.high in unsigned_pos 18446744073709551616 n (omega (arith, ints, high))
kept U64 (negsuc n) is = let low : pos 0 ≤ℤ negsuc n = is.low in absurd (omega (arith, ints, low))

-- no kind has numbers so large
bounded : (low high z : ℤ) → negsuc 9223372036854775807 ≤ℤ low → high ≤ℤ pos 18446744073709551615 → low ≤ℤ z → z ≤ℤ high → IsLarge z → ⊥
bounded low high z least most from to (inl over) = omega (arith, ints, most, to, over)
bounded low high z least most from to (inr under) = omega (arith, ints, least, from, under)

pub not_large : (kind : Kind) (z : ℤ) → IsOf kind z → IsLarge z → ⊥
not_large BoolKind z is large = bounded (pos 0) (pos 1) z (omega (arith, ints)) (omega (arith, ints)) is.low is.high large
not_large I8 z is large = bounded (negsuc 127) (pos 127) z (omega (arith, ints)) (omega (arith, ints)) is.low is.high large
not_large U8 z is large = bounded (pos 0) (pos 255) z (omega (arith, ints)) (omega (arith, ints)) is.low is.high large
not_large I16 z is large = bounded (negsuc 32767) (pos 32767) z (omega (arith, ints)) (omega (arith, ints)) is.low is.high large
not_large U16 z is large = bounded (pos 0) (pos 65535) z (omega (arith, ints)) (omega (arith, ints)) is.low is.high large
not_large I32 z is large = bounded (negsuc 2147483647) (pos 2147483647) z (omega (arith, ints)) (omega (arith, ints)) is.low is.high large
not_large U32 z is large = bounded (pos 0) (pos 4294967295) z (omega (arith, ints)) (omega (arith, ints)) is.low is.high large
not_large I64 z is large = bounded (negsuc 9223372036854775807) (pos 9223372036854775807) z (omega (arith, ints)) (omega (arith, ints)) is.low is.high large
not_large U64 z is large = bounded (pos 0) (pos 18446744073709551615) z (omega (arith, ints)) (omega (arith, ints)) is.low is.high large
