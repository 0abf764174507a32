-- Numbers that a kind has are wrapped to themselves, and products are wrapped by their patterns.
use Rattle.std.proofs.Common.{◌≡◌, ℕ, zero, suc, ◌+◌, ◌-◌, ◌*◌, ◌%◌, ◌^◌, ◌<◌, ◌≢◌, ℤ, pos, negsuc, ◌*ℤ◌, ◌≤ℤ◌, refl, sym, ap, ◌∙◌, arith, unsigned_abs}
use Rattle.std.proofs.Math.Nat.{mod-eq_of_lt, mul-pos, mul-zero, zero-mul}
use Rattle.std.proofs.Math.Pow.{pow_pos}
use Rattle.std.proofs.lemmas.Int.{ints, unsigned_abs-mul}
use Rattle.rvt_num.specs.declared.kinds.Kind.{Kind}
use Rattle.rvt_num.specs.declared.kinds.Kind.TheVariants.{Bool as BoolKind, I8, U8, I16, U16, I32, U32, I64, U64}
use Rattle.rvt_num.specs.declared.values.Value.TheVariants as V
use Rattle.rvt_num.specs.Number.{Number}
use Rattle.rvt_num.specs.Kinds.{width, IsOf}
use Rattle.rvt_num.specs.Wrapping.{pattern_of, signed_reading, truth_of, wrap, wrapped}
use Rattle.c_cells.specs.Contents.{numeral}
use Rattle.rvt_num.proofs.Patterns.{pattern-mul}
use Rattle.rvt_num.proofs.Readings.{signed_reading_low, signed_reading_high, wrap_by_pattern, cut_to_kind}

-- ---- numbers in range

signed_same : (w h : ℕ) (z : ℤ) → h ≡ 2 ^ (w - 1) → 2 ^ w ≡ h + h → negsuc (h - 1) ≤ℤ z → z ≤ℤ pos (h - 1) → 0 < h → signed_reading w (pattern_of w z) ≡ z
signed_same w h (pos n) e d low high p =
    let small : n < h = omega (arith, ints) in
    ap (signed_reading w) (mod-eq_of_lt {n = n} {m = 2 ^ w} (omega arith)) ∙ signed_reading_low w n (omega arith)
signed_same w h (negsuc n) e d low high p =
    let small : n < h = omega (arith, ints) in
    let rest : n % 2 ^ w ≡ n = mod-eq_of_lt (omega arith) in
    ap (λ m. signed_reading w (2 ^ w - 1 - m)) rest ∙ signed_reading_high w (2 ^ w - 1 - n) (omega arith) ∙ ap negsuc (omega arith)

unsigned_same : (w : ℕ) (z : ℤ) → pos 0 ≤ℤ z → z ≤ℤ pos (2 ^ w - 1) → pos (pattern_of w z) ≡ z
unsigned_same w (pos n) low high = let p = pow_pos w in ap pos (mod-eq_of_lt {n = n} {m = 2 ^ w} (omega (arith, ints)))
unsigned_same w (negsuc n) low high = absurd (omega (arith, ints))

bool_same : (z : ℤ) → pos 0 ≤ℤ z → z ≤ℤ pos 1 → truth_of z ≡ z
bool_same (pos zero) low high = refl
bool_same (pos (suc n)) low high = omega (arith, ints)
bool_same (negsuc n) low high = absurd (omega (arith, ints))

pub wrap_in_range : (kind : Kind) (z : ℤ) → IsOf kind z → wrap kind z ≡ z
wrap_in_range BoolKind z i = bool_same z i.low i.high
wrap_in_range I8 z i = signed_same 8 (2 ^ 7) z refl refl i.low i.high (omega arith)
wrap_in_range U8 z i = unsigned_same 8 z i.low i.high
wrap_in_range I16 z i = signed_same 16 (2 ^ 15) z refl refl i.low i.high (omega arith)
wrap_in_range U16 z i = unsigned_same 16 z i.low i.high
wrap_in_range I32 z i = signed_same 32 (2 ^ 31) z refl refl i.low i.high (omega arith)
wrap_in_range U32 z i = unsigned_same 32 z i.low i.high
wrap_in_range I64 z i = signed_same 64 (2 ^ 63) z refl refl i.low i.high (omega arith)
wrap_in_range U64 z i = unsigned_same 64 z i.low i.high

-- ---- products

truth_by_size : (z : ℤ) → truth_of z ≡ truth_of (pos (unsigned_abs z))
truth_by_size (pos n) = refl
truth_by_size (negsuc n) = refl

truth_above : (n : ℕ) → 0 < n → truth_of (pos n) ≡ pos 1
truth_above zero p = absurd (omega arith)
truth_above (suc n) p = refl

truth_of_product : (x y : ℤ) → truth_of (x *ℤ y) ≡ truth_of (pos (unsigned_abs x * unsigned_abs y))
truth_of_product x y = truth_by_size (x *ℤ y) ∙ ap (λ m. truth_of (pos m)) (unsigned_abs-mul x y)

pub product_zero_left : (x y : ℤ) → unsigned_abs x ≡ 0 → pos 0 ≡ truth_of (x *ℤ y)
product_zero_left x y e = sym (truth_of_product x y ∙ ap (λ m. truth_of (pos m)) (ap (λ m. m * unsigned_abs y) e ∙ zero-mul (unsigned_abs y)))

pub product_zero_right : (x y : ℤ) → unsigned_abs y ≡ 0 → pos 0 ≡ truth_of (x *ℤ y)
product_zero_right x y e = sym (truth_of_product x y ∙ ap (λ m. truth_of (pos m)) (ap (λ m. unsigned_abs x * m) e ∙ mul-zero (unsigned_abs x)))

pub product_above : (x y : ℤ) → 0 < unsigned_abs x → 0 < unsigned_abs y → pos 1 ≡ truth_of (x *ℤ y)
product_above x y p q = sym (truth_of_product x y ∙ truth_above (unsigned_abs x * unsigned_abs y) (mul-pos p q))

pub wrap_product : (kind : Kind) (a b : ℤ) (p q : ℕ) → kind ≢ BoolKind → p ≡ pattern_of (width kind) a → q ≡ pattern_of (width kind) b → wrap kind (pos (p * q % 2 ^ 64)) ≡ wrap kind (a *ℤ b)
wrap_product kind a b p q h e f = wrap_by_pattern kind _ _ h (cut_to_kind kind (p * q) ∙ sym (pattern-mul (width kind) a b ∙ ap (λ x. x * pattern_of (width kind) b % 2 ^ width kind) (sym e) ∙ ap (λ x. p * x % 2 ^ width kind) (sym f)))

-- a number wrapped at its own kind is itself
pub of_wrapped : (n : Number) (k : Kind) (z : ℤ) → k ≡ n.kind → z ≡ n.value → IsOf n.kind n.value → V.Num (wrapped k z) ≡ V.Num n
of_wrapped n k z e f r = (λ i. V.Num (wrapped (e i) (f i))) ∙ ap (λ y. numeral n.kind y) (wrap_in_range n.kind n.value r)
