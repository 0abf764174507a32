-- The bits of a constant number, and what constants stand for.
use Rattle.std.proofs.Common.{◌≡◌, ℕ, zero, suc, ◌+◌, ◌-◌, ◌*◌, ◌/◌, ◌%◌, ◌^◌, ◌==◌, ◌<◌, ◌≤◌, Bool, true, false, not, List, [], ◌∷◌, ◌++◌, length, Some, refl, sym, ap, ◌∙◌, arith, subst, append_assoc, add-one, ◌≤ℤ◌, negsuc}
use Rattle.std.proofs.lemmas.List.{append-nil}
use Rattle.std.specs.Prelude.{map, ℤ, pos}
use Rattle.aig_build.specs.Circuits.{Node, constant}
use Rattle.aig_build.specs.declared.lits.Lit.{Lit}
use Rattle.bit_words.specs.Words.{bit_number, number_of_bits}
use Rattle.core_ir.specs.Cells.{zero_of}
use Rattle.core_ir.specs.declared.units.Shape.{Shape}
use Rattle.core_ir.specs.declared.units.Shape.TheVariants as shape
use Rattle.rvt_num.proofs.Patterns.{pattern_below}
use Rattle.rvt_num.proofs.Readings.{signed_reading_low, signed_reading_high, reading_in_range}
use Rattle.std.proofs.Math.Nat.{mod-eq_of_lt, pow-suc, zero-mod}
use Rattle.std.proofs.lemmas.Int.{ints}
use Rattle.rvt_num.specs.Kinds.{width, IsOf}
use Rattle.rvt_num.specs.Wrapping.{bits_of, pattern_of, signed_reading, reading}
use Rattle.rvt_num.specs.declared.kinds.Kind.{Kind}
use Rattle.rvt_num.specs.declared.kinds.Kind.TheVariants.{Bool as BoolKind, I8, U8, I16, U16, I32, U32, I64, U64}
use Rattle.rvt_num.specs.declared.values.Value.TheVariants.{Num, Null, At}
use Rattle.sym_constants.specs.Constants.{number_lits, number_word, IsConstant, ConstantLaw, IsOfShape, ConstantLaidLaw, ZeroLaw}
use Rattle.sym_values.specs.Valuations.{Valuation, IsValuation}
use Rattle.sym_values.specs.Values.{pointer_of}

-- ---- the loop

whole : (w : ℕ) → w - 0 ≡ w
whole w = omega arith

pub bits_first : (w n : ℕ) (bits : List Lit) → bits ≡ [] → bits ++ number_lits (w - 0) n ≡ number_lits w n
bits_first w n bits e = ap (λ l. l ++ number_lits (w - 0) n) e ∙ ap (λ m. number_lits m n) (whole w)

less_one : (w at : ℕ) → at < w → w - at ≡ suc (w - (at + 1))
less_one w at h = omega arith

pub bits_more : (w at rest : ℕ) (bits all : List Lit) → at < w → bits ++ number_lits (w - at) rest ≡ all
    → (bits ++ constant (rest % 2 == 1) ∷ []) ++ number_lits (w - (at + 1)) (rest / 2) ≡ all
bits_more w at rest bits all h e =
    append_assoc bits (constant (rest % 2 == 1) ∷ []) (number_lits (w - (at + 1)) (rest / 2))
    ∙ ap (λ n. bits ++ number_lits n rest) (sym (less_one w at h)) ∙ e

none_left : (w at : ℕ) → w ≤ at → w - at ≡ 0
none_left w at h = omega arith

pub bits_all : (w at rest : ℕ) (bits all : List Lit) → w ≤ at → bits ++ number_lits (w - at) rest ≡ all → bits ≡ all
bits_all w at rest bits all h e = sym (append-nil bits) ∙ ap (λ n. bits ++ number_lits n rest) (sym (none_left w at h)) ∙ e

-- ---- what they stand for

constant_true : (v : Valuation) (ns : List Node) (b : Bool) → IsValuation ns v → v (constant b) ≡ b
constant_true v ns false h = h.of_constant
constant_true v ns true h = h.of_opposite (constant false) ∙ ap not h.of_constant

odd_bit : (n : ℕ) → bit_number (n % 2 == 1) + 2 * (n / 2) ≡ n
odd_bit n = by (n % 2) (omega arith) refl
  where
    by : (r : ℕ) → r < 2 → n % 2 ≡ r → bit_number (r == 1) + 2 * (n / 2) ≡ n
    by zero h e = omega arith
    by (suc zero) h e = omega arith
    by (suc (suc r)) h e = absurd (omega arith)

half_below : (w n : ℕ) → n < 2 ^ suc w → n / 2 < 2 ^ w
half_below w n h = omega (arith, pow-suc 2 w)

number_is : (v : Valuation) (ns : List Node) (w n : ℕ) → IsValuation ns v → n < 2 ^ w → number_of_bits (map v (number_lits w n)) ≡ n
number_is v ns zero n h b = omega arith
number_is v ns (suc w) n h b =
    (λ i. bit_number (constant_true v ns (n % 2 == 1) h i) + 2 * number_is v ns w (n / 2) h (half_below w n b) i) ∙ odd_bit n

signed_back : (w half : ℕ) (z : ℤ) → half ≡ 2 ^ (w - 1) → 2 ^ w ≡ half + half → 0 < half → negsuc (half - 1) ≤ℤ z → z ≤ℤ pos (half - 1) → signed_reading w (pattern_of w z) ≡ z
signed_back w half (pos m) e d p low high =
    let small : m < 2 ^ w = omega (arith, ints) in
    let below : m < 2 ^ (w - 1) = omega (arith, ints) in
    ap (signed_reading w) (mod-eq_of_lt small) ∙ signed_reading_low w m below
signed_back w half (negsuc m) e d p low high =
    let small : m < 2 ^ w = omega (arith, ints) in
    let above : 2 ^ (w - 1) ≤ 2 ^ w - 1 - m = omega (arith, ints) in
    let twice : 2 ^ w - 1 - (2 ^ w - 1 - m) ≡ m = omega arith in
    ap (λ r. signed_reading w (2 ^ w - 1 - r)) (mod-eq_of_lt small) ∙ signed_reading_high w (2 ^ w - 1 - m) above ∙ ap (λ r. negsuc r) twice

unsigned_back : (w : ℕ) (z : ℤ) → pos 0 ≤ℤ z → z ≤ℤ pos (2 ^ w - 1) → 0 < 2 ^ w → pos (pattern_of w z) ≡ z
unsigned_back w (pos m) low high p = let small : m < 2 ^ w = omega (arith, ints) in ap (λ r. pos r) (mod-eq_of_lt small)
unsigned_back w (negsuc m) low high p = absurd (omega (arith, ints))

read_back : (k : Kind) (z : ℤ) → IsOf k z → reading k (pattern_of (width k) z) ≡ z
read_back BoolKind z h = unsigned_back 1 z h.low h.high (omega arith)
read_back I8 z h = signed_back 8 (2 ^ 7) z refl refl (omega arith) h.low h.high
read_back U8 z h = unsigned_back 8 z h.low h.high (omega arith)
read_back I16 z h = signed_back 16 (2 ^ 15) z refl refl (omega arith) h.low h.high
read_back U16 z h = unsigned_back 16 z h.low h.high (omega arith)
read_back I32 z h = signed_back 32 (2 ^ 31) z refl refl (omega arith) h.low h.high
read_back U32 z h = unsigned_back 32 z h.low h.high (omega arith)
read_back I64 z h = signed_back 64 (2 ^ 63) z refl refl (omega arith) h.low h.high
read_back U64 z h = unsigned_back 64 z h.low h.high (omega arith)

pub constant_is : ConstantLaw
constant_is v ns (Num n) h c =
    ap (λ m. Some (Num (record { kind = n.kind; value = reading n.kind m }))) (number_is v ns (width n.kind) (bits_of n) h (pattern_below (width n.kind) n.value))
    ∙ ap (λ z. Some (Num (record { kind = n.kind; value = z }))) (read_back n.kind n.value c)
constant_is v ns Null h c = λ i. pointer_of (number_is v ns 32 0 h (omega arith) i) (number_is v ns 32 0 h (omega arith) i)
constant_is v ns (At o c) h p =
    (λ i. pointer_of (number_is v ns 32 (o + 1) h p.0 i) (number_is v ns 32 c h p.1 i)) ∙ pointer_at o c
  where
    pointer_at : (o c : ℕ) → pointer_of (o + 1) c ≡ Some (At o c)
    pointer_at o c = subst (λ n. pointer_of n c ≡ Some (At o c)) (sym (add-one o)) refl

number_long : (w n : ℕ) → length (number_lits w n) ≡ w
number_long zero n = refl
number_long (suc w) n = ap (λ m. suc m) (number_long w (n / 2))

pub constant_laid : ConstantLaidLaw
constant_laid (shape.Word k) (Num n) e = record { of_kind = e; of_width = number_long (width n.kind) (bits_of n) ∙ ap width e }
constant_laid (shape.Word k) Null e = absurd e
constant_laid (shape.Word k) (At o c) e = absurd e
constant_laid (shape.Pointer t u) (Num n) e = absurd e
constant_laid (shape.Pointer t u) Null e = (record { of_kind = refl; of_width = number_long 32 0 }, record { of_kind = refl; of_width = number_long 32 0 })
constant_laid (shape.Pointer t u) (At o c) e = (record { of_kind = refl; of_width = number_long 32 (o + 1) }, record { of_kind = refl; of_width = number_long 32 c })

zero_in_range : (k : Kind) → IsOf k (pos 0)
zero_in_range BoolKind = reading_in_range BoolKind 0 (omega arith)
zero_in_range I8 = reading_in_range I8 0 (omega arith)
zero_in_range U8 = reading_in_range U8 0 (omega arith)
zero_in_range I16 = reading_in_range I16 0 (omega arith)
zero_in_range U16 = reading_in_range U16 0 (omega arith)
zero_in_range I32 = reading_in_range I32 0 (omega arith)
zero_in_range U32 = reading_in_range U32 0 (omega arith)
zero_in_range I64 = reading_in_range I64 0 (omega arith)
zero_in_range U64 = reading_in_range U64 0 (omega arith)

zero_constant : (s : Shape) → IsConstant (zero_of s)
zero_constant (shape.Word k) = zero_in_range k
zero_constant (shape.Pointer t u) = tt

zero_shaped : (s : Shape) → IsOfShape s (zero_of s)
zero_shaped (shape.Word k) = refl
zero_shaped (shape.Pointer t u) = tt

pub zero_is : ZeroLaw
zero_is = record {
  stands = λ v ns s h. constant_is v ns (zero_of s) h (zero_constant s);
  laid = λ s. constant_laid s (zero_of s) (zero_shaped s);
}

-- the word of zero bits is that of the number 0
pub zero_pattern : (k : Kind) → number_word k 0 ≡ number_word k (bits_of (record { kind = k; value = pos 0 }))
zero_pattern k = ap (number_word k) (sym (zero-mod (2 ^ width k)))
