-- Words with a sign: their magnitudes, and the signs of a quotient and a remainder.
use Rattle.std.proofs.Common.{◌≡◌, ℕ, zero, suc, ◌+◌, ◌-◌, ◌*◌, ◌/◌, ◌<◌, ◌^◌, ◌%◌, ℤ, pos, negsuc, neg_ℤ, Bool, true, false, ◌&&◌, cond, List, length, take, get_or, refl, sym, ap, ◌∙◌, arith, subst, ⊎_elim, unsigned_abs}
use Rattle.std.specs.Prelude.{int_lt, int_div, int_rem}
use Rattle.std.proofs.lemmas.Bool.{cases_lt}
use Rattle.std.proofs.lemmas.Bool.Decides.{nat_tests}
use Rattle.std.proofs.lemmas.Int.{ints}
use Rattle.std.proofs.Math.Nat.{mod-eq_of_lt, mod-le, div-le_self, pow-suc}
use Rattle.std.proofs.Math.Pow.{pow_pos}
use Rattle.aig_build.specs.declared.lits.Lit.{Lit}
use Rattle.aig_build.specs.Circuits.{Node, IsCircuit, Grows, lit_value}
use Rattle.rvt_num.specs.declared.kinds.Kind.{Kind}
use Rattle.rvt_num.specs.declared.kinds.Kind.TheVariants.{Bool as BoolKind, I8, U8, I16, U16, I32, U32, I64, U64}
use Rattle.rvt_num.specs.declared.operations.BinOp.TheVariants.{Div, Rem}
use Rattle.rvt_num.specs.declared.operations.UnOp.TheVariants.{Minus}
use Rattle.rvt_num.specs.Kinds.{width, is_signed, promoted_kind}
use Rattle.rvt_num.specs.Number.{Number}
use Rattle.rvt_num.specs.Operations.{int_eq, number_of, unary_of}
use Rattle.rvt_num.specs.Wrapping.{bits_of, reading, signed_reading, wrap, wrapped, pattern_of}
use Rattle.rvt_num.proofs.Patterns.{pattern-neg, pattern_below}
use Rattle.rvt_num.proofs.Readings.{signed_reading_low, signed_reading_high, pattern_of_reading, promoted_is_no_bool, wrap_by_pattern}
use Rattle.bit_words.specs.Words.{LitWord, AreThere, values, word_number, bit_number, number_of_bits}
use Rattle.aig_build.specs.Built.{Made}
use Rattle.bit_words.specs.Built.{sign_bit, xor_built}
use Rattle.bit_words.proofs.Arithmetic.{below_power}
use Rattle.bit_words.proofs.Computing.{differ, itself, xor-makes}
use Rattle.bit_words.proofs.ConvertValues.{fill_bit}
use Rattle.bit_words.proofs.Numbers.{wrap_is}
use Rattle.bit_words.proofs.PlacedValues.{IsWord, pattern, pattern_small, wrap_small}
use Rattle.bit_words.proofs.RippleCarry.{values-later}
use Rattle.bit_words.proofs.SignedOrder.{top_split, front_length}
use Rattle.bit_words.proofs.WordValues.{values_length}
use Rattle.bit_ops.specs.Built.{quotient_built}
use Rattle.bit_ops.specs.Signs.{signed_number}
use Rattle.bit_ops.proofs.DivisionValues.{quotient_numbers}
use Rattle.bit_ops.proofs.ShiftWords.{sign_value}

pub word_later : (old new : List Node) (inputs : List Bool) (w : LitWord) → Grows old new → AreThere old w.bits → word_number new inputs w ≡ word_number old inputs w
word_later old new inputs w g t = λ i. record { kind = w.kind; value = reading w.kind (number_of_bits (values-later old new inputs w.bits g t i)) }

-- ---- the sign
none_below : (n : ℕ) → int_lt (pos n) (pos 0) ≡ false
none_below n = grind (arith, ints, nat_tests)

half : (j : ℕ) → 2 ^ (suc j - 1) ≡ 2 ^ j
half j = ap (λ k. 2 ^ k) (omega arith)

signed_fill : (f : Bool) (j : ℕ) (bs : List Bool) → get_or bs j false ≡ f → length bs ≡ suc j → f ≡ int_lt (signed_reading (suc j) (number_of_bits bs)) (pos 0)
signed_fill false j bs t e =
    let split = top_split j bs e ∙ ap (λ b. number_of_bits (take j bs) + 2 ^ j * bit_number b) t in
    let front : number_of_bits (take j bs) < 2 ^ j = subst (λ k. number_of_bits (take j bs) < 2 ^ k) (front_length j bs e) (below_power (take j bs)) in
    let h = half j in
    sym (ap (λ z. int_lt z (pos 0)) (signed_reading_low (suc j) (number_of_bits bs) (omega arith)) ∙ none_below (number_of_bits bs))
signed_fill true j bs t e =
    let split = top_split j bs e ∙ ap (λ b. number_of_bits (take j bs) + 2 ^ j * bit_number b) t in
    let h = half j in
    sym (ap (λ z. int_lt z (pos 0)) (signed_reading_high (suc j) (number_of_bits bs) (omega arith)))

signed_fill_at : (j : ℕ) (bs : List Bool) → length bs ≡ suc j → get_or bs (length bs - 1) false ≡ int_lt (signed_reading (suc j) (number_of_bits bs)) (pos 0)
signed_fill_at j bs e = let at : length bs - 1 ≡ j = omega arith in ap (λ k. get_or bs k false) at ∙ signed_fill (get_or bs j false) j bs refl e

fill_is : (kind : Kind) (bs : List Bool) → length bs ≡ width kind → fill_bit kind bs ≡ int_lt (reading kind (number_of_bits bs)) (pos 0)
fill_is BoolKind bs e = sym (none_below (number_of_bits bs))
fill_is I8 bs e = signed_fill_at 7 bs e
fill_is U8 bs e = sym (none_below (number_of_bits bs))
fill_is I16 bs e = signed_fill_at 15 bs e
fill_is U16 bs e = sym (none_below (number_of_bits bs))
fill_is I32 bs e = signed_fill_at 31 bs e
fill_is U32 bs e = sym (none_below (number_of_bits bs))
fill_is I64 bs e = signed_fill_at 63 bs e
fill_is U64 bs e = sym (none_below (number_of_bits bs))

pub sign_is : (nodes : List Node) (inputs : List Bool) (a : LitWord) → IsCircuit nodes → IsWord nodes a → lit_value nodes inputs (sign_bit a) ≡ int_lt (word_number nodes inputs a).value (pos 0)
sign_is nodes inputs a h p = sign_value nodes inputs a h p ∙ fill_is a.kind (values nodes inputs a.bits) (values_length nodes inputs a.bits ∙ p.wide)

-- ---- magnitudes
signed_small : (j n : ℕ) → n < 2 ^ suc j → unsigned_abs (signed_reading (suc j) n) < 2 ^ suc j
signed_small j n s = ⊎_elim
    (λ l. subst (λ z. unsigned_abs z < 2 ^ suc j) (sym (signed_reading_low (suc j) n l)) s)
    (λ l. let h = half j in let p = pow_pos j in let twice = pow-suc 2 j in let under : suc (2 ^ suc j - 1 - n) < 2 ^ suc j = omega arith in subst (λ z. unsigned_abs z < 2 ^ suc j) (sym (signed_reading_high (suc j) n l)) under)
    (cases_lt n (2 ^ (suc j - 1)))

pub magnitude_small : (kind : Kind) (n : ℕ) → n < 2 ^ width kind → unsigned_abs (reading kind n) < 2 ^ width kind
magnitude_small BoolKind n s = s
magnitude_small I8 n s = signed_small 7 n s
magnitude_small U8 n s = s
magnitude_small I16 n s = signed_small 15 n s
magnitude_small U16 n s = s
magnitude_small I32 n s = signed_small 31 n s
magnitude_small U32 n s = s
magnitude_small I64 n s = signed_small 63 n s
magnitude_small U64 n s = s

pattern_wrap : (kind : Kind) → promoted_kind kind ≡ kind → (z : ℤ) → pattern_of (width kind) (wrap kind z) ≡ pattern_of (width kind) z
pattern_wrap kind p z = ap (pattern_of (width kind)) (wrap_is kind z (promoted_is_no_bool kind p)) ∙ pattern_of_reading kind (pattern_of (width kind) z) (pattern_below (width kind) z)

signed_magnitude : (kind : Kind) → promoted_kind kind ≡ kind → is_signed kind ≡ true → (z : ℤ) (s : Bool) → s ≡ int_lt z (pos 0) → unsigned_abs z < 2 ^ width kind → bits_of (signed_number s (record { kind = kind; value = z })) ≡ unsigned_abs z
signed_magnitude kind p t (pos n) s e l =
    (λ i. bits_of (cond (t i && (e ∙ none_below n) i) (unary_of Minus (record { kind = kind; value = pos n })) (record { kind = kind; value = pos n }))) ∙ mod-eq_of_lt l
signed_magnitude kind p t (negsuc n) s e l =
    (λ i. bits_of (cond (t i && e i) (unary_of Minus (record { kind = kind; value = negsuc n })) (record { kind = kind; value = negsuc n }))) ∙ pattern_wrap kind p (pos (suc n)) ∙ mod-eq_of_lt l

-- the pattern of a number without its sign is its magnitude
pub magnitude_is : (kind : Kind) (m : ℕ) (s : Bool) → promoted_kind kind ≡ kind → m < 2 ^ width kind → s ≡ int_lt (reading kind m) (pos 0) → bits_of (signed_number s (record { kind = kind; value = reading kind m })) ≡ unsigned_abs (reading kind m)
magnitude_is BoolKind m s p l e = absurd (let q : I32 ≡ BoolKind = p in cc)
magnitude_is I8 m s p l e = absurd (let q : I32 ≡ I8 = p in cc)
magnitude_is U8 m s p l e = absurd (let q : I32 ≡ U8 = p in cc)
magnitude_is I16 m s p l e = absurd (let q : I32 ≡ I16 = p in cc)
magnitude_is U16 m s p l e = absurd (let q : I32 ≡ U16 = p in cc)
magnitude_is I32 m s p l e = signed_magnitude I32 p refl (reading I32 m) s e (magnitude_small I32 m l)
magnitude_is U32 m s p l e = mod-eq_of_lt l
magnitude_is I64 m s p l e = signed_magnitude I64 p refl (reading I64 m) s e (magnitude_small I64 m l)
magnitude_is U64 m s p l e = mod-eq_of_lt l

pub some_magnitude : (z : ℤ) → int_eq z (pos 0) ≡ false → 0 < unsigned_abs z
some_magnitude (pos zero) e = absurd (let f : true ≡ false = e in cc)
some_magnitude (pos (suc n)) e = omega arith
some_magnitude (negsuc n) e = omega arith

-- ---- the signs of the results
signed_wrap : (kind : Kind) (n : ℕ) (s : Bool) → promoted_kind kind ≡ kind → n < 2 ^ width kind → cond s (unary_of Minus (record { kind = kind; value = reading kind n })) (record { kind = kind; value = reading kind n }) ≡ wrapped kind (cond s (neg_ℤ (pos n)) (pos n))
signed_wrap kind n true p l =
    let w = width kind in
    let same = pattern-neg w (reading kind n) ∙ ap (λ x. (2 ^ w - x) % 2 ^ w) (pattern_of_reading kind n l ∙ sym (mod-eq_of_lt l)) ∙ sym (pattern-neg w (pos n)) in
    λ i. record { kind = kind; value = wrap_by_pattern kind (neg_ℤ (reading kind n)) (neg_ℤ (pos n)) (promoted_is_no_bool kind p) same i }
signed_wrap kind n false p l = λ i. record { kind = kind; value = wrap_small kind n p l i }

signed_result : (kind : Kind) (n : ℕ) (s : Bool) → promoted_kind kind ≡ kind → n < 2 ^ width kind → (is_signed kind && s) ≡ s → signed_number s (record { kind = kind; value = reading kind n }) ≡ wrapped kind (cond s (neg_ℤ (pos n)) (pos n))
signed_result kind n s p l e = ap (λ t. cond t (unary_of Minus (record { kind = kind; value = reading kind n })) (record { kind = kind; value = reading kind n })) e ∙ signed_wrap kind n s p l

div_signs : (z y : ℤ) → cond (differ (int_lt z (pos 0)) (int_lt y (pos 0))) (neg_ℤ (pos (unsigned_abs z / unsigned_abs y))) (pos (unsigned_abs z / unsigned_abs y)) ≡ int_div z y
div_signs (pos a) (pos b) = λ i. cond (differ (none_below a i) (none_below b i)) (neg_ℤ (pos (a / b))) (pos (a / b))
div_signs (pos a) (negsuc b) = λ i. cond (differ (none_below a i) true) (neg_ℤ (pos (a / suc b))) (pos (a / suc b))
div_signs (negsuc a) (pos b) = λ i. cond (differ true (none_below b i)) (neg_ℤ (pos (suc a / b))) (pos (suc a / b))
div_signs (negsuc a) (negsuc b) = refl

rem_signs : (z y : ℤ) → cond (int_lt z (pos 0)) (neg_ℤ (pos (unsigned_abs z % unsigned_abs y))) (pos (unsigned_abs z % unsigned_abs y)) ≡ int_rem z y
rem_signs (pos a) y = λ i. cond (none_below a i) (neg_ℤ (pos (a % unsigned_abs y))) (pos (a % unsigned_abs y))
rem_signs (negsuc a) y = refl

-- numbers of an unsigned kind have no sign
no_sign : (kind : Kind) (m : ℕ) → (is_signed kind && int_lt (reading kind m) (pos 0)) ≡ int_lt (reading kind m) (pos 0)
no_sign BoolKind m = sym (none_below m)
no_sign I8 m = refl
no_sign U8 m = sym (none_below m)
no_sign I16 m = refl
no_sign U16 m = sym (none_below m)
no_sign I32 m = refl
no_sign U32 m = sym (none_below m)
no_sign I64 m = refl
no_sign U64 m = sym (none_below m)

no_signs : (t s r : Bool) → (t && s) ≡ s → (t && r) ≡ r → (t && differ s r) ≡ differ s r
no_signs true s r e f = refl
no_signs false s r e f = λ i. differ (e i) (f i)

module _ (kind : Kind) (m n : ℕ) (p : promoted_kind kind ≡ kind) (small : m < 2 ^ width kind) where
  abbrev z : ℤ
  z = reading kind m

  abbrev y : ℤ
  y = reading kind n

  pub quotient_is : signed_number (differ (int_lt z (pos 0)) (int_lt y (pos 0))) (record { kind = kind; value = reading kind (unsigned_abs z / unsigned_abs y) }) ≡ number_of Div (record { kind = kind; value = z }) (record { kind = kind; value = y })
  quotient_is =
      let most = magnitude_small kind m small in
      let less = div-le_self (unsigned_abs z) (unsigned_abs y) in
      signed_result kind (unsigned_abs z / unsigned_abs y) (differ (int_lt z (pos 0)) (int_lt y (pos 0))) p (omega arith) (no_signs (is_signed kind) (int_lt z (pos 0)) (int_lt y (pos 0)) (no_sign kind m) (no_sign kind n))
      ∙ ap (wrapped kind) (div_signs z y)

  pub remainder_is : signed_number (int_lt z (pos 0)) (record { kind = kind; value = reading kind (unsigned_abs z % unsigned_abs y) }) ≡ number_of Rem (record { kind = kind; value = z }) (record { kind = kind; value = y })
  remainder_is =
      let most = magnitude_small kind m small in
      let less = mod-le (unsigned_abs z) (unsigned_abs y) in
      signed_result kind (unsigned_abs z % unsigned_abs y) (int_lt z (pos 0)) p (omega arith) (no_sign kind m)
      ∙ ap (wrapped kind) (rem_signs z y)

-- ---- words
pub bits_are : (nodes : List Node) (inputs : List Bool) (w : LitWord) → IsWord nodes w → bits_of (word_number nodes inputs w) ≡ pattern nodes inputs w
bits_are nodes inputs w p = pattern_of_reading w.kind (pattern nodes inputs w) (pattern_small nodes inputs w p)

pub patterns_are : (old new : List Node) (kind : Kind) (a b : LitWord) (q r : List Lit) → IsCircuit old → IsWord old a → IsWord old b → kind ≡ a.kind
    → quotient_built old a.bits b.bits ≡ record { nodes = new; quotient = q; remainder = r } → (inputs : List Bool) → 0 < bits_of (word_number old inputs b)
    → (word_number new inputs (record { kind = kind; bits = q }) ≡ record { kind = a.kind; value = reading a.kind (bits_of (word_number old inputs a) / bits_of (word_number old inputs b)) })
    × (word_number new inputs (record { kind = kind; bits = r }) ≡ record { kind = a.kind; value = reading a.kind (bits_of (word_number old inputs a) % bits_of (word_number old inputs b)) })
patterns_are old new kind a b q r h p t k e inputs some =
    let x = bits_are old inputs a p in
    let y = bits_are old inputs b t in
    let n = quotient_numbers old new a.bits b.bits q r h p.there t.there e inputs (subst (λ m. 0 < m) y some) in (
      λ i. record { kind = k i; value = reading (k i) ((n.0 ∙ (λ j. sym x j / sym y j)) i) },
      λ i. record { kind = k i; value = reading (k i) ((n.1 ∙ (λ j. sym x j % sym y j)) i) },
    )

pub magnitude_bits : (old new : List Node) (a x : LitWord) (s : Lit) → IsCircuit old → IsWord old a → promoted_kind a.kind ≡ a.kind → s ≡ sign_bit a → (inputs : List Bool)
    → word_number new inputs x ≡ signed_number (lit_value old inputs s) (word_number old inputs a) → bits_of (word_number new inputs x) ≡ unsigned_abs (word_number old inputs a).value
magnitude_bits old new a x s h p promoted es inputs e =
    ap bits_of e ∙ magnitude_is a.kind (pattern old inputs a) (lit_value old inputs s) promoted (pattern_small old inputs a p) (ap (lit_value old inputs) es ∙ sign_is old inputs a h p)

pub xor_value : (old new : List Node) (a b lit : Lit) → IsCircuit old → a.node < length old → b.node < length old → xor_built old a b ≡ record { nodes = new; lit = lit } → (inputs : List Bool)
    → lit_value new inputs lit ≡ differ (lit_value old inputs a) (lit_value old inputs b)
xor_value old new a b lit h t u e inputs =
    sym (ap (λ (m : Made). lit_value m.nodes inputs m.lit) e) ∙ (xor-makes old h a b _ _ (itself old a t) (itself old b u)).value inputs

module _ (old : List Node) (inputs : List Bool) (a b : LitWord) (p : IsWord old a) (promoted : promoted_kind a.kind ≡ a.kind) (same : a.kind ≡ b.kind) where
  abbrev av : Number
  av = word_number old inputs a

  abbrev bv : Number
  bv = word_number old inputs b

  abbrev bn : ℕ
  bn = pattern old inputs b

  pub word_quotient_is : signed_number (differ (int_lt av.value (pos 0)) (int_lt bv.value (pos 0))) (record { kind = a.kind; value = reading a.kind (unsigned_abs av.value / unsigned_abs bv.value) }) ≡ number_of Div av bv
  word_quotient_is =
      subst (λ k. signed_number (differ (int_lt av.value (pos 0)) (int_lt (reading k bn) (pos 0))) (record { kind = a.kind; value = reading a.kind (unsigned_abs av.value / unsigned_abs (reading k bn)) }) ≡ number_of Div av (record { kind = k; value = reading k bn })) same
      (quotient_is a.kind (pattern old inputs a) bn promoted (pattern_small old inputs a p))

  pub word_remainder_is : signed_number (int_lt av.value (pos 0)) (record { kind = a.kind; value = reading a.kind (unsigned_abs av.value % unsigned_abs bv.value) }) ≡ number_of Rem av bv
  word_remainder_is =
      subst (λ k. signed_number (int_lt av.value (pos 0)) (record { kind = a.kind; value = reading a.kind (unsigned_abs av.value % unsigned_abs (reading k bn)) }) ≡ number_of Rem av (record { kind = k; value = reading k bn })) same
      (remainder_is a.kind (pattern old inputs a) bn promoted (pattern_small old inputs a p))
