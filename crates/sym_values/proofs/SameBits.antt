-- Values of one layout are equal exactly where their bits are.
use Rattle.std.proofs.Common.{◌≡◌, ℕ, zero, suc, ◌+◌, ◌*◌, ◌<◌, ◌^◌, Bool, true, false, List, [], ◌∷◌, ◌++◌, length, Option, Some, None, refl, sym, ap, ◌∙◌, subst, arith, ℤ, pos}
use Rattle.std.specs.Prelude.{map}
use Rattle.aig_build.specs.declared.lits.Lit.{Lit}
use Rattle.bit_words.proofs.Arithmetic.{below_power}
use Rattle.bit_ops.specs.declared.values.SymValue.{SymValue}
use Rattle.bit_ops.specs.declared.values.SymValue.TheVariants.{Word, Pointer}
use Rattle.bit_words.specs.Words.{LitWord, bit_number, number_of_bits}
use Rattle.core_ir.specs.declared.units.Shape.{Shape}
use Rattle.core_ir.specs.declared.units.Shape.TheVariants as shape
use Rattle.rvt_num.proofs.Readings.{pattern_of_reading}
use Rattle.rvt_num.specs.Kinds.{width}
use Rattle.rvt_num.specs.Number.{Number}
use Rattle.rvt_num.specs.Wrapping.{pattern_of, reading}
use Rattle.rvt_num.specs.declared.kinds.Kind.{Kind}
use Rattle.rvt_num.specs.declared.kinds.Kind.TheVariants.{U32}
use Rattle.rvt_num.specs.declared.values.Value.{Value}
use Rattle.rvt_num.specs.declared.values.Value.TheVariants.{Num, Null, At}
use Rattle.sym_values.specs.Valuations.{Valuation}
use Rattle.sym_values.specs.Values.{pattern_under, pointer_of, value_under, both_stand, values_under, lits_of, all_lits, IsWordOf, IsLaid, AreLaid, BitsTell, BitsLaw}

apart : ◌≡◌ {A = ℕ} zero (suc zero) → ⊥
apart e = cc

bit_parts : (b c : Bool) (m n : ℕ) → bit_number b + 2 * m ≡ bit_number c + 2 * n → (b ≡ c) × (m ≡ n)
bit_parts false false m n e = (refl, omega (arith, e))
bit_parts true true m n e = (refl, omega (arith, e))
bit_parts true false m n e = absurd (apart (omega (arith, e)))
bit_parts false true m n e = absurd (apart (omega (arith, e)))

pub bits_same : (xs ys : List Bool) → length xs ≡ length ys → number_of_bits xs ≡ number_of_bits ys → xs ≡ ys
bits_same [] [] l e = refl
bits_same [] (y ∷ ys) l e = cc
bits_same (x ∷ xs) [] l e = cc
bits_same (x ∷ xs) (y ∷ ys) l e =
    let p = bit_parts x y (number_of_bits xs) (number_of_bits ys) e in
    let rest = bits_same xs ys (omega (arith, l)) p.1 in
    λ i. p.0 i ∷ rest i

pub long_map : (v : Valuation) (xs : List Lit) → length (map v xs) ≡ length xs
long_map v [] = refl
long_map v (x ∷ xs) = ap (λ n. suc n) (long_map v xs)

pub map_append : (v : Valuation) (xs ys : List Lit) → map v (xs ++ ys) ≡ map v xs ++ map v ys
map_append v [] ys = refl
map_append v (x ∷ xs) ys = ap (λ l. v x ∷ l) (map_append v xs ys)

cons_same : (a b : Bool) (xs ys : List Bool) → a ∷ xs ≡ b ∷ ys → (a ≡ b) × (xs ≡ ys)
cons_same a b xs ys e = (cc, cc)

pub append_same : (a b c d : List Bool) → length a ≡ length b → a ++ c ≡ b ++ d → (a ≡ b) × (c ≡ d)
append_same [] [] c d l e = (refl, e)
append_same [] (y ∷ ys) c d l e = cc
append_same (x ∷ xs) [] c d l e = cc
append_same (x ∷ xs) (y ∷ ys) c d l e =
    let p = cons_same x y (xs ++ c) (ys ++ d) e in
    let rest = append_same xs ys c d (omega (arith, l)) p.1 in
    ((λ i. p.0 i ∷ rest.0 i), rest.1)

pointer_same : (o c p d : ℕ) (x : Value) → pointer_of o c ≡ Some x → pointer_of p d ≡ Some x → (o ≡ p) × (c ≡ d)
pointer_same zero zero zero zero x e f = (refl, refl)
pointer_same zero (suc c) p d x e f = cc
pointer_same o c zero (suc d) x e f = cc
pointer_same zero zero (suc p) d x e f = cc
pointer_same (suc o) c zero zero x e f = cc
pointer_same (suc o) c (suc p) d x e f = (cc, cc)

pub both_long : (a b c d : List Bool) → length a ≡ length c → length b ≡ length d → length (a ++ b) ≡ length (c ++ d)
both_long [] b [] d e f = f
both_long [] b (y ∷ c) d e f = cc
both_long (x ∷ a) b [] d e f = cc
both_long (x ∷ a) b (y ∷ c) d e f = ap (λ n. suc n) (both_long a b c d (omega (arith, e)) f)

abbrev value_in : Value → ℤ
value_in (Num n) = n.value
value_in _ = pos 0

value_same : (x y z : Value) → ◌≡◌ {A = Option Value} (Some x) (Some z) → ◌≡◌ {A = Option Value} (Some y) (Some z) → x ≡ y
value_same x y z e f = cc

module _ (v : Valuation) where
  word_bits : (k : Kind) (a b : LitWord) → IsWordOf k a → IsWordOf k b → pattern_under v a ≡ pattern_under v b → map v a.bits ≡ map v b.bits
  word_bits k a b p q e = bits_same (map v a.bits) (map v b.bits) (long_map v a.bits ∙ p.of_width ∙ sym q.of_width ∙ sym (long_map v b.bits)) e

  word_below : (k : Kind) (a : LitWord) → IsWordOf k a → pattern_under v a < 2 ^ width k
  word_below k a p = subst (λ n. pattern_under v a < 2 ^ n) (long_map v a.bits ∙ p.of_width) (below_power (map v a.bits))

  readings_same : (k : Kind) (m n : ℕ) → m < 2 ^ width k → n < 2 ^ width k → reading k m ≡ reading k n → m ≡ n
  readings_same k m n p q e = sym (pattern_of_reading k m p) ∙ ap (pattern_of (width k)) e ∙ pattern_of_reading k n q

  pub one_to_bits : (s : Shape) (x y : SymValue) (z : Value) → IsLaid s x → IsLaid s y → value_under v x ≡ Some z → value_under v y ≡ Some z → map v (lits_of x) ≡ map v (lits_of y)
  one_to_bits (shape.Word k) (Word a) (Word b) z p q e f =
      let same = ap value_in (value_same _ _ z e f) in
      let reads : reading k (pattern_under v a) ≡ reading k (pattern_under v b) =
      ap (λ j. reading j (pattern_under v a)) (sym p.of_kind) ∙ same ∙ ap (λ j. reading j (pattern_under v b)) q.of_kind in
      word_bits k a b p q (readings_same k _ _ (word_below k a p) (word_below k b q) reads)
  one_to_bits (shape.Word k) (Word a) (Pointer p d) z h g e f = absurd g
  one_to_bits (shape.Word k) (Pointer o c) y z h g e f = absurd h
  one_to_bits (shape.Pointer t u) (Word a) y z h g e f = absurd h
  one_to_bits (shape.Pointer t u) (Pointer o c) (Word b) z h g e f = absurd g
  one_to_bits (shape.Pointer t u) (Pointer o c) (Pointer p d) z h g e f =
      let same = pointer_same (pattern_under v o) (pattern_under v c) (pattern_under v p) (pattern_under v d) z e f in
      let a = word_bits U32 o p h.0 g.0 same.0 in
      let b = word_bits U32 c d h.1 g.1 same.1 in
      map_append v o.bits c.bits ∙ (λ i. a i ++ b i) ∙ sym (map_append v p.bits d.bits)

  word_long : (k : Kind) (a b : LitWord) → IsWordOf k a → IsWordOf k b → length (map v a.bits) ≡ length (map v b.bits)
  word_long k a b p q = long_map v a.bits ∙ p.of_width ∙ sym q.of_width ∙ sym (long_map v b.bits)

  abbrev word_at : Kind → List Bool → Option Value
  word_at k bits = Some (Num (record { kind = k; value = reading k (number_of_bits bits) }))

  pub one_to_value : (s : Shape) (x y : SymValue) → IsLaid s x → IsLaid s y → map v (lits_of x) ≡ map v (lits_of y) → value_under v x ≡ value_under v y
  one_to_value (shape.Word k) (Word a) (Word b) p q e = let kinds = p.of_kind ∙ sym q.of_kind in λ i. word_at (kinds i) (e i)
  one_to_value (shape.Word k) (Word a) (Pointer p d) h g e = absurd g
  one_to_value (shape.Word k) (Pointer o c) y h g e = absurd h
  one_to_value (shape.Pointer t u) (Word a) y h g e = absurd h
  one_to_value (shape.Pointer t u) (Pointer o c) (Word b) h g e = absurd g
  one_to_value (shape.Pointer t u) (Pointer o c) (Pointer p d) h g e =
      let cut = append_same _ _ _ _ (word_long U32 o p h.0 g.0) (sym (map_append v o.bits c.bits) ∙ e ∙ map_append v p.bits d.bits) in
      λ i. pointer_of (number_of_bits (cut.0 i)) (number_of_bits (cut.1 i))

  one_long : (s : Shape) (x y : SymValue) → IsLaid s x → IsLaid s y → length (map v (lits_of x)) ≡ length (map v (lits_of y))
  one_long (shape.Word k) (Word a) (Word b) p q = word_long k a b p q
  one_long (shape.Word k) (Word a) (Pointer p d) h g = absurd g
  one_long (shape.Word k) (Pointer o c) y h g = absurd h
  one_long (shape.Pointer t u) (Word a) y h g = absurd h
  one_long (shape.Pointer t u) (Pointer o c) (Word b) h g = absurd g
  one_long (shape.Pointer t u) (Pointer o c) (Pointer p d) h g =
      ap length (map_append v o.bits c.bits)
      ∙ both_long (map v o.bits) (map v c.bits) (map v p.bits) (map v d.bits) (word_long U32 o p h.0 g.0) (word_long U32 c d h.1 g.1)
      ∙ sym (ap length (map_append v p.bits d.bits))

  both_parts : (o : Option Value) (r : Option (List Value)) (zs : List Value) → both_stand o r ≡ Some zs → (z : Value) × (rest : List Value) × (o ≡ Some z) × (r ≡ Some rest) × (zs ≡ z ∷ rest)
  both_parts None r zs e = cc
  both_parts (Some z) None zs e = cc
  both_parts (Some z) (Some rest) zs e = (z, rest, refl, refl, cc)

pub bits : BitsLaw
bits v [] [] [] p q = record { to_bits = λ zs e f. refl; long = refl; to_values = λ e. refl }
bits v [] [] (y ∷ ys) p q = absurd q
bits v [] (x ∷ xs) ys p q = absurd p
bits v (s ∷ ss) [] ys p q = absurd p
bits v (s ∷ ss) (x ∷ xs) [] p q = absurd q
bits v (s ∷ ss) (x ∷ xs) (y ∷ ys) p q =
    let rest = bits v ss xs ys p.1 q.1 in
    record {
      to_bits = λ zs e f.
          let a = both_parts v (value_under v x) (values_under v xs) zs e in
          let b = both_parts v (value_under v y) (values_under v ys) zs f in
          let same : a.0 ∷ a.1 ≡ b.0 ∷ b.1 = sym a.4 ∙ b.4 in
          let head : a.0 ≡ b.0 = cc in
          let tail : a.1 ≡ b.1 = cc in
          let one = one_to_bits v s x y b.0 p.0 q.0 (a.2 ∙ ap Some head) b.2 in
          let more = rest.to_bits b.1 (a.3 ∙ ap Some tail) b.3 in
          map_append v (lits_of x) (all_lits xs) ∙ (λ i. one i ++ more i) ∙ sym (map_append v (lits_of y) (all_lits ys));
      long =
          ap length (map_append v (lits_of x) (all_lits xs))
          ∙ both_long (map v (lits_of x)) (map v (all_lits xs)) (map v (lits_of y)) (map v (all_lits ys)) (one_long v s x y p.0 q.0) rest.long
          ∙ sym (ap length (map_append v (lits_of y) (all_lits ys)));
      to_values = λ e.
          let cut = append_same _ _ _ _ (one_long v s x y p.0 q.0) (sym (map_append v (lits_of x) (all_lits xs)) ∙ e ∙ map_append v (lits_of y) (all_lits ys)) in
          let one = one_to_value v s x y p.0 q.0 cut.0 in
          let more = rest.to_values cut.1 in
          λ i. both_stand (one i) (more i);
    }
