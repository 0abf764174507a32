-- The words of operations with one operand.
use Rattle.std.proofs.Common.{◌≡◌, ℕ, ◌+◌, ◌-◌, ◌^◌, ◌%◌, pos, Bool, true, false, not, List, length, map, replicate, refl, sym, ap, ◌∙◌, arith}
use Rattle.std.proofs.lemmas.List.{length-replicate}
use Rattle.aig_build.specs.Circuits.{Node, IsCircuit, constant}
use Rattle.aig_build.proofs.Gates.{constant_value}
use Rattle.rvt_num.specs.declared.kinds.Kind.{Kind}
use Rattle.rvt_num.specs.declared.kinds.Kind.TheVariants.{Bool as BoolKind, I8, U8, I16, U16, I32, U32, I64, U64}
use Rattle.rvt_num.specs.declared.operations.UnOp.TheVariants.{Minus, Flip}
use Rattle.rvt_num.specs.Kinds.{width, promoted_kind}
use Rattle.rvt_num.specs.Operations.{unary_of}
use Rattle.rvt_num.specs.Wrapping.{reading}
use Rattle.bit_words.specs.declared.cells.Cell.TheVariants.{Sum}
use Rattle.bit_words.specs.Built.{placed_built, flipped, zero_word}
use Rattle.bit_words.specs.Words.{LitWord, word_number, AreThere, values, number_of_bits}
use Rattle.bit_words.proofs.LessValues.{zeros}
use Rattle.bit_words.proofs.Multiplication.{AreThere-replicate}
use Rattle.bit_words.proofs.Numbers.{negative, inverted_number}
use Rattle.bit_words.proofs.PlacedValues.{IsWord, pattern, pattern_small, placed_reads, AreThere-flipped, values-flipped, flipped_length, flipped_number, difference_bits}
use Rattle.bit_words.proofs.RippleCarry.{ripple_bits}
use Rattle.bit_words.proofs.WordValues.{values_length, some_nodes}

pub AreThere-zero : (nodes : List Node) (kind : Kind) → IsCircuit nodes → AreThere nodes (zero_word kind).bits
AreThere-zero nodes kind h = AreThere-replicate nodes (width kind) (constant false) (some_nodes nodes h)

zero_reading : (kind : Kind) → reading kind 0 ≡ pos 0
zero_reading BoolKind = refl
zero_reading I8 = refl
zero_reading U8 = refl
zero_reading I16 = refl
zero_reading U16 = refl
zero_reading I32 = refl
zero_reading U32 = refl
zero_reading I64 = refl
zero_reading U64 = refl

pub zero_value : (nodes : List Node) (inputs : List Bool) (kind : Kind) → IsCircuit nodes → (word_number nodes inputs (zero_word kind)).value ≡ pos 0
zero_value nodes inputs kind h = ap (reading kind) (zeros nodes inputs (width kind) h) ∙ zero_reading kind

module _ (old new : List Node) (a r : LitWord) (h : IsCircuit old) (p : IsWord old a) (promoted : promoted_kind a.kind ≡ a.kind) (inputs : List Bool) where
  abbrev m : ℕ
  m = pattern old inputs a

  pub negative_is : placed_built old Sum (constant true) (zero_word a.kind) (flipped a) ≡ record { nodes = new; word = r } → word_number new inputs r ≡ unary_of Minus (word_number old inputs a)
  negative_is e =
      let w = width a.kind in
      let plus_none : 0 + (2 ^ w - m) ≡ 2 ^ w - m = omega arith in
      let none = values old inputs (replicate w (constant false)) in
      let wide : length (replicate w (constant false)) ≡ w = length-replicate w (constant false) in
      placed_reads Sum old new (constant true) (zero_word a.kind) (flipped a) r h (some_nodes old h) (AreThere-zero old a.kind h) (AreThere-flipped old a.bits p.there) (wide ∙ sym p.wide ∙ sym (flipped_length a.bits)) e inputs
      ∙ (λ i. record { kind = a.kind; value = reading a.kind (number_of_bits (ripple_bits Sum (constant_value old (constant true) inputs h refl i) none (values-flipped old inputs a.bits i))) })
      ∙ (λ i. record { kind = a.kind; value = reading a.kind (difference_bits w none (values old inputs a.bits) (values_length old inputs (replicate w (constant false)) ∙ wide) (values_length old inputs a.bits ∙ p.wide) i) })
      ∙ (λ i. record { kind = a.kind; value = reading a.kind ((zeros old inputs w h i + (2 ^ w - m)) % 2 ^ w) })
      ∙ (λ i. record { kind = a.kind; value = reading a.kind (plus_none i % 2 ^ w) })
      ∙ (λ i. record { kind = a.kind; value = negative a.kind promoted m (pattern_small old inputs a p) i })

module _ (old : List Node) (a r : LitWord) (p : IsWord old a) (promoted : promoted_kind a.kind ≡ a.kind) (inputs : List Bool) where
  pub flipped_is : r ≡ flipped a → word_number old inputs r ≡ unary_of Flip (word_number old inputs a)
  flipped_is e =
      let k = number_of_bits (map not (values old inputs a.bits)) in
      let m = pattern old inputs a in
      let whole : k + m + 1 ≡ 2 ^ width a.kind = flipped_number (values old inputs a.bits) ∙ ap (λ n. 2 ^ n) (values_length old inputs a.bits ∙ p.wide) in
      ap (word_number old inputs) e
      ∙ (λ i. record { kind = a.kind; value = reading a.kind (number_of_bits (values-flipped old inputs a.bits i)) })
      ∙ (λ i. record { kind = a.kind; value = inverted_number a.kind promoted m (pattern_small old inputs a p) k whole i })
