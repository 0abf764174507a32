-- The word that a product builds has the value of the operation.
use Rattle.std.proofs.Common.{◌≡◌, ◌*◌, ◌%◌, ◌^◌, ◌*ℤ◌, Bool, false, List, length, sym, ap, ◌∙◌, subst}
use Rattle.aig_build.specs.Circuits.{Node, IsCircuit, constant}
use Rattle.rvt_num.specs.declared.operations.BinOp.TheVariants.{Mul}
use Rattle.rvt_num.specs.Kinds.{width, promoted_kind}
use Rattle.rvt_num.specs.Operations.{number_of}
use Rattle.rvt_num.specs.Wrapping.{reading, wrap}
use Rattle.bit_words.specs.Built.{MadeBits, product_built}
use Rattle.bit_words.specs.Words.{LitWord, word_number, AreThere, values, number_of_bits}
use Rattle.bit_words.proofs.Multiplication.{product-makes}
use Rattle.bit_words.proofs.Numbers.{multiplied}
use Rattle.bit_words.proofs.WordValues.{below_width}

pub word_product_is : (old new : List Node) (inputs : List Bool) (a b r : LitWord) → IsCircuit old → AreThere old a.bits → AreThere old b.bits → length a.bits ≡ width a.kind → length b.bits ≡ width b.kind → a.kind ≡ b.kind → promoted_kind a.kind ≡ a.kind
    → r.kind ≡ a.kind → product_built old a.bits b.bits ≡ record { nodes = new; bits = r.bits; carry = constant false }
    → word_number new inputs r ≡ number_of Mul (word_number old inputs a) (word_number old inputs b)
word_product_is old new inputs a b r h p q wide wide' same promoted k e =
    let m = number_of_bits (values old inputs a.bits) in
    let n = number_of_bits (values old inputs b.bits) in
    let makes = product-makes old a.bits b.bits h p q (wide ∙ ap width same ∙ sym wide') in
    let value = subst (λ (t : MadeBits). number_of_bits (values t.nodes inputs t.bits) ≡ m * n % 2 ^ length a.bits) e (makes.value inputs) ∙ ap (λ w. m * n % 2 ^ w) wide in
    (λ i. record { kind = k i; value = reading (k i) (value i) })
    ∙ (λ i. record { kind = a.kind; value = multiplied a.kind promoted m n (below_width old inputs a.bits (width a.kind) wide) (below_width old inputs b.bits (width a.kind) (wide' ∙ ap width (sym same))) i })
    ∙ (λ i. record { kind = a.kind; value = wrap a.kind (reading a.kind m *ℤ reading (same i) n) })
