-- The words that are built have the values of the operations.
use Rattle.std.proofs.Common.{◌≡◌, ℕ, suc, ◌+◌, ◌<◌, ◌^◌, ◌%◌, ◌+ℤ◌, Bool, false, List, [], ◌∷◌, length, refl, sym, ap, ◌∙◌, arith, subst, add-zero}
use Rattle.aig_build.specs.declared.lits.Lit.{Lit}
use Rattle.aig_build.specs.Circuits.{Node, IsCircuit, constant, lit_value}
use Rattle.aig_build.proofs.Gates.{constant_value}
use Rattle.rvt_num.specs.declared.kinds.Kind.{Kind}
use Rattle.rvt_num.specs.Kinds.{width, promoted_kind}
use Rattle.rvt_num.specs.Wrapping.{reading, wrap}
use Rattle.bit_words.specs.declared.cells.Cell.TheVariants.{Sum}
use Rattle.bit_words.specs.Built.{MadeBits, ripple_built}
use Rattle.bit_words.specs.Words.{AreThere, values, number_of_bits}
use Rattle.bit_words.proofs.Arithmetic.{below_power, sum_modulo}
use Rattle.bit_words.proofs.Numbers.{added}
use Rattle.bit_words.proofs.RippleCarry.{ripple_bits, ripple-makes}

pub values_length : (nodes : List Node) (inputs : List Bool) (xs : List Lit) → length (values nodes inputs xs) ≡ length xs
values_length nodes inputs [] = refl
values_length nodes inputs (x ∷ xs) = ap suc (values_length nodes inputs xs)

pub some_nodes : (nodes : List Node) → IsCircuit nodes → 0 < length nodes
some_nodes [] h = absurd (let none = h.constant in cc)
some_nodes (x ∷ xs) h = omega arith

pub below_width : (nodes : List Node) (inputs : List Bool) (xs : List Lit) (w : ℕ) → length xs ≡ w → number_of_bits (values nodes inputs xs) < 2 ^ w
below_width nodes inputs xs w e = subst (λ n. number_of_bits (values nodes inputs xs) < 2 ^ n) (values_length nodes inputs xs ∙ e) (below_power (values nodes inputs xs))

pub sum_value : (old : List Node) (inputs : List Bool) (kind : Kind) (xs ys : List Lit) (m : MadeBits) → IsCircuit old → AreThere old xs → AreThere old ys → length xs ≡ width kind → length ys ≡ width kind → promoted_kind kind ≡ kind
    → ripple_built old Sum (constant false) xs ys ≡ m
    → reading kind (number_of_bits (values m.nodes inputs m.bits)) ≡ wrap kind (reading kind (number_of_bits (values old inputs xs)) +ℤ reading kind (number_of_bits (values old inputs ys)))
sum_value old inputs kind xs ys m h p q wide wide' promoted e =
    let makes = ripple-makes Sum old (constant false) xs ys h (some_nodes old h) p q (wide ∙ sym wide') in
    let as_bits = subst (λ (t : MadeBits). values t.nodes inputs t.bits ≡ ripple_bits Sum (lit_value old inputs (constant false)) (values old inputs xs) (values old inputs ys)) e (makes.bits inputs) in
    let sum = sum_modulo false (values old inputs xs) (values old inputs ys) (values_length old inputs xs ∙ wide ∙ sym wide' ∙ sym (values_length old inputs ys)) in
    ap (λ bs. reading kind (number_of_bits bs)) (as_bits ∙ ap (λ c. ripple_bits Sum c (values old inputs xs) (values old inputs ys)) (constant_value old (constant false) inputs h refl))
    ∙ ap (reading kind) (sum ∙ (λ i. add-zero (number_of_bits (values old inputs xs) + number_of_bits (values old inputs ys)) i % 2 ^ (values_length old inputs xs ∙ wide) i))
    ∙ added kind promoted _ _ (below_width old inputs xs (width kind) wide) (below_width old inputs ys (width kind) wide')
