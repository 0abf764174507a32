-- The circuit that tests whether two words are equal.
use Rattle.std.proofs.Common.{◌≡◌, ℕ, ◌+◌, ◌*◌, ◌<◌, ◌^◌, ℤ, Bool, true, false, not, ◌&&◌, List, [], ◌∷◌, length, refl, sym, ap, ◌∙◌, arith, subst, nat_eq, ⊎_elim}
use Rattle.std.proofs.lemmas.Bool.{cases_eq}
use Rattle.std.proofs.lemmas.Bool.Decides.{nat_tests}
use Rattle.std.proofs.lemmas.Int.{ints}
use Rattle.aig_build.specs.declared.lits.Lit.{Lit}
use Rattle.aig_build.specs.Built.{Made}
use Rattle.aig_build.specs.Circuits.{Node, IsCircuit, constant, lit_value}
use Rattle.aig_build.proofs.Gates.{constant_value}
use Rattle.rvt_num.specs.declared.kinds.Kind.{Kind}
use Rattle.rvt_num.specs.Kinds.{width}
use Rattle.rvt_num.specs.Operations.{int_eq}
use Rattle.rvt_num.specs.Wrapping.{reading, pattern_of}
use Rattle.rvt_num.proofs.Readings.{pattern_of_reading}
use Rattle.bit_words.specs.declared.cells.Cell.{Cell}
use Rattle.bit_words.specs.declared.cells.Cell.TheVariants.{Equal}
use Rattle.bit_words.specs.Built.{carried_built, equal_built}
use Rattle.bit_words.specs.Words.{LitWord, word_number, AreThere, values, bit_number, number_of_bits}
use Rattle.bit_words.proofs.Computing.{differ}
use Rattle.bit_words.proofs.PlacedValues.{IsWord, pattern, pattern_small}
use Rattle.bit_words.proofs.RippleCarry.{ripple_carry, ripple-makes}
use Rattle.bit_words.proofs.WordValues.{values_length, some_nodes}

pub carried_reads : (cell : Cell) (old new : List Node) (c lit : Lit) (xs ys : List Lit) → IsCircuit old → c.node < length old → AreThere old xs → AreThere old ys → length xs ≡ length ys
    → carried_built old cell c xs ys ≡ record { nodes = new; lit = lit } → (inputs : List Bool)
    → lit_value new inputs lit ≡ ripple_carry cell (lit_value old inputs c) (values old inputs xs) (values old inputs ys)
carried_reads cell old new c lit xs ys h t p q w e inputs = sym (ap (λ (m : Made). lit_value m.nodes inputs m.lit) e) ∙ (ripple-makes cell old c xs ys h t p q w).carries inputs

equal_false : (xs ys : List Bool) → ripple_carry Equal false xs ys ≡ false
equal_false [] ys = refl
equal_false (x ∷ xs) [] = refl
equal_false (x ∷ xs) (y ∷ ys) = equal_false xs ys

equal_step : (x y : Bool) (m n : ℕ) (t : Bool) → t ≡ (not (differ x y) && nat_eq m n) → t ≡ nat_eq (bit_number x + 2 * m) (bit_number y + 2 * n)
equal_step false false m n t e = grind (arith, nat_tests)
equal_step false true m n t e = grind (arith, nat_tests)
equal_step true false m n t e = grind (arith, nat_tests)
equal_step true true m n t e = grind (arith, nat_tests)

equal_more : (b : Bool) (xs ys : List Bool) → length xs ≡ length ys → ripple_carry Equal b xs ys ≡ (b && nat_eq (number_of_bits xs) (number_of_bits ys))
equal_more false xs ys e = equal_false xs ys
equal_more true [] [] e = refl
equal_more true [] (y ∷ ys) e = absurd (omega arith)
equal_more true (x ∷ xs) [] e = absurd (omega arith)
equal_more true (x ∷ xs) (y ∷ ys) e = equal_step x y (number_of_bits xs) (number_of_bits ys) _ (equal_more (not (differ x y)) xs ys (omega arith))

pub equal_bits : (xs ys : List Bool) → length xs ≡ length ys → ripple_carry Equal true xs ys ≡ nat_eq (number_of_bits xs) (number_of_bits ys)
equal_bits xs ys e = equal_more true xs ys e

-- tests of two equations that follow from each other
same_test : (y z : ℤ) (m n : ℕ) → (y ≡ z → m ≡ n) → (m ≡ n → y ≡ z) → nat_eq m n ≡ int_eq y z
same_test y z m n there back = ⊎_elim
    (λ e. let f = back e in grind (arith, ints, nat_tests))
    (λ other. let f : y ≡ z → ⊥ = λ g. other (there g) in grind (arith, ints, nat_tests))
    (cases_eq m n)

pub equal_readings : (kind : Kind) (m n : ℕ) → m < 2 ^ width kind → n < 2 ^ width kind → nat_eq m n ≡ int_eq (reading kind m) (reading kind n)
equal_readings kind m n p q =
    same_test (reading kind m) (reading kind n) m n
    (λ e. sym (pattern_of_reading kind m p) ∙ ap (pattern_of (width kind)) e ∙ pattern_of_reading kind n q)
    (ap (reading kind))

pub equal_is : (old new : List Node) (lit : Lit) (a b : LitWord) → IsCircuit old → IsWord old a → IsWord old b → a.kind ≡ b.kind
    → equal_built old a b ≡ record { nodes = new; lit = lit } → (inputs : List Bool)
    → lit_value new inputs lit ≡ int_eq (word_number old inputs a).value (word_number old inputs b).value
equal_is old new lit a b h p q same e inputs =
    let lengths : length a.bits ≡ length b.bits = p.wide ∙ ap width same ∙ sym q.wide in
    let n = pattern old inputs b in
    carried_reads Equal old new (constant true) lit a.bits b.bits h (some_nodes old h) p.there q.there lengths e inputs
    ∙ ap (λ c. ripple_carry Equal c (values old inputs a.bits) (values old inputs b.bits)) (constant_value old (constant true) inputs h refl)
    ∙ equal_bits (values old inputs a.bits) (values old inputs b.bits) (values_length old inputs a.bits ∙ lengths ∙ sym (values_length old inputs b.bits))
    ∙ equal_readings a.kind (pattern old inputs a) n (pattern_small old inputs a p) (subst (λ k. n < 2 ^ width k) (sym same) (pattern_small old inputs b q))
    ∙ ap (λ kind. int_eq (reading a.kind (pattern old inputs a)) (reading kind n)) same
