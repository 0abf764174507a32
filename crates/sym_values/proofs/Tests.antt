-- Tests of equality and choices between lists of literals.
use Rattle.std.proofs.Common.{◌≡◌, ℕ, zero, suc, Bool, true, false, not, cond, List, [], ◌∷◌, length, refl, sym, ap, ◌∙◌, arith}
use Rattle.std.specs.Prelude.{map, nat_eq}
use Rattle.std.proofs.lemmas.Bool.Decides.{nat_tests}
use Rattle.aig_build.specs.Circuits.{Node, constant}
use Rattle.aig_build.specs.declared.lits.Lit.{Lit}
use Rattle.bit_words.proofs.EqualValues.{equal_bits}
use Rattle.bit_words.proofs.RippleCarry.{ripple_bits, ripple_carry}
use Rattle.bit_words.specs.Built.{carried_built}
use Rattle.bit_words.specs.Words.{number_of_bits}
use Rattle.bit_words.specs.declared.cells.Cell.TheVariants.{Equal, Choice}
use Rattle.sym_values.proofs.Ripples.{ripple_gives}
use Rattle.sym_values.proofs.SameBits.{bits_same, long_map}
use Rattle.sym_values.specs.Gates.{Tells, EqualityLaw, GiveAll, ChoiceLaw}
use Rattle.sym_values.specs.Valuations.{Valuation, IsValuation}

numbers_same : (m n : ℕ) → nat_eq m n ≡ true → m ≡ n
numbers_same m n h = grind (arith, nat_tests)

number_is : (n : ℕ) → nat_eq n n ≡ true
number_is n = grind (arith, nat_tests)

pub constant_true : (v : Valuation) (ns : List Node) → IsValuation ns v → v (constant true) ≡ true
constant_true v ns h = h.of_opposite (constant false) ∙ ap not h.of_constant

module _ (v : Valuation) (ns : List Node) (xs ys : List Lit) (e : length xs ≡ length ys) where
  long : length (map v xs) ≡ length (map v ys)
  long = long_map v xs ∙ e ∙ sym (long_map v ys)

  tests : IsValuation (carried_built ns Equal (constant true) xs ys).nodes v → v (carried_built ns Equal (constant true) xs ys).lit ≡ nat_eq (number_of_bits (map v xs)) (number_of_bits (map v ys))
  tests h =
      let r = ripple_gives v Equal ns (constant true) xs ys in
      r.carries h ∙ ap (λ c. ripple_carry Equal c (map v xs) (map v ys)) (constant_true v ns (r.back h)) ∙ equal_bits (map v xs) (map v ys) long

  tells : Tells v ns (carried_built ns Equal (constant true) xs ys).nodes (carried_built ns Equal (constant true) xs ys).lit (map v xs ≡ map v ys)
  tells = record {
    back = (ripple_gives v Equal ns (constant true) xs ys).back;
    holds = λ h t. bits_same (map v xs) (map v ys) long (numbers_same _ _ (sym (tests h) ∙ t));
    is_true = λ h same. tests h ∙ ap (λ bs. nat_eq (number_of_bits bs) (number_of_bits (map v ys))) same ∙ number_is (number_of_bits (map v ys));
  }

pub equality : EqualityLaw
equality v ns xs ys e = tells v ns xs ys e

chosen : (b : Bool) (xs ys : List Bool) → length xs ≡ length ys → ripple_bits Choice b xs ys ≡ cond b xs ys
chosen false [] [] e = refl
chosen true [] [] e = refl
chosen b [] (y ∷ ys) e = absurd (omega arith)
chosen b (x ∷ xs) [] e = absurd (omega arith)
chosen false (x ∷ xs) (y ∷ ys) e = ap (λ bs. y ∷ bs) (chosen false xs ys (omega arith))
chosen true (x ∷ xs) (y ∷ ys) e = ap (λ bs. x ∷ bs) (chosen true xs ys (omega arith))

pub choosing : ChoiceLaw
choosing v ns which xs ys e =
    let r = ripple_gives v Choice ns which xs ys in
    record { back = r.back; are = λ h. r.are h ∙ chosen (v which) (map v xs) (map v ys) (long_map v xs ∙ e ∙ sym (long_map v ys)) }
