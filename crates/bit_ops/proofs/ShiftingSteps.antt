-- The loop over the bits of a count.
use Rattle.std.proofs.Common.{◌≡◌, ℕ, zero, suc, ◌+◌, ◌-◌, ◌*◌, ◌<◌, ◌≤◌, ◌^◌, Bool, true, false, List, [], ◌∷◌, length, drop, get_or, refl, sym, ap, ◌∙◌, arith, add-one, length-append, length-take}
use Rattle.std.proofs.lemmas.List.{length-drop, length-replicate}
use Rattle.std.proofs.Math.Nat.{pow-suc}
use Rattle.std.proofs.Math.Pow.{pow_mono}
use Rattle.std.proofs.Math.Seq.{drop-cons}
use Rattle.aig_build.specs.declared.lits.Lit.{Lit}
use Rattle.aig_build.specs.Circuits.{Node, Grows}
use Rattle.aig_build.proofs.Nodes.{Grows-trans}
use Rattle.bit_words.specs.declared.cells.Cell.TheVariants.{Choice}
use Rattle.bit_words.specs.Built.{MadeBits, ripple_built}
use Rattle.bit_ops.specs.Built.{moved_bits, shift_built}
use Rattle.bit_ops.specs.Shifting.{IsShifting}
use Rattle.bit_words.specs.Words.{AreThere}
use Rattle.bit_words.proofs.ConvertValues.{AreThere-append}
use Rattle.bit_words.proofs.Multiplication.{AreThere-take, AreThere-replicate}

pub AreThere-drop : (nodes : List Node) (n : ℕ) (xs : List Lit) → AreThere nodes xs → AreThere nodes (drop n xs)
AreThere-drop nodes zero xs t = t
AreThere-drop nodes (suc n) [] t = tt
AreThere-drop nodes (suc n) (x ∷ xs) t = AreThere-drop nodes n xs t.1

pub AreThere-moved : (nodes : List Node) (up : Bool) (fill : Lit) (n : ℕ) (xs : List Lit) → fill.node < length nodes → AreThere nodes xs → AreThere nodes (moved_bits up fill n xs)
AreThere-moved nodes true fill n xs h t = AreThere-append nodes _ _ (AreThere-replicate nodes n fill h) (AreThere-take nodes (length xs - n) xs t)
AreThere-moved nodes false fill n xs h t = AreThere-append nodes _ _ (AreThere-drop nodes n xs t) (AreThere-replicate nodes n fill h)

pub moved_length : (up : Bool) (fill : Lit) (n : ℕ) (xs : List Lit) → n ≤ length xs → length (moved_bits up fill n xs) ≡ length xs
moved_length true fill n xs h = simp (length-append, length-take, length-replicate) (omega arith)
moved_length false fill n xs h = simp (length-append, length-drop, length-replicate) (omega arith)

shift_step : (now : List Node) (up : Bool) (fill c : Lit) (cs bits : List Lit) (step : ℕ) (m : MadeBits) → ripple_built now Choice c (moved_bits up fill step bits) bits ≡ m
    → shift_built m.nodes up fill m.bits cs (2 * step) ≡ shift_built now up fill bits (c ∷ cs) step
unfolding shift_built
shift_step now up fill c cs bits step m e = ap (λ (t : MadeBits). shift_built t.nodes up fill t.bits cs (2 * step)) (sym e)

shift_of_none : (now : List Node) (up : Bool) (fill : Lit) (bits : List Lit) (step : ℕ) → shift_built now up fill bits [] step ≡ record { nodes = now; bits = bits; carry = fill }
unfolding shift_built
shift_of_none now up fill bits step = refl

drop_all : (n : ℕ) (xs : List Lit) → length xs ≤ n → drop n xs ≡ []
drop_all zero [] h = refl
drop_all zero (x ∷ xs) h = absurd (omega arith)
drop_all (suc n) [] h = refl
drop_all (suc n) (x ∷ xs) h = drop_all n xs (omega arith)

module _ (first now : List Node) (up : Bool) (fill : Lit) (xs cs bits : List Lit) (step at : ℕ) (shifting : IsShifting first now up fill xs cs bits step at) where
  pub shifting_more : (d : Lit) (m : MadeBits) → at < length cs → ripple_built now Choice (get_or cs at d) (moved_bits up fill step bits) bits ≡ m → Grows now m.nodes → AreThere m.nodes m.bits → length m.bits ≡ length bits
      → IsShifting first m.nodes up fill xs cs m.bits (step * 2) (at + 1)
  shifting_more d m p e g t w = record {
    resumes = rw add-one (ap (shift_built m.nodes up fill m.bits (drop (suc at) cs)) (omega arith) ∙ shift_step now up fill _ (drop (suc at) cs) bits step m e ∙ (λ i. shift_built now up fill bits (sym (drop-cons cs at d p) i) step) ∙ shifting.resumes);
    grows = Grows-trans _ _ _ shifting.grows g;
    there = t;
    wide = w ∙ shifting.wide;
    step_is = ap (λ s. s * 2) shifting.step_is ∙ sym (rw add-one (pow-suc 2 at));
  }

  pub shifting_all : length cs ≤ at → shift_built first up fill xs cs 1 ≡ record { nodes = now; bits = bits; carry = fill }
  shifting_all done = sym shifting.resumes ∙ ap (λ zs. shift_built now up fill bits zs step) (drop_all at cs done) ∙ shift_of_none now up fill bits step

  pub step_within : at < length cs → 2 ^ length cs ≤ length xs → step ≤ length bits
  step_within p q = let e = shifting.step_is in let w = shifting.wide in let o : at ≤ length cs = omega arith in let f : 2 ^ at ≤ 2 ^ length cs = pow_mono o in omega arith

  pub step_small : at < length cs → length cs ≤ 6 → step ≤ 64
  step_small p q = let e = shifting.step_is in let o : at ≤ 6 = omega arith in let f : 2 ^ at ≤ 2 ^ 6 = pow_mono o in omega arith
