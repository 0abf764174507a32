-- Loops of the test of congruence.
use Rattle.std.proofs.Common.{◌≡◌, ℕ, zero, suc, ◌+◌, ◌-◌, ◌/◌, ◌%◌, ◌<◌, ◌≤◌, List, [], ◌∷◌, ◌++◌, length, drop, refl, sym, ap, ◌∙◌, subst, arith, get_or, append_assoc}
use Rattle.std.specs.Prelude.{fold, ◌==◌}
use Rattle.std.proofs.lemmas.List.{at_drop_more, at_drop_all}
use Rattle.aig_build.proofs.Nodes.{Grows-trans}
use Rattle.aig_build.specs.Built.{Made}
use Rattle.aig_build.specs.Circuits.{Node, Grows, constant}
use Rattle.aig_build.specs.declared.lits.Lit.{Lit}
use Rattle.bit_ops.specs.declared.values.SymValue.{SymValue}
use Rattle.bit_words.specs.Words.{AreThere}
use Rattle.core_ir.specs.declared.units.Shape.{Shape}
use Rattle.sym_values.specs.Values.{lits_of, all_lits}
use Rattle.rvt_num.specs.declared.values.Trap.{Trap}
use Rattle.uf_abstraction.specs.Applications.{Target, trap_lits}
use Rattle.uf_abstraction.specs.Testing.{number_lits, with_result, with_results}

abbrev pub made : List Node → Lit → Made
made ns lit = record { nodes = ns; lit = lit }

-- a literal of a circuit that grew
pub record IsGrown (old new : List Node) (lit : Lit) : Type 0 where
  pub grows : Grows old new
  pub there : lit.node < length new

pub IsGrown-step : (old now new : List Node) (lit next : Lit) → IsGrown old now lit → Grows now new → next.node < length new → IsGrown old new next
IsGrown-step old now new lit next h g t = record { grows = Grows-trans old now new h.grows g; there = t }

-- ---- numbers

pub number_step : (lits all : List Lit) (w c n : ℕ) → c < w → lits ++ number_lits (w - c) n ≡ all → (lits ++ constant (n % 2 == 1) ∷ []) ++ number_lits (w - (c + 1)) (n / 2) ≡ all
number_step lits all w c n h e =
    let one : suc (w - (c + 1)) ≡ w - c = omega (arith, h) in
    append_assoc lits (constant (n % 2 == 1) ∷ []) (number_lits (w - (c + 1)) (n / 2)) ∙ ap (λ k. lits ++ number_lits k n) one ∙ e

pub number_all : (lits all : List Lit) (w c n : ℕ) → w ≤ c → lits ++ number_lits (w - c) n ≡ all → lits ≡ all
number_all lits all w c n h e = let none : 0 ≡ w - c = omega (arith, h) in sym (append_nil lits) ∙ ap (λ k. lits ++ number_lits k n) none ∙ e
  where
    append_nil : (xs : List Lit) → xs ++ [] ≡ xs
    append_nil [] = refl
    append_nil (x ∷ xs) = ap (λ l. x ∷ l) (append_nil xs)

pub number_there : (ns : List Node) → 0 < length ns → (w n : ℕ) → AreThere ns (number_lits w n)
number_there ns h zero n = tt
number_there ns h (suc w) n = (h, number_there ns h w (n / 2))

-- ---- folds, as what is left of the list

module _ {X : Type 0} {M : Type 0} (step : M → X → M) (all : M) (xs : List X) (at : ℕ) where
  pub left_step : (now next : M) (d : X) → fold step now (drop at xs) ≡ all → at < length xs → step now (get_or xs at d) ≡ next → fold step next (drop (at + 1) xs) ≡ all
  left_step now next d e h f = ap (λ m. fold step m (drop (at + 1) xs)) (sym f) ∙ sym (at_drop_more (fold step now) xs at d h) ∙ e

  pub left_all : (now : M) → fold step now (drop at xs) ≡ all → length xs ≤ at → all ≡ now
  left_all now e h = sym e ∙ at_drop_all (fold step now) xs at h

pub there_front : (ns : List Node) (xs ys : List Lit) → AreThere ns (xs ++ ys) → AreThere ns xs
there_front ns [] ys h = tt
there_front ns (x ∷ xs) ys h = (h.0, there_front ns xs ys h.1)

pub there_back : (ns : List Node) (xs ys : List Lit) → AreThere ns (xs ++ ys) → AreThere ns ys
there_back ns [] ys h = h
there_back ns (x ∷ xs) ys h = there_back ns xs ys h.1

-- ---- results

pub results_step : (ts : List Target) (ss : List Shape) (xs : List SymValue) (at : ℕ) (now next all : Made) (d : Shape) (x : SymValue) → at < length ss → at < length xs → x ≡ get_or xs at x
    → with_results ts now (drop at ss) (drop at xs) ≡ all → with_result ts now (get_or ss at d) x ≡ next → with_results ts next (drop (at + 1) ss) (drop (at + 1) xs) ≡ all
results_step ts ss xs at now next all d x h k f g w =
    ap (λ m. with_results ts m (drop (at + 1) ss) (drop (at + 1) xs)) (sym w ∙ (λ i. with_result ts now (get_or ss at d) (f i)))
    ∙ sym (at_drop_more (λ l. with_results ts now (get_or ss at d ∷ drop (at + 1) ss) l) xs at x k)
    ∙ sym (at_drop_more (λ l. with_results ts now l (drop at xs)) ss at d h) ∙ g

pub results_all : (ts : List Target) (ss : List Shape) (xs : List SymValue) (at : ℕ) (now all : Made) → length ss ≤ at → with_results ts now (drop at ss) (drop at xs) ≡ all → all ≡ now
results_all ts ss xs at now all h e = sym e ∙ at_drop_all (λ l. with_results ts now l (drop at xs)) ss at h

pub value_there : (ns : List Node) (xs : List SymValue) (at : ℕ) (x : SymValue) → AreThere ns (all_lits xs) → at < length xs → x ≡ get_or xs at x → AreThere ns (lits_of x)
value_there ns [] at x t h e = absurd (omega arith)
value_there ns (y ∷ ys) zero x t h e = subst (λ z. AreThere ns (lits_of z)) (sym e) (there_front ns (lits_of y) (all_lits ys) t)
value_there ns (y ∷ ys) (suc at) x t h e = value_there ns ys at x (there_back ns (lits_of y) (all_lits ys) t) (omega arith) e

-- ---- traps

pub trap_there : (ns : List Node) (ts : List (Trap × Lit)) (at : ℕ) (d : Trap × Lit) → AreThere ns (trap_lits ts) → at < length ts → (get_or ts at d).1.node < length ns
trap_there ns [] at d t h = absurd (omega (arith, h))
trap_there ns (x ∷ ts) zero d t h = t.0
trap_there ns (x ∷ ts) (suc at) d t h = trap_there ns ts at d t.1 (omega (arith, h))
