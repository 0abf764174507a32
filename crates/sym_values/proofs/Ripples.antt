-- The values under a valuation of the gates and of a cell at each place of two words.
use Rattle.std.proofs.Common.{◌≡◌, ℕ, zero, suc, Bool, true, false, not, ◌&&◌, ◌||◌, List, [], ◌∷◌, length, refl, sym, ap, ◌∙◌, arith}
use Rattle.std.specs.Prelude.{map}
use Rattle.aig_build.specs.Built.{Made, and_built}
use Rattle.aig_build.specs.Circuits.{Node, opposite}
use Rattle.aig_build.specs.declared.lits.Lit.{Lit}
use Rattle.bit_words.proofs.Computing.{differ, pick, majority, most_is, carry_is}
use Rattle.bit_words.proofs.RippleCarry.{cell_bit, cell_carry, ripple_bits, ripple_carry}
use Rattle.bit_words.specs.Built.{or_built, xor_built, choice_built, majority_built, full_sum_built, MadeSum, MadeBits, cell_built, ripple_built}
use Rattle.bit_words.specs.declared.cells.Cell.{Cell}
use Rattle.bit_words.specs.declared.cells.Cell.TheVariants.{Sum, And, Or, Xor, Less, Equal, Choice}
use Rattle.sym_values.proofs.Conjunctions.{conjunction}
use Rattle.sym_values.specs.Valuations.{Valuation, IsValuation, Gives}

or_is : (x y : Bool) → not (not x && not y) ≡ (x || y)
or_is false false = refl
or_is false true = refl
or_is true y = refl

differ_is : (x y : Bool) → (not (x && y) && not (not x && not y)) ≡ differ x y
differ_is false false = refl
differ_is false true = refl
differ_is true false = refl
differ_is true true = refl

pick_is : (w x y : Bool) → ((w && x) || (not w && y)) ≡ pick w x y
pick_is false x y = refl
pick_is true false y = refl
pick_is true true y = refl

pub record GivesSum (v : Valuation) (old : List Node) (m : MadeSum) (sum carry : Bool) : Type 0 where
  pub back : IsValuation m.nodes v → IsValuation old v
  pub sums : IsValuation m.nodes v → v m.sum ≡ sum
  pub carries : IsValuation m.nodes v → v m.carry ≡ carry

pub record GivesBits (v : Valuation) (old : List Node) (m : MadeBits) (bits : List Bool) (carry : Bool) : Type 0 where
  pub back : IsValuation m.nodes v → IsValuation old v
  pub are : IsValuation m.nodes v → map v m.bits ≡ bits
  pub carries : IsValuation m.nodes v → v m.carry ≡ carry

module _ (v : Valuation) where
  abbrev pub Gate : List Node → Made → Bool → Type 0
  Gate ns m b = Gives v ns m.nodes m.lit b

  pub or_gives : (ns : List Node) (a b : Lit) → Gate ns (or_built ns a b) (v a || v b)
  unfolding or_built
  or_gives ns a b =
      let m = conjunction v ns (opposite a) (opposite b) in
      record {
        back = m.back;
        is = λ h. h.of_opposite _ ∙ ap not (m.is h ∙ (λ i. h.of_opposite a i && h.of_opposite b i)) ∙ or_is (v a) (v b);
      }

  pub xor_gives : (ns : List Node) (a b : Lit) → Gate ns (xor_built ns a b) (differ (v a) (v b))
  unfolding xor_built
  xor_gives ns a b =
      let m = conjunction v ns a b in
      let n = conjunction v (and_built ns a b).nodes (opposite a) (opposite b) in
      let r = conjunction v (and_built (and_built ns a b).nodes (opposite a) (opposite b)).nodes (opposite (and_built ns a b).lit) (opposite (and_built (and_built ns a b).nodes (opposite a) (opposite b)).lit) in
      record {
        back = λ h. m.back (n.back (r.back h));
        is = λ h.
            let g = r.back h in
            let one = h.of_opposite (and_built ns a b).lit ∙ ap not (m.is (n.back g)) in
            let two = h.of_opposite (and_built (and_built ns a b).nodes (opposite a) (opposite b)).lit ∙ ap not (n.is g ∙ (λ i. h.of_opposite a i && h.of_opposite b i)) in
            r.is h ∙ (λ i. one i && two i) ∙ differ_is (v a) (v b);
      }

  pub choice_gives : (ns : List Node) (w a b : Lit) → Gate ns (choice_built ns w a b) (pick (v w) (v a) (v b))
  unfolding choice_built
  choice_gives ns w a b =
      let m = conjunction v ns w a in
      let n = conjunction v (and_built ns w a).nodes (opposite w) b in
      let o = or_gives (and_built (and_built ns w a).nodes (opposite w) b).nodes (and_built ns w a).lit (and_built (and_built ns w a).nodes (opposite w) b).lit in
      record {
        back = λ h. m.back (n.back (o.back h));
        is = λ h.
            let g = o.back h in
            let one = m.is (n.back g) in
            let two = n.is g ∙ ap (λ x. x && v b) (h.of_opposite w) in
            o.is h ∙ (λ i. one i || two i) ∙ pick_is (v w) (v a) (v b);
      }

  pub majority_gives : (ns : List Node) (a b c : Lit) → Gate ns (majority_built ns a b c) (majority (v a) (v b) (v c))
  unfolding majority_built
  majority_gives ns a b c =
      let M = and_built ns a b in
      let O = or_built M.nodes a b in
      let N = and_built O.nodes c O.lit in
      let m = conjunction v ns a b in
      let o = or_gives M.nodes a b in
      let n = conjunction v O.nodes c O.lit in
      let r = or_gives N.nodes M.lit N.lit in
      record {
        back = λ h. m.back (o.back (n.back (r.back h)));
        is = λ h.
            let g = r.back h in
            let k = n.back g in
            let one = m.is (o.back k) in
            let two = n.is g ∙ ap (λ x. v c && x) (o.is k) in
            r.is h ∙ (λ i. one i || two i) ∙ most_is (v a) (v b) (v c);
      }

  sum_gives : (ns : List Node) (a b c : Lit) → GivesSum v ns (full_sum_built ns a b c) (differ (differ (v a) (v b)) (v c)) (majority (v a) (v b) (v c))
  unfolding full_sum_built
  sum_gives ns a b c =
      let X = xor_built ns a b in
      let S = xor_built X.nodes X.lit c in
      let M = and_built S.nodes a b in
      let N = and_built M.nodes X.lit c in
      let x = xor_gives ns a b in
      let s = xor_gives X.nodes X.lit c in
      let m = conjunction v S.nodes a b in
      let n = conjunction v M.nodes X.lit c in
      let k = or_gives N.nodes M.lit N.lit in
      record {
        back = λ h. x.back (s.back (m.back (n.back (k.back h))));
        sums = λ h. let g = m.back (n.back (k.back h)) in s.is g ∙ ap (λ y. differ y (v c)) (x.is (s.back g));
        carries = λ h.
            let g = k.back h in
            let f = n.back g in
            let one = m.is f in
            let two = n.is g ∙ ap (λ y. y && v c) (x.is (s.back (m.back f))) in
            k.is h ∙ (λ i. one i || two i) ∙ carry_is (v a) (v b) (v c);
      }

  -- a gate beside a carry that stays, and a gate that is the carry too
  beside : (ns : List Node) (m : Made) (c : Lit) (b : Bool) → Gate ns m b → GivesSum v ns (record { nodes = m.nodes; sum = m.lit; carry = c }) b (v c)
  beside ns m c b g = record { back = g.back; sums = g.is; carries = λ h. refl }

  twice : (ns : List Node) (m : Made) (b : Bool) → Gate ns m b → GivesSum v ns (record { nodes = m.nodes; sum = m.lit; carry = m.lit }) b b
  twice ns m b g = record { back = g.back; sums = g.is; carries = g.is }

  less_gives : (ns : List Node) (a b c : Lit) → Gate ns (majority_built ns (opposite a) b c) (majority (not (v a)) (v b) (v c))
  less_gives ns a b c =
      let m = majority_gives ns (opposite a) b c in
      record { back = m.back; is = λ h. m.is h ∙ ap (λ x. majority x (v b) (v c)) ((m.back h).of_opposite a) }

  equal_gives : (ns : List Node) (a b c : Lit) → Gate ns (and_built (xor_built ns a b).nodes c (opposite (xor_built ns a b).lit)) (v c && not (differ (v a) (v b)))
  equal_gives ns a b c =
      let D = xor_built ns a b in
      let d = xor_gives ns a b in
      let m = conjunction v D.nodes c (opposite D.lit) in
      record { back = λ h. d.back (m.back h); is = λ h. m.is h ∙ ap (λ x. v c && x) (h.of_opposite D.lit ∙ ap not (d.is (m.back h))) }

  cell_gives : (cell : Cell) (ns : List Node) (a b c : Lit) → GivesSum v ns (cell_built ns cell a b c) (cell_bit cell (v a) (v b) (v c)) (cell_carry cell (v a) (v b) (v c))
  unfolding cell_built
  cell_gives Sum ns a b c = sum_gives ns a b c
  cell_gives And ns a b c = beside ns (and_built ns a b) c _ (conjunction v ns a b)
  cell_gives Or ns a b c = beside ns (or_built ns a b) c _ (or_gives ns a b)
  cell_gives Xor ns a b c = beside ns (xor_built ns a b) c _ (xor_gives ns a b)
  cell_gives Less ns a b c = twice ns (majority_built ns (opposite a) b c) _ (less_gives ns a b c)
  cell_gives Equal ns a b c = twice ns (and_built (xor_built ns a b).nodes c (opposite (xor_built ns a b).lit)) _ (equal_gives ns a b c)
  cell_gives Choice ns a b c = beside ns (choice_built ns c a b) c _ (choice_gives ns c a b)

  pub ripple_gives : (cell : Cell) (ns : List Node) (c : Lit) (xs ys : List Lit) → GivesBits v ns (ripple_built ns cell c xs ys) (ripple_bits cell (v c) (map v xs) (map v ys)) (ripple_carry cell (v c) (map v xs) (map v ys))
  unfolding ripple_built
  ripple_gives cell ns c [] [] = record { back = λ h. h; are = λ h. refl; carries = λ h. refl }
  ripple_gives cell ns c [] (y ∷ ys) = record { back = λ h. h; are = λ h. refl; carries = λ h. refl }
  ripple_gives cell ns c (x ∷ xs) [] = record { back = λ h. h; are = λ h. refl; carries = λ h. refl }
  ripple_gives cell ns c (x ∷ xs) (y ∷ ys) =
      let s = cell_gives cell ns x y c in
      let S = cell_built ns cell x y c in
      let r = ripple_gives cell S.nodes S.carry xs ys in
      record {
        back = λ h. s.back (r.back h);
        are = λ h. let g = r.back h in λ i. s.sums g i ∷ (r.are h ∙ ap (λ k. ripple_bits cell k (map v xs) (map v ys)) (s.carries g)) i;
        carries = λ h. let g = r.back h in r.carries h ∙ ap (λ k. ripple_carry cell k (map v xs) (map v ys)) (s.carries g);
      }
