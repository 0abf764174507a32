-- The circuit of a sum has the bits of the sum.
use Rattle.std.proofs.Common.{◌≡◌, ℕ, zero, suc, ◌+◌, ◌<◌, ◌≤◌, Bool, not, ◌&&◌, ◌||◌, List, [], ◌∷◌, ◌++◌, length, drop, get_or, refl, sym, ap, ◌∙◌, arith, subst, append_assoc, add-one}
use Rattle.std.proofs.Math.Seq.{drop-cons}
use Rattle.std.proofs.lemmas.List.{append-nil}
use Rattle.bit_words.specs.declared.cells.Cell.{Cell}
use Rattle.bit_words.specs.declared.cells.Cell.TheVariants.{Sum, And, Or, Xor, Less, Equal, Choice}
use Rattle.bit_words.specs.Rippling.{IsRippling}
use Rattle.aig_build.specs.declared.lits.Lit.{Lit}
use Rattle.aig_build.specs.Built.{Made, and_built}
use Rattle.aig_build.specs.Circuits.{Node, IsCircuit, Grows, Makes, opposite, lit_value}
use Rattle.aig_build.proofs.Nodes.{Grows-keeps, Grows-refl, Grows-trans, Grows-length}
use Rattle.bit_words.specs.Built.{xor_built, majority_built, MadeSum, full_sum_built, MadeBits, after_bits, cell_built, ripple_built}
use Rattle.bit_words.specs.Words.{AreThere, values}
use Rattle.bit_words.proofs.Computing.{Fun, Computes, itself, later, out, Makes-as, Makes-from, differ, majority, pick, choice-makes, carry_is, most_is, inverted, and-makes, or-makes, xor-makes}

-- ---- lists of literals as the circuit grows
pub AreThere-later : (old new : List Node) (xs : List Lit) → Grows old new → AreThere old xs → AreThere new xs
AreThere-later old new [] g t = tt
AreThere-later old new (x ∷ xs) g t = (omega (arith, t.0, Grows-length old new g), AreThere-later old new xs g t.1)

pub values-later : (old new : List Node) (inputs : List Bool) (xs : List Lit) → Grows old new → AreThere old xs → values new inputs xs ≡ values old inputs xs
values-later old new inputs [] g t = refl
values-later old new inputs (x ∷ xs) g t = λ i. Grows-keeps old new g inputs x t.0 i ∷ values-later old new inputs xs g t.1 i

pub AreThere-at : (nodes : List Node) (xs : List Lit) (n : ℕ) (d : Lit) → AreThere nodes xs → n < length xs → (get_or xs n d).node < length nodes
AreThere-at nodes [] n d t h = absurd (omega arith)
AreThere-at nodes (x ∷ xs) zero d t h = t.0
AreThere-at nodes (x ∷ xs) (suc n) d t h = AreThere-at nodes xs n d t.1 (omega arith)

-- ---- the sum of three bits
pub record MakesSum (old : List Node) (m : MadeSum) (f g : Fun) : Type 0 where
  pub circuit : IsCircuit m.nodes
  pub grows : Grows old m.nodes
  pub sum : Computes m.nodes m.sum f
  pub carry : Computes m.nodes m.carry g

pub full_sum-makes : (ns : List Node) (a b c : Lit) (f g k : Fun) → IsCircuit ns → Computes ns a f → Computes ns b g → Computes ns c k
    → MakesSum ns (full_sum_built ns a b c) (λ inputs. differ (differ (f inputs) (g inputs)) (k inputs)) (λ inputs. majority (f inputs) (g inputs) (k inputs))
unfolding full_sum_built
full_sum-makes ns a b c f g k h p q r =
    let x = xor-makes ns h a b f g p q in
    let s = xor-makes _ x.circuit _ c _ k (out _ _ _ _ x) (later _ _ _ _ x.grows r) in
    let to_s = Grows-trans _ _ _ x.grows s.grows in
    let m = and-makes _ s.circuit a b f g (later _ _ _ _ to_s p) (later _ _ _ _ to_s q) in
    let to_m = Grows-trans _ _ _ to_s m.grows in
    let n = and-makes _ m.circuit _ c _ k (later _ _ _ _ (Grows-trans _ _ _ s.grows m.grows) (out _ _ _ _ x)) (later _ _ _ _ to_m r) in
    let o = or-makes _ n.circuit _ _ _ _ (later _ _ _ _ n.grows (out _ _ _ _ m)) (out _ _ _ _ n) in
    let carry = Makes-as _ _ _ _ _ (λ inputs. carry_is (f inputs) (g inputs) (k inputs)) o in
    record {
      circuit = o.circuit;
      grows = Grows-trans _ _ _ to_m (Grows-trans _ _ _ n.grows o.grows);
      sum = later _ _ _ _ (Grows-trans _ _ _ m.grows (Grows-trans _ _ _ n.grows o.grows)) (out _ _ _ _ s);
      carry = out _ _ _ _ carry;
    }

-- ---- the cells
abbrev pub cell_bit : Cell → Bool → Bool → Bool → Bool
cell_bit Sum x y c = differ (differ x y) c
cell_bit And x y c = x && y
cell_bit Or x y c = x || y
cell_bit Xor x y c = differ x y
cell_bit Less x y c = majority (not x) y c
cell_bit Equal x y c = c && not (differ x y)
cell_bit Choice x y c = pick c x y

abbrev pub cell_carry : Cell → Bool → Bool → Bool → Bool
cell_carry Sum x y c = majority x y c
cell_carry And x y c = c
cell_carry Or x y c = c
cell_carry Xor x y c = c
cell_carry Less x y c = majority (not x) y c
cell_carry Equal x y c = c && not (differ x y)
cell_carry Choice x y c = c

module _ (ns : List Node) (h : IsCircuit ns) (a b c : Lit) (f g k : Fun) (p : Computes ns a f) (q : Computes ns b g) (r : Computes ns c k) where
  majority-makes : Makes ns (λ inputs. majority (f inputs) (g inputs) (k inputs)) (majority_built ns a b c).nodes (majority_built ns a b c).lit
  unfolding majority_built
  majority-makes =
      let m = and-makes ns h a b f g p q in
      let o = or-makes _ m.circuit a b f g (later _ _ _ _ m.grows p) (later _ _ _ _ m.grows q) in
      let to_o = Grows-trans _ _ _ m.grows o.grows in
      let n = and-makes _ o.circuit c _ k _ (later _ _ _ _ to_o r) (out _ _ _ _ o) in
      let e = or-makes _ n.circuit _ _ _ _ (later _ _ _ _ (Grows-trans _ _ _ o.grows n.grows) (out _ _ _ _ m)) (out _ _ _ _ n) in
      Makes-as _ _ _ _ _ (λ inputs. most_is (f inputs) (g inputs) (k inputs)) (Makes-from _ _ _ _ _ (Grows-trans _ _ _ to_o n.grows) e)

  equal-makes : Makes ns (λ inputs. k inputs && not (differ (f inputs) (g inputs))) (and_built (xor_built ns a b).nodes c (opposite (xor_built ns a b).lit)).nodes (and_built (xor_built ns a b).nodes c (opposite (xor_built ns a b).lit)).lit
  equal-makes =
      let d = xor-makes ns h a b f g p q in
      Makes-from _ _ _ _ _ d.grows (and-makes _ d.circuit c _ k _ (later _ _ _ _ d.grows r) (inverted _ _ _ (out _ _ _ _ d)))

  -- a gate beside a carry that stays
  beside : (m : Made) (b : Fun) → Makes ns b m.nodes m.lit → MakesSum ns (record { nodes = m.nodes; sum = m.lit; carry = c }) b k
  beside m b n = record { circuit = n.circuit; grows = n.grows; sum = out _ _ _ _ n; carry = later _ _ _ _ n.grows r }

  -- a gate that is the carry too
  twice : (m : Made) (b : Fun) → Makes ns b m.nodes m.lit → MakesSum ns (record { nodes = m.nodes; sum = m.lit; carry = m.lit }) b b
  twice m b n = record { circuit = n.circuit; grows = n.grows; sum = out _ _ _ _ n; carry = out _ _ _ _ n }

pub cell-makes : (cell : Cell) (ns : List Node) (a b c : Lit) (f g k : Fun) → IsCircuit ns → Computes ns a f → Computes ns b g → Computes ns c k
    → MakesSum ns (cell_built ns cell a b c) (λ inputs. cell_bit cell (f inputs) (g inputs) (k inputs)) (λ inputs. cell_carry cell (f inputs) (g inputs) (k inputs))
unfolding cell_built
cell-makes Sum ns a b c f g k h p q r = full_sum-makes ns a b c f g k h p q r
cell-makes And ns a b c f g k h p q r = beside ns h a b c f g k p q r _ _ (and-makes ns h a b f g p q)
cell-makes Or ns a b c f g k h p q r = beside ns h a b c f g k p q r _ _ (or-makes ns h a b f g p q)
cell-makes Xor ns a b c f g k h p q r = beside ns h a b c f g k p q r _ _ (xor-makes ns h a b f g p q)
cell-makes Less ns a b c f g k h p q r = twice ns h a b c f g k p q r _ _ (majority-makes ns h (opposite a) b c _ g k (inverted ns a f p) q r)
cell-makes Equal ns a b c f g k h p q r = twice ns h a b c f g k p q r _ _ (equal-makes ns h a b c f g k p q r)
cell-makes Choice ns a b c f g k h p q r = beside ns h a b c f g k p q r _ _ (choice-makes ns h a b f g p q c k r)

-- ---- all places of two words
abbrev pub ripple_bits : Cell → Bool → List Bool → List Bool → List Bool
ripple_bits cell c (x ∷ xs) (y ∷ ys) = cell_bit cell x y c ∷ ripple_bits cell (cell_carry cell x y c) xs ys
ripple_bits cell c _ _ = []

abbrev pub ripple_carry : Cell → Bool → List Bool → List Bool → Bool
ripple_carry cell c (x ∷ xs) (y ∷ ys) = ripple_carry cell (cell_carry cell x y c) xs ys
ripple_carry cell c _ _ = c

pub record MakesBits (cell : Cell) (old : List Node) (c : Lit) (xs ys : List Lit) (m : MadeBits) : Type 0 where
  pub circuit : IsCircuit m.nodes
  pub grows : Grows old m.nodes
  pub there : AreThere m.nodes m.bits
  pub carry_there : m.carry.node < length m.nodes
  pub bits : (inputs : List Bool) → values m.nodes inputs m.bits ≡ ripple_bits cell (lit_value old inputs c) (values old inputs xs) (values old inputs ys)
  pub carries : (inputs : List Bool) → lit_value m.nodes inputs m.carry ≡ ripple_carry cell (lit_value old inputs c) (values old inputs xs) (values old inputs ys)

pub ripple-makes : (cell : Cell) (ns : List Node) (c : Lit) (xs ys : List Lit) → IsCircuit ns → c.node < length ns → AreThere ns xs → AreThere ns ys → length xs ≡ length ys → MakesBits cell ns c xs ys (ripple_built ns cell c xs ys)
unfolding ripple_built
ripple-makes cell ns c [] [] h p q r e = record { circuit = h; grows = Grows-refl ns; there = tt; carry_there = p; bits = λ inputs. refl; carries = λ inputs. refl }
ripple-makes cell ns c [] (y ∷ ys) h p q r e = absurd (omega arith)
ripple-makes cell ns c (x ∷ xs) [] h p q r e = absurd (omega arith)
ripple-makes cell ns c (x ∷ xs) (y ∷ ys) h p q r e =
    let s = cell-makes cell ns x y c _ _ _ h (itself ns x q.0) (itself ns y r.0) (itself ns c p) in
    let rest = ripple-makes cell (cell_built ns cell x y c).nodes (cell_built ns cell x y c).carry xs ys s.circuit s.carry.there (AreThere-later _ _ xs s.grows q.1) (AreThere-later _ _ ys s.grows r.1) (omega arith) in
    let bit = later _ _ _ _ rest.grows s.sum in
    record {
      circuit = rest.circuit;
      grows = Grows-trans _ _ _ s.grows rest.grows;
      there = (bit.there, rest.there);
      carry_there = rest.carry_there;
      bits = λ inputs i. bit.value inputs i ∷ (rest.bits inputs ∙ (λ j. ripple_bits cell (s.carry.value inputs j) (values-later _ _ inputs xs s.grows q.1 j) (values-later _ _ inputs ys s.grows r.1 j))) i;
      carries = λ inputs. rest.carries inputs ∙ (λ j. ripple_carry cell (s.carry.value inputs j) (values-later _ _ inputs xs s.grows q.1 j) (values-later _ _ inputs ys s.grows r.1 j));
    }

-- ---- the loop
drop_all : (n : ℕ) (xs : List Lit) → length xs ≤ n → drop n xs ≡ []
drop_all zero [] h = refl
drop_all zero (x ∷ xs) h = absurd (omega arith)
drop_all (suc n) [] h = refl
drop_all (suc n) (x ∷ xs) h = drop_all n xs (omega arith)

ripple_step : (now : List Node) (cell : Cell) (carry x y : Lit) (xs ys bits : List Lit) (s : MadeSum) → cell_built now cell x y carry ≡ s
    → after_bits (bits ++ s.sum ∷ []) (ripple_built s.nodes cell s.carry xs ys) ≡ after_bits bits (ripple_built now cell carry (x ∷ xs) (y ∷ ys))
unfolding ripple_built
ripple_step now cell carry x y xs ys bits s e =
    (λ i. record { nodes = (ripple_built s.nodes cell s.carry xs ys).nodes; bits = append_assoc bits (s.sum ∷ []) (ripple_built s.nodes cell s.carry xs ys).bits i; carry = (ripple_built s.nodes cell s.carry xs ys).carry })
    ∙ ap (λ (t : MadeSum). after_bits bits (after_bits (t.sum ∷ []) (ripple_built t.nodes cell t.carry xs ys))) (sym e)

ripple_of_none : (now : List Node) (cell : Cell) (carry : Lit) (ys : List Lit) → ripple_built now cell carry [] ys ≡ record { nodes = now; bits = []; carry = carry }
unfolding ripple_built
ripple_of_none now cell carry ys = refl

module _ (first now : List Node) (cell : Cell) (xs ys bits : List Lit) (begin carry : Lit) (at : ℕ) (rippling : IsRippling first now cell xs ys bits begin carry at) where
  pub rippling_more : (d : Lit) (s : MadeSum) → at < length xs → at < length ys → cell_built now cell (get_or xs at d) (get_or ys at d) carry ≡ s → Grows now s.nodes → s.carry.node < length s.nodes
      → IsRippling first s.nodes cell xs ys (bits ++ s.sum ∷ []) begin s.carry (at + 1)
  rippling_more d s p q e g t = record {
    resumes = rw add-one (ripple_step now cell carry _ _ (drop (suc at) xs) (drop (suc at) ys) bits s e ∙ (λ i. after_bits bits (ripple_built now cell carry (sym (drop-cons xs at d p) i) (sym (drop-cons ys at d q) i))) ∙ rippling.resumes);
    grows = Grows-trans _ _ _ rippling.grows g;
    there = t;
  }

  pub rippling_all : length xs ≤ at → ripple_built first cell begin xs ys ≡ record { nodes = now; bits = bits; carry = carry }
  rippling_all done =
      sym rippling.resumes ∙ ap (λ zs. after_bits bits (ripple_built now cell carry zs (drop at ys))) (drop_all at xs done)
      ∙ ap (after_bits bits) (ripple_of_none now cell carry (drop at ys)) ∙ (λ i. record { nodes = now; bits = append-nil bits i; carry = carry })

ripple_length : (ns : List Node) (cell : Cell) (c : Lit) (xs ys : List Lit) → length xs ≡ length ys → length (ripple_built ns cell c xs ys).bits ≡ length xs
unfolding ripple_built
ripple_length ns cell c [] [] e = refl
ripple_length ns cell c [] (y ∷ ys) e = absurd (omega arith)
ripple_length ns cell c (x ∷ xs) [] e = absurd (omega arith)
ripple_length ns cell c (x ∷ xs) (y ∷ ys) e = ap suc (ripple_length (cell_built ns cell x y c).nodes cell (cell_built ns cell x y c).carry xs ys (omega arith))

pub ripple_width : (ns : List Node) (cell : Cell) (c : Lit) (xs ys : List Lit) (m : MadeBits) → ripple_built ns cell c xs ys ≡ m → length xs ≡ length ys → length m.bits ≡ length xs
ripple_width ns cell c xs ys m e w = subst (λ (t : MadeBits). length t.bits ≡ length xs) e (ripple_length ns cell c xs ys w)
