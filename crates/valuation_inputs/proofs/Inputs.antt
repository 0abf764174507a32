-- The values of a valuation at the inputs, in order, are an assignment that gives it.
use Rattle.std.proofs.Common.{◌≡◌, ℕ, zero, suc, ◌+◌, ◌<◌, Bool, true, false, ◌&&◌, List, [], ◌∷◌, ◌++◌, length, map, drop, get_or, Some, None, refl, sym, ap, ◌∙◌, arith, ◌⊎◌, inl, inr, ⊎_elim, subst}
use Rattle.std.specs.Prelude.{count_by, fold, is_none, nat_lt, slice_get}
use Rattle.std.proofs.lemmas.Bool.{cases_Bool, ltb-true, ltb-false}
use Rattle.std.proofs.lemmas.List.{get_or_append_left, get_or_push, length_push}
use Rattle.aig_build.proofs.Gates.{slice_get_kept}
use Rattle.aig_build.proofs.Nodes.{count_cons}
use Rattle.aig_build.specs.Built.{node_lit}
use Rattle.aig_build.specs.Circuits.{Node, IsCircuit, Progress, negate_if, value_among, next, start, progress, lit_value}
use Rattle.aig_build.specs.declared.lits.Lit.{Lit}
use Rattle.bit_words.specs.Words.{AreThere, number_of_bits}
use Rattle.rvt_num.specs.Wrapping.{reading}
use Rattle.sym_values.specs.Valuations.{Valuation, IsValuation}
use Rattle.valuation_inputs.specs.Inputs.{IsAssigned, AssignedLaw, GrownLaw, NumberLaw}

-- the values at the nodes that are no gates, from the node k on
abbrev inputs_from : Valuation → ℕ → List Node → List Bool
inputs_from v k [] = []
inputs_from v k (None ∷ ns) = v (node_lit k) ∷ inputs_from v (suc k) ns
inputs_from v k (Some g ∷ ns) = inputs_from v (suc k) ns

many_inputs : (v : Valuation) (k : ℕ) (ns : List Node) → length (inputs_from v k ns) ≡ count_by is_none ns
many_inputs v k [] = refl
many_inputs v k (None ∷ ns) = omega (arith, many_inputs v (suc k) ns, count_cons None ns)
many_inputs v k (Some g ∷ ns) = omega (arith, many_inputs v (suc k) ns, count_cons (Some g) ns)

read_here : (xs ys : List Bool) (y : Bool) (n : ℕ) → drop n xs ≡ y ∷ ys → get_or xs n false ≡ y
read_here [] ys y zero e = cc
read_here [] ys y (suc n) e = cc
read_here (x ∷ xs) ys y zero e = ap (λ l. get_or l 0 false) e
read_here (x ∷ xs) ys y (suc n) e = read_here xs ys y n e

rest_after : (xs ys : List Bool) (y : Bool) (n : ℕ) → drop n xs ≡ y ∷ ys → drop (suc n) xs ≡ ys
rest_after [] ys y zero e = cc
rest_after [] ys y (suc n) e = cc
rest_after (x ∷ xs) ys y zero e = ap (λ l. drop 1 l) e
rest_after (x ∷ xs) ys y (suc n) e = rest_after xs ys y n e

rest_here : (xs ys : List Bool) (y : Bool) (n : ℕ) → drop n xs ≡ y ∷ ys → drop (n + 1) xs ≡ ys
rest_here xs ys y n e = let on : n + 1 ≡ suc n = omega arith in ap (λ k. drop k xs) on ∙ rest_after xs ys y n e

with_sign : (nodes : List Node) (v : Valuation) → IsValuation nodes v → (n : ℕ) (s : Bool) → negate_if s (v (node_lit n)) ≡ v (record { node = n; negated = s })
with_sign nodes v h n false = refl
with_sign nodes v h n true = sym (h.of_opposite (node_lit n))

below_or_here : (n k : ℕ) → n < suc k → (n < k) ⊎ (n ≡ k)
below_or_here n k h = ⊎_elim (λ t. inl (ltb-true n k t)) (λ f. inr (let le = ltb-false n k f in omega arith)) (cases_Bool (nat_lt n k))

module _ (nodes : List Node) (v : Valuation) (circuit : IsCircuit nodes) (h : IsValuation nodes v) (bits : List Bool) where
  -- the first k nodes have their values, and the rest of the bits is for the inputs that follow
  record Agrees (k : ℕ) (p : Progress) (suffix : List Node) : Type 0 where
    long : length p.values ≡ k
    values : (m : ℕ) → m < k → get_or p.values m false ≡ v (node_lit m)
    left : drop p.taken (false ∷ bits) ≡ inputs_from v k suffix
    there : (m : ℕ) (x : Node) → slice_get suffix m ≡ Some x → slice_get nodes (k + m) ≡ Some x

  one_more : (k : ℕ) (values : List Bool) (b : Bool) → length values ≡ k → ((m : ℕ) → m < k → get_or values m false ≡ v (node_lit m)) → b ≡ v (node_lit k) → (m : ℕ) → m < suc k → get_or (values ++ b ∷ []) m false ≡ v (node_lit m)
  one_more k values b e f g m l = ⊎_elim
      (λ (less : m < k). get_or_append_left values (b ∷ []) false m (omega (arith, less, e)) ∙ f m less)
      (λ (same : m ≡ k). get_or_push values b false m (e ∙ sym same) ∙ g ∙ ap (λ n. v (node_lit n)) (sym same))
      (below_or_here m k l)

  among : (k : ℕ) (values : List Bool) → ((m : ℕ) → m < k → get_or values m false ≡ v (node_lit m)) → (l : Lit) → l.node < k → value_among values l ≡ v l
  among k values f l less = ap (negate_if l.negated) (f l.node less) ∙ with_sign nodes v h l.node l.negated

  shifted : (k : ℕ) (y : Node) (ns : List Node) → ((m : ℕ) (x : Node) → slice_get (y ∷ ns) m ≡ Some x → slice_get nodes (k + m) ≡ Some x) → (m : ℕ) (x : Node) → slice_get ns m ≡ Some x → slice_get nodes (suc k + m) ≡ Some x
  shifted k y ns f m x e = let same : k + suc m ≡ suc k + m = omega arith in subst (λ n. slice_get nodes n ≡ Some x) same (f (suc m) x e)

  agree : (suffix : List Node) (k : ℕ) (p : Progress) → Agrees k p suffix → (m : ℕ) → m < k + length suffix → get_or (fold (next bits) p suffix).values m false ≡ v (node_lit m)
  agree [] k p a m l = a.values m (omega (arith, l))
  agree (None ∷ ns) k p a m l =
      let bit = read_here (false ∷ bits) (inputs_from v (suc k) ns) (v (node_lit k)) p.taken a.left in
      agree ns (suc k) (next bits p None) (record {
        long = length_push p.values _ ∙ ap (λ n. n + 1) a.long ∙ omega arith;
        values = one_more k p.values _ a.long a.values bit;
        left = rest_here (false ∷ bits) (inputs_from v (suc k) ns) (v (node_lit k)) p.taken a.left;
        there = shifted k None ns a.there;
      }) m (omega (arith, l))
  agree (Some (x, y) ∷ ns) k p a m l =
      let here : slice_get nodes k ≡ Some (Some (x, y)) = let same : k + 0 ≡ k = omega arith in subst (λ n. slice_get nodes n ≡ Some (Some (x, y))) same (a.there 0 (Some (x, y)) refl) in
      let o = circuit.operands k x y here in
      let first = among k p.values a.values x (let p0 = o.1 in let p1 = o.2 in omega (arith, p0, p1)) in
      let second = among k p.values a.values y o.2 in
      agree ns (suc k) (next bits p (Some (x, y))) (record {
        long = length_push p.values _ ∙ ap (λ n. n + 1) a.long ∙ omega arith;
        values = one_more k p.values _ a.long a.values ((λ i. first i && second i) ∙ sym (h.of_gate k x y here));
        left = a.left;
        there = shifted k (Some (x, y)) ns a.there;
      }) m (omega (arith, l))

module _ (ns : List Node) (v : Valuation) (c : IsCircuit (None ∷ ns)) (h : IsValuation (None ∷ ns) v) where
  abbrev the_bits : List Bool
  the_bits = inputs_from v 1 ns

  begun : Agrees (None ∷ ns) v c h the_bits 0 start (None ∷ ns)
  begun = record {
    long = refl;
    values = λ m l. absurd (omega (arith, l));
    left = ap (λ b. b ∷ the_bits) (sym h.of_constant);
    there = λ m x e. let same : m ≡ 0 + m = omega arith in subst (λ n. slice_get (None ∷ ns) n ≡ Some x) same e;
  }

  value_is : (l : Lit) → l.node < length (None ∷ ns) → lit_value (None ∷ ns) the_bits l ≡ v l
  unfolding lit_value
  value_is l less = among (None ∷ ns) v c h the_bits (length (None ∷ ns)) (progress (None ∷ ns) the_bits).values (λ m below. agree (None ∷ ns) v c h the_bits (None ∷ ns) 0 start begun m (omega (arith, below))) l less

  assigned_by : IsAssigned (None ∷ ns) v the_bits
  assigned_by = record { one_bit_an_input = omega (arith, many_inputs v 1 ns, count_cons None ns); value = value_is }

pub assigned : AssignedLaw
assigned [] v c h = absurd (let e = c.constant in cc)
assigned (Some g ∷ ns) v c h = absurd (let e = c.constant in cc)
assigned (None ∷ ns) v c h = (inputs_from v 1 ns, assigned_by ns v c h)

pub grown : GrownLaw
grown old new v g h = record {
  of_constant = h.of_constant;
  of_opposite = h.of_opposite;
  of_gate = λ n a b e. h.of_gate n a b (subst (λ ns. slice_get ns n ≡ Some (Some (a, b))) (sym g.is) (slice_get_kept old g.added (Some (a, b)) n e));
}

same_values : (nodes : List Node) (v : Valuation) (bits : List Bool) → IsAssigned nodes v bits → (xs : List Lit) → AreThere nodes xs → map (lit_value nodes bits) xs ≡ map v xs
same_values nodes v bits a [] t = refl
same_values nodes v bits a (x ∷ xs) t = λ i. a.value x t.0 i ∷ same_values nodes v bits a xs t.1 i

pub number : NumberLaw
number nodes v bits w a t = ap (λ bs. record { kind = w.kind; value = reading w.kind (number_of_bits bs) }) (same_values nodes v bits a w.bits t)
