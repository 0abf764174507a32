-- Merged literals, words and values are the first or the second.
use Rattle.std.proofs.Common.{◌≡◌, suc, Bool, true, false, not, ◌&&◌, cond, List, [], ◌∷◌, length, Option, Some, refl, sym, ap, ◌∙◌, arith}
use Rattle.std.specs.Prelude.{map, ◌==◌}
use Rattle.std.specs.Bool.{beq}
use Rattle.std.proofs.lemmas.Bool.{and_parts, eqb-true, true≢false}
use Rattle.aig_build.specs.Built.{and_built, same_lit}
use Rattle.aig_build.specs.Circuits.{Node, opposite}
use Rattle.aig_build.specs.declared.lits.Lit.{Lit}
use Rattle.bit_ops.specs.declared.values.SymValue.{SymValue}
use Rattle.bit_ops.specs.declared.values.SymValue.TheVariants.{Word, Pointer}
use Rattle.bit_words.specs.Built.{or_built, choice_built}
use Rattle.bit_words.specs.Words.{number_of_bits}
use Rattle.core_ir.specs.declared.units.Shape.{Shape}
use Rattle.core_ir.specs.declared.units.Shape.TheVariants as shape
use Rattle.rvt_num.specs.Wrapping.{reading}
use Rattle.rvt_num.specs.declared.kinds.Kind.{Kind}
use Rattle.rvt_num.specs.declared.values.Value.{Value}
use Rattle.rvt_num.specs.declared.values.Value.TheVariants.{Num}
use Rattle.sym_store.specs.Merging.{unless_same, merged_lit, MadeLits, merged_lits, MadeValue, merged_value, merged_values, MergeLaw, IsAlike, AlikeLaw}
use Rattle.sym_values.proofs.Conjunctions.{conjunction}
use Rattle.sym_values.specs.Valuations.{Valuation, IsValuation, Gives}
use Rattle.sym_values.specs.Values.{pointer_of, value_under, both_stand, IsLaid}

choice_value : (w a b : Bool) → not (not (w && a) && not (not w && b)) ≡ cond w a b
choice_value true true b = refl
choice_value true false b = refl
choice_value false a true = refl
choice_value false a false = refl

signs_same : (m n : Bool) → beq m n ≡ true → m ≡ n
signs_same false false e = refl
signs_same true true e = refl
signs_same false true e = absurd (true≢false (sym e))
signs_same true false e = absurd (true≢false (sym e))

same_is : (a b : Lit) → same_lit a b ≡ true → a ≡ b
same_is a b e =
    let p = and_parts (a.node == b.node) (beq a.negated b.negated) e in
    let nodes = eqb-true a.node b.node p.0 in
    let signs = signs_same a.negated b.negated p.1 in
    λ i. record { node = nodes i; negated = signs i }

module _ (v : Valuation) where
  pub choice_is : (ns : List Node) (w a b : Lit) → Gives v ns (choice_built ns w a b).nodes (choice_built ns w a b).lit (cond (v w) (v a) (v b))
  unfolding choice_built or_built
  choice_is ns w a b =
      let m = and_built ns w a in
      let n = and_built m.nodes (opposite w) b in
      let one = conjunction v ns w a in
      let two = conjunction v m.nodes (opposite w) b in
      let three = conjunction v n.nodes (opposite m.lit) (opposite n.lit) in
      record {
        back = λ h. one.back (two.back (three.back h));
        is = λ h.
            let n_is = two.is (three.back h) ∙ ap (λ x. x && v b) (h.of_opposite w) in
            let m_is = one.is (two.back (three.back h)) in
            h.of_opposite _
            ∙ ap not (three.is h ∙ (λ i. h.of_opposite m.lit i && h.of_opposite n.lit i) ∙ (λ i. not (m_is i) && not (n_is i)))
            ∙ choice_value (v w) (v a) (v b);
      }

  module _ (which : Lit) where
    cond_same : (b x : Bool) → x ≡ cond b x x
    cond_same true x = refl
    cond_same false x = refl

    unless_is : (ns : List Node) (a b : Lit) (t : Bool) → same_lit a b ≡ t → Gives v ns (unless_same ns which a b t).nodes (unless_same ns which a b t).lit (cond (v which) (v a) (v b))
    unless_is ns a b true e = record { back = λ h. h; is = λ h. cond_same (v which) (v a) ∙ ap (λ l. cond (v which) (v a) (v l)) (same_is a b e) }
    unless_is ns a b false e = choice_is ns which a b

    merged_is : (ns : List Node) (a b : Lit) → Gives v ns (merged_lit ns which a b).nodes (merged_lit ns which a b).lit (cond (v which) (v a) (v b))
    unfolding merged_lit
    merged_is ns a b = unless_is ns a b (same_lit a b) refl

    pub record LitsMerged (ns : List Node) (xs ys : List Lit) (m : MadeLits) : Type 0 where
      pub back : IsValuation m.nodes v → IsValuation ns v
      pub long : length m.lits ≡ length xs
      pub first : IsValuation m.nodes v → v which ≡ true → map v m.lits ≡ map v xs
      pub second : IsValuation m.nodes v → v which ≡ false → map v m.lits ≡ map v ys

    pub lits_merged : (ns : List Node) (xs ys : List Lit) → length xs ≡ length ys → LitsMerged ns xs ys (merged_lits ns which xs ys)
    unfolding merged_lits
    lits_merged ns [] [] e = record { back = λ h. h; long = refl; first = λ h k. refl; second = λ h k. refl }
    lits_merged ns [] (y ∷ ys) e = cc
    lits_merged ns (x ∷ xs) [] e = cc
    lits_merged ns (x ∷ xs) (y ∷ ys) e =
        let m = merged_lit ns which x y in
        let one = merged_is ns x y in
        let rest = lits_merged m.nodes xs ys (omega (arith, e)) in
        record {
          back = λ h. one.back (rest.back h);
          long = ap (λ n. suc n) rest.long;
          first = λ h k. let bit = one.is (rest.back h) ∙ ap (λ t. cond t (v x) (v y)) k in let bits = rest.first h k in λ i. bit i ∷ bits i;
          second = λ h k. let bit = one.is (rest.back h) ∙ ap (λ t. cond t (v x) (v y)) k in let bits = rest.second h k in λ i. bit i ∷ bits i;
        }

    pub record ValueMerged (ns : List Node) (s : Shape) (x y : SymValue) (m : MadeValue) : Type 0 where
      pub back : IsValuation m.nodes v → IsValuation ns v
      pub laid : IsLaid s m.value
      pub first : IsValuation m.nodes v → v which ≡ true → value_under v m.value ≡ value_under v x
      pub second : IsValuation m.nodes v → v which ≡ false → value_under v m.value ≡ value_under v y

    abbrev word_at : Kind → List Bool → Option Value
    word_at k bits = Some (Num (record { kind = k; value = reading k (number_of_bits bits) }))

    pub value_merged : (ns : List Node) (s : Shape) (x y : SymValue) → IsLaid s x → IsLaid s y → ValueMerged ns s x y (merged_value ns which x y)
    unfolding merged_value
    value_merged ns (shape.Word k) (Word a) (Word b) p q =
        let m = lits_merged ns a.bits b.bits (p.of_width ∙ sym q.of_width) in
        let kinds : a.kind ≡ b.kind = p.of_kind ∙ sym q.of_kind in
        record {
          back = m.back;
          laid = record { of_kind = p.of_kind; of_width = m.long ∙ p.of_width };
          first = λ h e. ap (word_at a.kind) (m.first h e);
          second = λ h e. let bits = m.second h e in λ i. word_at (kinds i) (bits i);
        }
    value_merged ns (shape.Word k) (Word a) (Pointer p d) h g = absurd g
    value_merged ns (shape.Word k) (Pointer o c) y h g = absurd h
    value_merged ns (shape.Pointer t u) (Word a) y h g = absurd h
    value_merged ns (shape.Pointer t u) (Pointer o c) (Word b) h g = absurd g
    value_merged ns (shape.Pointer t u) (Pointer o c) (Pointer p d) h g =
        let m = lits_merged ns o.bits p.bits (h.0.of_width ∙ sym g.0.of_width) in
        let n = lits_merged (merged_lits ns which o.bits p.bits).nodes c.bits d.bits (h.1.of_width ∙ sym g.1.of_width) in
        record {
          back = λ k. m.back (n.back k);
          laid = (record { of_kind = h.0.of_kind; of_width = m.long ∙ h.0.of_width }, record { of_kind = h.1.of_kind; of_width = n.long ∙ h.1.of_width });
          first = λ k e. let x = m.first (n.back k) e in let y = n.first k e in λ i. pointer_of (number_of_bits (x i)) (number_of_bits (y i));
          second = λ k e. let x = m.second (n.back k) e in let y = n.second k e in λ i. pointer_of (number_of_bits (x i)) (number_of_bits (y i));
        }

pub merging : MergeLaw
unfolding merged_values
merging v ns which [] [] [] p q = record { back = λ h. h; laid = tt; first = λ h e. refl; second = λ h e. refl }
merging v ns which [] [] (y ∷ ys) p q = absurd q
merging v ns which [] (x ∷ xs) ys p q = absurd p
merging v ns which (s ∷ ss) [] ys p q = absurd p
merging v ns which (s ∷ ss) (x ∷ xs) [] p q = absurd q
merging v ns which (s ∷ ss) (x ∷ xs) (y ∷ ys) p q =
    let one = value_merged v which ns s x y p.0 q.0 in
    let rest = merging v (merged_value ns which x y).nodes which ss xs ys p.1 q.1 in
    record {
      back = λ h. one.back (rest.back h);
      laid = (one.laid, rest.laid);
      first = λ h e. let a = one.first (rest.back h) e in let b = rest.first h e in λ i. both_stand (a i) (b i);
      second = λ h e. let a = one.second (rest.back h) e in let b = rest.second h e in λ i. both_stand (a i) (b i);
    }

one_alike : (s : Shape) (x y : SymValue) → IsLaid s x → IsLaid s y → IsAlike x y
one_alike (shape.Word k) (Word a) (Word b) p q = p.of_kind ∙ sym q.of_kind
one_alike (shape.Word k) (Word a) (Pointer p d) h g = absurd g
one_alike (shape.Word k) (Pointer o c) y h g = absurd h
one_alike (shape.Pointer t u) (Word a) y h g = absurd h
one_alike (shape.Pointer t u) (Pointer o c) (Word b) h g = absurd g
one_alike (shape.Pointer t u) (Pointer o c) (Pointer p d) h g = (h.0.of_kind ∙ sym g.0.of_kind, h.1.of_kind ∙ sym g.1.of_kind)

pub alike : AlikeLaw
alike [] [] [] p q = tt
alike [] [] (y ∷ ys) p q = absurd q
alike [] (x ∷ xs) ys p q = absurd p
alike (s ∷ ss) [] ys p q = absurd p
alike (s ∷ ss) (x ∷ xs) [] p q = absurd q
alike (s ∷ ss) (x ∷ xs) (y ∷ ys) p q = (one_alike s x y p.0 q.0, alike ss xs ys p.1 q.1)
