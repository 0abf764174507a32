-- Congruent applications are functions.
use Rattle.std.proofs.Common.{◌≡◌, ◌⊎◌, inl, inr, suc, Bool, cond, List, [], ◌∷◌, ◌++◌, length, Option, Some, None, refl, sym, ap, ◌∙◌, subst}
use Rattle.std.specs.Prelude.{map}
use Rattle.std.specs.List.{AllByRecursion}
use Rattle.aig_build.specs.declared.lits.Lit.{Lit}
use Rattle.bit_ops.specs.declared.values.SymValue.{SymValue}
use Rattle.bit_ops.specs.declared.values.SymValue.TheVariants.{Word, Pointer}
use Rattle.core_ir.specs.Calls.{Among}
use Rattle.core_ir.specs.Tables.{EntryName, Answer, Traps, Gives}
use Rattle.core_ir.specs.declared.units.Shape.{Shape}
use Rattle.core_ir.specs.declared.units.Shape.TheVariants as shape
use Rattle.rvt_num.specs.declared.kinds.Kind.{Kind}
use Rattle.rvt_num.specs.declared.values.Trap.{Trap}
use Rattle.rvt_num.specs.declared.values.Value.{Value}
use Rattle.sym_values.proofs.SameBits.{map_append, append_same, both_long, bits}
use Rattle.sym_values.specs.Valuations.{Valuation}
use Rattle.sym_values.specs.Values.{value_under, both_stand, values_under, all_lits, AreLaid, BitsTell}
use Rattle.uf_abstraction.specs.Applications.{LitShape, Target, Application, trap_lits, first_trap, returned, unless_trap, answer_under}
use Rattle.uf_abstraction.specs.Congruence.{answer_bits, AreAlike, AllAlike, IsOnTarget, ArePointersOn, IsAnswer, IsLaidOut, FunctionsLaw}

all_at : {X : Type 0} (P : X → Type 0) (xs : List X) (x : X) → AllByRecursion P xs → Among x xs → P x
all_at P [] x p h = absurd h
all_at P (y ∷ ys) x p h = elim h [ inl e ↦ subst P (sym e) p.0 | inr t ↦ all_at P ys x p.1 t ]

-- two of a list are the same, or one is alike to the other
alike_pair : (v : Valuation) (xs : List Application) (a b : Application) → AllAlike v xs → Among a xs → Among b xs → (a ≡ b) ⊎ (AreAlike v a b ⊎ AreAlike v b a)
alike_pair v [] a b p h k = absurd h
alike_pair v (x ∷ xs) a b p h k =
    elim h [
      | inl e ↦ elim k [
        | inl f ↦ inl (e ∙ sym f)
        | inr t ↦ inr (inl (subst (λ (y : Application). AreAlike v y b) (sym e) (all_at (AreAlike v x) xs b p.0 t)))
      ]
      | inr s ↦ elim k [
        | inl f ↦ inr (inr (subst (λ (y : Application). AreAlike v y a) (sym f) (all_at (AreAlike v x) xs a p.0 s)))
        | inr t ↦ alike_pair v xs a b p.1 s t
      ]
    ]

module _ (v : Valuation) where
  abbrev Stands : List SymValue → Type 0
  Stands xs = (zs : List Value) × (values_under v xs ≡ Some zs)

  stand_more : (x : SymValue) (xs : List SymValue) (z : Value) → value_under v x ≡ Some z → Stands xs → Stands (x ∷ xs)
  stand_more x xs z e r = (z ∷ r.0, λ i. both_stand (e i) (r.1 i))

  on_target : (targets : List Target) (u : Bool) (o : Option Value) → IsOnTarget targets u o → (z : Value) × (o ≡ Some z)
  on_target targets u None h = absurd h
  on_target targets u (Some z) h = (z, refl)

  results_stand : (targets : List Target) (ss : List Shape) (xs : List SymValue) → AreLaid ss xs → ArePointersOn v targets ss xs → Stands xs
  results_stand targets [] [] p q = ([], refl)
  results_stand targets [] (x ∷ xs) p q = absurd p
  results_stand targets (s ∷ ss) [] p q = absurd p
  results_stand targets (shape.Word k ∷ ss) (Word w ∷ xs) p q = stand_more (Word w) xs _ refl (results_stand targets ss xs p.1 q)
  results_stand targets (shape.Word k ∷ ss) (Pointer o c ∷ xs) p q = absurd p.0
  results_stand targets (shape.Pointer t u ∷ ss) (x ∷ xs) p q =
      let one = on_target targets u (value_under v x) q.0 in
      stand_more x xs one.0 one.1 (results_stand targets ss xs p.1 q.1)

  cells_stand : (ks : List Kind) (xs : List SymValue) → AreLaid (map shape.Word ks) xs → Stands xs
  cells_stand [] [] p = ([], refl)
  cells_stand [] (x ∷ xs) p = absurd p
  cells_stand (k ∷ ks) [] p = absurd p
  cells_stand (k ∷ ks) (Word w ∷ xs) p = stand_more (Word w) xs _ refl (cells_stand ks xs p.1)
  cells_stand (k ∷ ks) (Pointer o c ∷ xs) p = absurd p.0

  some_answer : (t : Option Trap) (r c : Option (List Value)) (rs cs : List Value) → r ≡ Some rs → c ≡ Some cs → (x : Answer) × (unless_trap t (returned r c) ≡ Some x)
  some_answer None r c rs cs e f = (Gives rs cs, λ i. returned (e i) (f i))
  some_answer (Some t) r c rs cs e f = (Traps t, refl)

  first_same : (ts us : List (Trap × Lit)) → map (λ t. t.0) ts ≡ map (λ t. t.0) us → map v (trap_lits ts) ≡ map v (trap_lits us) → first_trap v ts ≡ first_trap v us
  first_same [] [] e f = refl
  first_same [] (u ∷ us) e f = cc
  first_same (t ∷ ts) [] e f = cc
  first_same (t ∷ ts) (u ∷ us) e f =
      let kind : t.0 ≡ u.0 = cc in
      let kinds : map (λ t. t.0) ts ≡ map (λ t. t.0) us = cc in
      let bit : v t.1 ≡ v u.1 = cc in
      let more : map v (trap_lits ts) ≡ map v (trap_lits us) = cc in
      let rest = first_same ts us kinds more in
      λ i. cond (bit i) (Some (kind i)) (rest i)

  traps_long : (ts us : List (Trap × Lit)) → map (λ t. t.0) ts ≡ map (λ t. t.0) us → length (map v (trap_lits ts)) ≡ length (map v (trap_lits us))
  traps_long [] [] e = refl
  traps_long [] (u ∷ us) e = cc
  traps_long (t ∷ ts) [] e = cc
  traps_long (t ∷ ts) (u ∷ us) e = let kinds : map (λ t. t.0) ts ≡ map (λ t. t.0) us = cc in ap (λ n. suc n) (traps_long ts us kinds)

  module _ (given : EntryName → LitShape) (keys : EntryName → List Shape) (a b : Application) (p : IsLaidOut given keys a) (q : IsLaidOut given keys b) (named : a.name ≡ b.name) where
    shapes : a.shape ≡ b.shape
    shapes = p.as_named ∙ ap given named ∙ sym q.as_named

    pub key_tells : BitsTell v a.key b.key
    key_tells = bits v (keys b.name) a.key b.key (subst (λ n. AreLaid (keys n) a.key) named p.key) q.key

    results_tell : BitsTell v a.answer.results b.answer.results
    results_tell = bits v b.shape.results a.answer.results b.answer.results (subst (λ (s : LitShape). AreLaid s.results a.answer.results) shapes p.results) q.results

    cells_tell : BitsTell v a.answer.cells b.answer.cells
    cells_tell = bits v (map shape.Word b.shape.cells) a.answer.cells b.answer.cells (subst (λ (s : LitShape). AreLaid (map shape.Word s.cells) a.answer.cells) shapes p.cells) q.cells

    kinds_same : map (λ t. t.0) a.answer.trap ≡ map (λ t. t.0) b.answer.trap
    kinds_same = p.traps ∙ ap (λ (s : LitShape). s.traps) shapes ∙ sym q.traps

    cut_bits : (x : Application) → answer_bits v x ≡ map v (trap_lits x.answer.trap) ++ (map v (all_lits x.answer.results) ++ map v (all_lits x.answer.cells))
    cut_bits x =
        map_append v (trap_lits x.answer.trap) (all_lits x.answer.results ++ all_lits x.answer.cells)
        ∙ ap (λ l. map v (trap_lits x.answer.trap) ++ l) (map_append v (all_lits x.answer.results) (all_lits x.answer.cells))

    pub answers_long : length (answer_bits v a) ≡ length (answer_bits v b)
    answers_long =
        ap length (cut_bits a)
        ∙ both_long (map v (trap_lits a.answer.trap)) _ (map v (trap_lits b.answer.trap)) _ (traps_long a.answer.trap b.answer.trap kinds_same)
        (both_long (map v (all_lits a.answer.results)) (map v (all_lits a.answer.cells)) (map v (all_lits b.answer.results)) (map v (all_lits b.answer.cells)) results_tell.long cells_tell.long)
        ∙ sym (ap length (cut_bits b))

    answers_same : answer_bits v a ≡ answer_bits v b → answer_under v a.answer ≡ answer_under v b.answer
    answers_same e =
        let one = append_same _ _ _ _ (traps_long a.answer.trap b.answer.trap kinds_same) (sym (cut_bits a) ∙ e ∙ cut_bits b) in
        let two = append_same _ _ _ _ results_tell.long one.1 in
        let t = first_same a.answer.trap b.answer.trap kinds_same one.0 in
        let r = results_tell.to_values two.0 in
        let c = cells_tell.to_values two.1 in
        λ i. unless_trap (t i) (returned (r i) (c i))

    pub alike_answers : (key : List Value) → values_under v a.key ≡ Some key → values_under v b.key ≡ Some key → AreAlike v a b → answer_under v a.answer ≡ answer_under v b.answer
    alike_answers key e f alike = answers_same (alike named (key_tells.to_bits key e f))

pub functions : FunctionsLaw
functions v given keys applied laid congruent = record {
  stands = λ a am.
      let l = all_at (IsLaidOut given keys) applied a laid am in
      let g = all_at (λ a. IsAnswer v a.shape a.answer) applied a congruent.answers am in
      let r = results_stand v a.shape.targets a.shape.results a.answer.results l.results g.pointers in
      let c = cells_stand v a.shape.cells a.answer.cells l.cells in
      some_answer v (first_trap v a.answer.trap) _ _ r.0 c.0 r.1 c.1;
  one_answer = λ a b key am bm named e f.
      let l = all_at (IsLaidOut given keys) applied a laid am in
      let k = all_at (IsLaidOut given keys) applied b laid bm in
      elim (alike_pair v applied a b congruent.alike am bm) [
        | inl same ↦ ap (λ (x : Application). answer_under v x.answer) same
        | inr one ↦ elim one [
          | inl h ↦ alike_answers v given keys a b l k named key e f h
          | inr h ↦ sym (alike_answers v given keys b a k l (sym named) key f e h)
        ]
      ];
}
