-- The test of congruence is true exactly where the applications are congruent.
use Rattle.std.proofs.Common.{◌≡◌, ℕ, zero, suc, ◌+◌, ◌<◌, ◌≤◌, ◌^◌, Bool, true, false, not, ◌&&◌, ◌||◌, cond, List, [], ◌∷◌, ◌++◌, length, refl, sym, ap, ◌∙◌, subst, arith, true≢false, ◌⊎◌, inl, inr}
use Rattle.std.proofs.lemmas.Bool.{and_parts, and_from}
use Rattle.std.proofs.lemmas.List.{append-nil}
use Rattle.std.specs.Prelude.{map, fold}
use Rattle.std.specs.List.{AllByRecursion}
use Rattle.aig_build.specs.Built.{Made, and_built}
use Rattle.aig_build.specs.Circuits.{Node, constant, opposite}
use Rattle.aig_build.specs.declared.lits.Lit.{Lit}
use Rattle.bit_ops.specs.declared.values.SymValue.{SymValue}
use Rattle.bit_ops.specs.declared.values.SymValue.TheVariants.{Word, Pointer}
use Rattle.bit_words.specs.Built.{or_built, carried_built}
use Rattle.bit_words.specs.Words.{LitWord}
use Rattle.bit_words.specs.declared.cells.Cell.TheVariants.{Less}
use Rattle.core_ir.proofs.Keys.{name_same, name_is}
use Rattle.core_ir.specs.Calls.{Among}
use Rattle.core_ir.specs.Tables.{EntryName, same_name}
use Rattle.core_ir.specs.declared.units.Shape.{Shape}
use Rattle.core_ir.specs.declared.units.Shape.TheVariants as shape
use Rattle.rvt_num.specs.declared.values.Trap.{Trap}
use Rattle.sym_values.proofs.Conjunctions.{conjunction}
use Rattle.sym_values.proofs.Ripples.{or_gives}
use Rattle.sym_values.proofs.SameBits.{long_map}
use Rattle.sym_values.specs.Valuations.{Valuation, IsValuation, Gives}
use Rattle.sym_values.specs.Values.{pattern_under, pointer_of, value_under, all_lits, AreLaid}
use Rattle.uf_abstraction.proofs.Functions.{key_tells, answers_long}
use Rattle.uf_abstraction.proofs.Tests.{left_true, right_true, Says, as_well, both_say, either_says, then_says, same_says, object_says, within_says, null_says}
use Rattle.uf_abstraction.proofs.Tests.{nothing}
use Rattle.uf_abstraction.specs.Applications.{LitShape, Target, Application, answer_lits}
use Rattle.uf_abstraction.specs.Congruence.{key_bits, answer_bits, AreAlike, AllAlike, AtMostOne, IsIn, IsOnTarget, ArePointersOn, IsAnswer, AreCongruent, IsLaidOut}
use Rattle.uf_abstraction.specs.Testing.{equal_built, alike_built, and_so, with_pair, named, MadeTests, with_trap_test, no_traps, one_trap_built, number_lits, target_built, or_target, pointer_built, null_built, with_result, with_results, MadeTest, with_earlier, with_answer, with_application, nothing_before, congruence_built, IsSmall, CongruenceLaw}

-- ---- booleans

off : (s b : Bool) → not (s && b) ≡ true → s ≡ true → b ≡ false
off true true e f = absurd (true≢false (sym e))
off true false e f = refl
off false b e f = absurd (true≢false (sym f))

not_both : (s b : Bool) → (s ≡ true → b ≡ false) → not (s && b) ≡ true
not_both true b f = ap not (f refl)
not_both false b f = refl

allowed : (u c : Bool) → (u || not c) ≡ true → u ≡ false → c ≡ false
allowed true c e f = absurd (true≢false f)
allowed false true e f = absurd (true≢false (sym e))
allowed false false e f = refl

refused : (u c : Bool) → (u || not c) ≡ false → (u ≡ false → c ≡ false) → ⊥
refused true c e f = true≢false e
refused false true e f = true≢false (f refl)
refused false false e f = true≢false e

all_push : {X : Type 0} (P : X → Type 0) (xs : List X) (x : X) → AllByRecursion P xs → P x → AllByRecursion P (xs ++ x ∷ [])
all_push P [] x p q = (q, tt)
all_push P (y ∷ ys) x p q = (p.0, all_push P ys x p.1 q)

all_pushed : {X : Type 0} (P : X → Type 0) (xs : List X) (x : X) → AllByRecursion P (xs ++ x ∷ []) → AllByRecursion P xs × P x
all_pushed P [] x p = (tt, p.0)
all_pushed P (y ∷ ys) x p = let rest = all_pushed P ys x p.1 in ((p.0, rest.0), rest.1)

-- ---- pointers, as numbers

module _ (u : Bool) (o c : ℕ) where
  pub record IsOne (t : Target) : Type 0 where
    pub mutable : u ≡ false → t.2 ≡ false
    pub object : o ≡ t.0 + 1
    pub within : c ≤ t.1

  abbrev pub OnSome : List Target → Type 0
  OnSome [] = ⊥
  OnSome (t ∷ ts) = IsOne t ⊎ OnSome ts

none_at_zero : (u : Bool) (c : ℕ) (ts : List Target) → OnSome u 0 c ts → ⊥
none_at_zero u c [] h = h
none_at_zero u c (t ∷ ts) h = elim h [ inl one ↦ absurd (let e = one.object in omega (arith, e)) | inr rest ↦ none_at_zero u c ts rest ]

is_in : (u : Bool) (o c : ℕ) (ts : List Target) → OnSome u (suc o) c ts → IsIn ts u o c
is_in u o c [] h = absurd h
is_in u o c (t ∷ ts) h = elim h [
  | inl one ↦
      let e : o ≡ t.0 = let f = one.object in omega (arith, f) in
      record { cells = t.1; constant = t.2; is_there = inl (λ i. (e i, t.1, t.2)); in_length = one.within; mutable = one.mutable }
  | inr rest ↦
      let r = is_in u o c ts rest in
      record { cells = r.cells; constant = r.constant; is_there = inr r.is_there; in_length = r.in_length; mutable = r.mutable }
]

on_some : (u : Bool) (o c n : ℕ) (k : Bool) (ts : List Target) → Among (o, n, k) ts → c ≤ n → (u ≡ false → k ≡ false) → OnSome u (suc o) c ts
on_some u o c n k [] h p m = absurd h
on_some u o c n k (t ∷ ts) h p m = elim h [
  | inl e ↦ inl (subst (IsOne u (suc o) c) e (record { mutable = m; object = omega arith; within = p }))
  | inr rest ↦ inr (on_some u o c n k ts rest p m)
]

abbrev IsNull : ℕ → ℕ → Type 0
IsNull o c = (o ≡ 0) × (c ≡ 0)

to_target : (u : Bool) (ts : List Target) (o c : ℕ) → IsNull o c ⊎ OnSome u o c ts → IsOnTarget ts u (pointer_of o c)
to_target u ts zero zero h = tt
to_target u ts zero (suc c) h = elim h [ inl null ↦ absurd (let e = null.1 in omega (arith, e)) | inr some ↦ none_at_zero u (suc c) ts some ]
to_target u ts (suc o) c h = elim h [ inl null ↦ absurd (let e = null.0 in omega (arith, e)) | inr some ↦ is_in u o c ts some ]

from_target : (u : Bool) (ts : List Target) (o c : ℕ) → IsOnTarget ts u (pointer_of o c) → IsNull o c ⊎ OnSome u o c ts
from_target u ts zero zero h = inl (refl, refl)
from_target u ts zero (suc c) h = absurd h
from_target u ts (suc o) c h = inr (on_some u o c h.cells h.constant ts h.is_there h.in_length h.mutable)

module _ (v : Valuation) where
  -- ---- at most one trap

  abbrev IsOff : Trap × Lit → Type 0
  IsOff t = v t.1 ≡ false

  abbrev single_bits : Bool → Bool → List (Trap × Lit) → Bool
  single_bits s g [] = g
  single_bits s g (t ∷ ts) = single_bits (s || v t.1) (g && not (s && v t.1)) ts

  pub record IsSingle (s g : Bool) (ts : List (Trap × Lit)) : Type 0 where
    pub so_far : g ≡ true
    pub others : s ≡ true → AllByRecursion IsOff ts
    pub most : AtMostOne v ts

  is_single : (s g : Bool) (ts : List (Trap × Lit)) → single_bits s g ts ≡ true → IsSingle s g ts
  is_single s g [] e = record { so_far = e; others = λ f. tt; most = tt }
  is_single s g (t ∷ ts) e =
      let rest = is_single (s || v t.1) (g && not (s && v t.1)) ts e in
      let both = and_parts g (not (s && v t.1)) rest.so_far in
      record {
        so_far = both.0;
        others = λ f. (off s (v t.1) both.1 f, rest.others (left_true s (v t.1) f));
        most = (λ f. rest.others (right_true s (v t.1) f), rest.most);
      }

  either_off : (s b : Bool) (ts : List (Trap × Lit)) → (s ≡ true → AllByRecursion IsOff ts) → (b ≡ true → AllByRecursion IsOff ts) → (s || b) ≡ true → AllByRecursion IsOff ts
  either_off true b ts f g e = f refl
  either_off false b ts f g e = g e

  single_so : (s g : Bool) (ts : List (Trap × Lit)) → IsSingle s g ts → single_bits s g ts ≡ true
  single_so s g [] h = h.so_far
  single_so s g (t ∷ ts) h = single_so (s || v t.1) (g && not (s && v t.1)) ts (record {
    so_far = and_from g (not (s && v t.1)) h.so_far (not_both s (v t.1) (λ f. (h.others f).0));
    others = either_off s (v t.1) ts (λ f. (h.others f).1) h.most.0;
    most = h.most.1;
  })

  pub record TestsGive (ns : List Node) (m : MadeTests) (s g : Bool) : Type 0 where
    pub back : IsValuation m.nodes v → IsValuation ns v
    pub some_is : IsValuation m.nodes v → v m.some ≡ s
    pub single_is : IsValuation m.nodes v → v m.single ≡ g

  trap_step : (ns : List Node) (m : MadeTests) (s g : Bool) (t : Trap × Lit) → TestsGive ns m s g → TestsGive ns (with_trap_test m t) (s || v t.1) (g && not (s && v t.1))
  unfolding with_trap_test
  trap_step ns m s g t k =
      let two = and_built m.nodes m.some t.1 in
      let single = and_built two.nodes m.single (opposite two.lit) in
      let a = conjunction v m.nodes m.some t.1 in
      let b = conjunction v two.nodes m.single (opposite two.lit) in
      let c = or_gives v single.nodes m.some t.1 in
      record {
        back = λ h. k.back (a.back (b.back (c.back h)));
        some_is = λ h. c.is h ∙ ap (λ x. x || v t.1) (k.some_is (a.back (b.back (c.back h))));
        single_is = λ h.
            let i = b.back (c.back h) in
            let first = k.single_is (a.back i) in
            let other = h.of_opposite two.lit ∙ ap not (a.is i ∙ ap (λ x. x && v t.1) (k.some_is (a.back i))) in
            b.is (c.back h) ∙ (λ j. first j && other j);
      }

  traps_give : (ns : List Node) (m : MadeTests) (s g : Bool) (ts : List (Trap × Lit)) → TestsGive ns m s g
      → Gives v ns (fold with_trap_test m ts).nodes (fold with_trap_test m ts).single (single_bits s g ts)
  traps_give ns m s g [] k = record { back = k.back; is = k.single_is }
  traps_give ns m s g (t ∷ ts) k = traps_give ns (with_trap_test m t) (s || v t.1) (g && not (s && v t.1)) ts (trap_step ns m s g t k)

  one_trap_says : (ns : List Node) (ts : List (Trap × Lit)) → Says v ns (one_trap_built ns ts) (AtMostOne v ts)
  one_trap_says ns ts =
      let t = traps_give ns (no_traps ns) false true ts (record { back = λ h. h; some_is = λ h. h.of_constant; single_is = λ h. (nothing v ns).is_true h tt }) in
      record {
        back = t.back;
        holds = λ h e. (is_single false true ts (sym (t.is h) ∙ e)).most;
        is_true = λ h p. t.is h ∙ single_so false true ts (record { so_far = refl; others = λ f. absurd (true≢false (sym f)); most = p });
      }

  -- ---- pointers

  small_object : (n w : ℕ) → n < 2 ^ 32 → w ≡ 32 → n + 1 < 2 ^ (w + 1)
  small_object n w h e = subst (λ k. n + 1 < 2 ^ (k + 1)) (sym e) (omega (arith, h))

  module _ (u : Bool) (o c : LitWord) (wide_o : length o.bits ≡ 32) (wide_c : length c.bits ≡ 32) where
    abbrev Object : ℕ
    Object = pattern_under v o

    abbrev Cell : ℕ
    Cell = pattern_under v c

    target_says : (ns : List Node) (t : Target) → IsSmall t → Says v ns (target_built ns o c t) ((Object ≡ t.0 + 1) × (Cell ≤ t.1))
    unfolding target_built
    target_says ns t s =
        let more = o.bits ++ constant false ∷ [] in
        let object = equal_built ns more (number_lits (length more) (t.0 + 1)) in
        both_say v ns object (carried_built object.nodes Less (constant true) c.bits (number_lits (length c.bits) t.1)) _ _
        (object_says v ns o.bits (t.0 + 1) (small_object t.0 (length o.bits) s.object wide_o))
        (within_says v object.nodes c.bits t.1 (subst (λ k. t.1 < 2 ^ k) (sym wide_c) s.cells))

    or_by : (ns : List Node) (m : Made) (P : Type 0) (t : Target) → IsSmall t → Says v ns m P → (b : Bool) → (u || not t.2) ≡ b
        → Says v ns (cond b (or_built (target_built m.nodes o c t).nodes m.lit (target_built m.nodes o c t).lit) m) (P ⊎ IsOne u Object Cell t)
    or_by ns m P t s k true e =
        as_well v ns _ (P ⊎ ((Object ≡ t.0 + 1) × (Cell ≤ t.1))) _
        (λ x. elim x [ inl p ↦ inl p | inr q ↦ inr (record { mutable = allowed u t.2 e; object = q.0; within = q.1 }) ])
        (λ x. elim x [ inl p ↦ inl p | inr q ↦ inr (q.object, q.within) ])
        (either_says v ns m (target_built m.nodes o c t) P _ k (target_says m.nodes t s))
    or_by ns m P t s k false e =
        as_well v ns m P _ (λ p. inl p) (λ x. elim x [ inl p ↦ p | inr q ↦ absurd (refused u t.2 e q.mutable) ]) k

    or_says : (ns : List Node) (m : Made) (P : Type 0) (t : Target) → IsSmall t → Says v ns m P → Says v ns (or_target u o c m t) (P ⊎ IsOne u Object Cell t)
    unfolding or_target
    or_says ns m P t s k = or_by ns m P t s k (u || not t.2) refl

    targets_say : (ns : List Node) (m : Made) (P : Type 0) (ts : List Target) → AllByRecursion IsSmall ts → Says v ns m P → Says v ns (fold (or_target u o c) m ts) (P ⊎ OnSome u Object Cell ts)
    targets_say ns m P [] s k = as_well v ns m P _ (λ p. inl p) (λ x. elim x [ inl p ↦ p | inr q ↦ absurd q ]) k
    targets_say ns m P (t ∷ ts) s k =
        as_well v ns _ ((P ⊎ IsOne u Object Cell t) ⊎ OnSome u Object Cell ts) _
        (λ x. elim x [ inl y ↦ elim y [ inl p ↦ inl p | inr q ↦ inr (inl q) ] | inr r ↦ inr (inr r) ])
        (λ x. elim x [ inl p ↦ inl (inl p) | inr y ↦ elim y [ inl q ↦ inl (inr q) | inr r ↦ inr r ] ])
        (targets_say ns (or_target u o c m t) (P ⊎ IsOne u Object Cell t) ts s.1 (or_says ns m P t s.0 k))

    pointer_says : (ns : List Node) (ts : List Target) → AllByRecursion IsSmall ts → Says v ns (pointer_built ns ts u o c) (IsOnTarget ts u (value_under v (Pointer o c)))
    unfolding pointer_built
    pointer_says ns ts s =
        as_well v ns _ (IsNull Object Cell ⊎ OnSome u Object Cell ts) _ (to_target u ts Object Cell) (from_target u ts Object Cell)
        (targets_say ns (null_built ns (o.bits ++ c.bits)) (IsNull Object Cell) ts s (null_says v ns o.bits c.bits))

  results_say : (ns : List Node) (m : Made) (P : Type 0) (ts : List Target) (ss : List Shape) (xs : List SymValue) → AllByRecursion IsSmall ts → AreLaid ss xs → Says v ns m P
      → Says v ns (with_results ts m ss xs) (P × ArePointersOn v ts ss xs)
  unfolding with_result
  results_say ns m P ts [] xs s l k = as_well v ns m P _ (λ p. (p, tt)) (λ x. x.0) k
  results_say ns m P ts (r ∷ ss) [] s l k = absurd l
  results_say ns m P ts (shape.Word w ∷ ss) (Word a ∷ xs) s l k = results_say ns m P ts ss xs s l.1 k
  results_say ns m P ts (shape.Word w ∷ ss) (Pointer o c ∷ xs) s l k = absurd l.0
  results_say ns m P ts (shape.Pointer t u ∷ ss) (Word a ∷ xs) s l k = absurd l.0
  results_say ns m P ts (shape.Pointer t u ∷ ss) (Pointer o c ∷ xs) s l k =
      let n = pointer_built m.nodes ts u o c in
      as_well v ns _ ((P × IsOnTarget ts u (value_under v (Pointer o c))) × ArePointersOn v ts ss xs) _
      (λ x. (x.0.0, (x.0.1, x.1))) (λ x. ((x.0, x.1.0), x.1.1))
      (results_say ns (and_so m n) (P × IsOnTarget ts u (value_under v (Pointer o c))) ts ss xs s l.1
      (both_say v ns m n P _ k (pointer_says u o c l.0.0.of_width l.0.1.of_width m.nodes ts s)))

  -- ---- the applications

  module _ (given : EntryName → LitShape) (keys : EntryName → List Shape) (small : (name : EntryName) → AllByRecursion IsSmall (given name).targets) where
    abbrev Laid : Application → Type 0
    Laid = IsLaidOut given keys

    unmapped : (xs ys : List Lit) → length (map v xs) ≡ length (map v ys) → length xs ≡ length ys
    unmapped xs ys e = sym (long_map v xs) ∙ e ∙ long_map v ys

    pair_says : (ns : List Node) (m : Made) (a b : Application) (P : Type 0) → Laid a → Laid b → b.name ≡ a.name → Says v ns m P → Says v ns (with_pair b m a) (P × AreAlike v a b)
    unfolding with_pair alike_built
    pair_says ns m a b P p q same s =
        let k = equal_built m.nodes (all_lits a.key) (all_lits b.key) in
        as_well v ns _ (P × (key_bits v a ≡ key_bits v b → answer_bits v a ≡ answer_bits v b)) _ (λ x. (x.0, λ n. x.1)) (λ x. (x.0, x.1 (sym same)))
        (both_say v ns m (alike_built m.nodes a b) P _ s
        (then_says v m.nodes k (equal_built k.nodes (answer_lits a.answer) (answer_lits b.answer)) _ _
        (same_says v m.nodes (all_lits a.key) (all_lits b.key) (unmapped _ _ (key_tells v given keys a b p q (sym same)).long))
        (same_says v k.nodes (answer_lits a.answer) (answer_lits b.answer) (unmapped _ _ (answers_long v given keys a b p q (sym same))))))

    module _ (b : Application) (q : Laid b) where
      abbrev AreSo : List Application → Type 0
      AreSo before = AllByRecursion (λ a. AreAlike v a b) before

      by_name : (ns : List Node) (m : Made) (a : Application) (rest : List Application) (P : Type 0) → ((n : Made) (Q : Type 0) → Says v ns n Q → Says v ns (with_earlier b n rest) (Q × AreSo rest)) → Laid a → Says v ns m P → (t : Bool) → same_name b.name a.name ≡ t
          → Says v ns (fold (with_pair b) m (cond t (a ∷ named b.name rest) (named b.name rest))) (P × (AreAlike v a b × AreSo rest))
      by_name ns m a rest P more p s true e =
          as_well v ns _ ((P × AreAlike v a b) × AreSo rest) _ (λ x. (x.0.0, (x.0.1, x.1))) (λ x. ((x.0, x.1.0), x.1.1))
          (more (with_pair b m a) (P × AreAlike v a b) (pair_says ns m a b P p q (name_same b.name a.name e) s))
      by_name ns m a rest P more p s false e =
          as_well v ns _ (P × AreSo rest) _ (λ x. (x.0, ((λ n. absurd (true≢false (sym (name_is b.name) ∙ ap (same_name b.name) (sym n) ∙ e))), x.1))) (λ x. (x.0, x.1.1))
          (more m P s)

      earlier_say : (ns : List Node) (m : Made) (before : List Application) (P : Type 0) → AllByRecursion Laid before → Says v ns m P → Says v ns (with_earlier b m before) (P × AreSo before)
      earlier_say ns m [] P l s = as_well v ns m P _ (λ p. (p, tt)) (λ x. x.0) s
      earlier_say ns m (a ∷ rest) P l s = by_name ns m a rest P (λ n Q k. earlier_say ns n rest Q l.1 k) l.0 s (same_name b.name a.name) refl

    answer_says : (ns : List Node) (m : Made) (b : Application) (P : Type 0) → Laid b → Says v ns m P → Says v ns (with_answer m b) (P × IsAnswer v b.shape b.answer)
    answer_says ns m b P q s =
        let n = one_trap_built m.nodes b.answer.trap in
        as_well v ns _ ((P × AtMostOne v b.answer.trap) × ArePointersOn v b.shape.targets b.shape.results b.answer.results) _
        (λ x. (x.0.0, record { one_trap = x.0.1; pointers = x.1 })) (λ x. ((x.0, x.1.one_trap), x.1.pointers))
        (results_say ns (and_so m n) (P × AtMostOne v b.answer.trap) b.shape.targets b.shape.results b.answer.results
        (subst (λ (s : LitShape). AllByRecursion IsSmall s.targets) (sym q.as_named) (small b.name)) q.results
        (both_say v ns m n P _ s (one_trap_says m.nodes b.answer.trap)))

    alike_push : (before : List Application) (b : Application) → AllAlike v before → AllByRecursion (λ a. AreAlike v a b) before → AllAlike v (before ++ b ∷ [])
    alike_push [] b p q = (tt, tt)
    alike_push (a ∷ rest) b p q = (all_push (AreAlike v a) rest b p.0 q.0, alike_push rest b p.1 q.1)

    alike_pushed : (before : List Application) (b : Application) → AllAlike v (before ++ b ∷ []) → AllAlike v before × AllByRecursion (λ a. AreAlike v a b) before
    alike_pushed [] b p = (tt, tt)
    alike_pushed (a ∷ rest) b p =
        let one = all_pushed (AreAlike v a) rest b p.0 in
        let more = alike_pushed rest b p.1 in
        ((one.0, more.0), (one.1, more.1))

    abbrev So : List Node → MadeTest → List Application → Type 0
    So ns m before = Says v ns (record { nodes = m.nodes; lit = m.lit }) (AreCongruent v before)

    one_more : (before : List Application) (b : Application) → (AreCongruent v before × AllByRecursion (λ a. AreAlike v a b) before) × IsAnswer v b.shape b.answer → AreCongruent v (before ++ b ∷ [])
    one_more before b x = record {
      alike = alike_push before b x.0.0.alike x.0.1;
      answers = all_push (λ (a : Application). IsAnswer v a.shape a.answer) before b x.0.0.answers x.1;
    }

    one_less : (before : List Application) (b : Application) → AreCongruent v (before ++ b ∷ []) → (AreCongruent v before × AllByRecursion (λ a. AreAlike v a b) before) × IsAnswer v b.shape b.answer
    one_less before b x =
        let a = alike_pushed before b x.alike in
        let c = all_pushed (λ (a : Application). IsAnswer v a.shape a.answer) before b x.answers in
        ((record { alike = a.0; answers = c.0 }, a.1), c.1)

    application_says : (ns : List Node) (m : MadeTest) (b : Application) → AllByRecursion Laid m.before → Laid b → So ns m m.before → So ns (with_application m b) (m.before ++ b ∷ [])
    application_says ns m b l q s =
        let known : Made = record { nodes = m.nodes; lit = m.lit } in
        as_well v ns _ ((AreCongruent v m.before × AllByRecursion (λ a. AreAlike v a b) m.before) × IsAnswer v b.shape b.answer) _
        (one_more m.before b) (one_less m.before b)
        (answer_says ns (with_earlier b known m.before) b _ q (earlier_say b q ns known m.before (AreCongruent v m.before) l s))

    all_say : (ns : List Node) (m : MadeTest) (rest : List Application) → AllByRecursion Laid m.before → AllByRecursion Laid rest → So ns m m.before → So ns (fold with_application m rest) (m.before ++ rest)
    all_say ns m [] l r s = subst (So ns m) (sym (append-nil m.before)) s
    all_say ns m (b ∷ rest) l r s =
        let n = with_application m b in
        subst (So ns (fold with_application n rest)) (append_assoc_one m.before b rest)
        (all_say ns n rest (all_push Laid m.before b l r.0) r.1 (application_says ns m b l r.0 s))
      where
        append_assoc_one : (xs : List Application) (y : Application) (ys : List Application) → (xs ++ y ∷ []) ++ ys ≡ xs ++ y ∷ ys
        append_assoc_one [] y ys = refl
        append_assoc_one (x ∷ xs) y ys = ap (λ l. x ∷ l) (append_assoc_one xs y ys)

pub congruence_tells : CongruenceLaw
unfolding congruence_built
congruence_tells v given keys ns applied small laid =
    all_say v given keys small ns (nothing_before ns) applied tt laid
    (as_well v ns (record { nodes = ns; lit = constant true }) (Prim.Unit {0}) _ (λ p. record { alike = tt; answers = tt }) (λ x. tt) (nothing v ns))
