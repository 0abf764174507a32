-- An application that is found is the one that is sought, and a fresh one is the last.
use Rattle.std.proofs.Common.{◌≡◌, ℕ, zero, suc, Bool, true, false, cond, List, [], ◌∷◌, Option, Some, None, refl, sym, ap, ◌∙◌, subst, true≢false, eqb-true}
use Rattle.std.specs.Prelude.{◌==◌, map, fold}
use Rattle.std.specs.Bool.{beq}
use Rattle.std.specs.List.{AllByRecursion}
use Rattle.std.proofs.lemmas.Bool.{and_parts}
use Rattle.aig_build.specs.Built.{input_built, same_lit}
use Rattle.aig_build.specs.Circuits.{Node}
use Rattle.aig_build.specs.declared.lits.Lit.{Lit}
use Rattle.bit_ops.specs.declared.values.SymValue.{SymValue}
use Rattle.core_ir.proofs.Keys.{name_same}
use Rattle.core_ir.proofs.Runs.{all_front, all_back}
use Rattle.core_ir.specs.Joint.{Side}
use Rattle.core_ir.specs.Meaning.{Answers}
use Rattle.core_ir.specs.Tables.{Effects, EntryName, same_name}
use Rattle.core_ir.specs.declared.cores.JointCore.{JointCore}
use Rattle.core_ir.specs.declared.units.Shape.{Shape}
use Rattle.core_ir.specs.declared.units.Shape.TheVariants as shape
use Rattle.rvt_num.specs.Kinds.{width}
use Rattle.rvt_num.specs.declared.kinds.Kind.{Kind}
use Rattle.rvt_num.specs.declared.kinds.Kind.TheVariants.{U32}
use Rattle.rvt_num.specs.declared.values.Trap.{Trap}
use Rattle.sym_values.proofs.Conjunctions.{before_added}
use Rattle.sym_values.proofs.SameBits.{bits}
use Rattle.sym_values.specs.Valuations.{Valuation, IsValuation}
use Rattle.sym_values.specs.Values.{all_lits, AreLaid}
use Rattle.uf_abstraction.specs.Applications.{LitAnswer, LitShape, Application, argument_count, AnswersAs, AnswerAll}
use Rattle.uf_abstraction.specs.Applying.{same_lits, is_same, earlier, fresh_lits, fresh_word, fresh_value, MadeValues, with_value, fresh_values, MadeTraps, with_trap, fresh_traps, fresh_answer, applied_by, apply_built, IsApplied, ApplyLaw}
use Rattle.uf_abstraction.specs.Congruence.{IsLaidOut}

signs_same : (m n : Bool) → beq m n ≡ true → m ≡ n
signs_same false false e = refl
signs_same true true e = refl
signs_same false true e = absurd (true≢false (sym e))
signs_same true false e = absurd (true≢false (sym e))

lit_same : (a b : Lit) → same_lit a b ≡ true → a ≡ b
lit_same a b e =
    let p = and_parts (a.node == b.node) (beq a.negated b.negated) e in
    let nodes = eqb-true a.node b.node p.0 in
    let signs = signs_same a.negated b.negated p.1 in
    λ i. record { node = nodes i; negated = signs i }

pub lits_same : (xs ys : List Lit) → same_lits xs ys ≡ true → xs ≡ ys
lits_same [] [] e = refl
lits_same [] (y ∷ ys) e = cc
lits_same (x ∷ xs) [] e = cc
lits_same (x ∷ xs) (y ∷ ys) e =
    let p = and_parts (same_lit x y) (same_lits xs ys) e in
    let a = lit_same x y p.0 in
    let b = lits_same xs ys p.1 in
    λ i. a i ∷ b i

-- ---- fresh inputs leave all gates as they were

module _ (v : Valuation) where
  input_back : (ns : List Node) → IsValuation (input_built ns).nodes v → IsValuation ns v
  unfolding input_built
  input_back ns h = before_added v ns _ h

  lits_back : (ns : List Node) (n : ℕ) → IsValuation (fresh_lits ns n).nodes v → IsValuation ns v
  lits_back ns zero h = h
  lits_back ns (suc n) h = lits_back ns n (input_back (fresh_lits ns n).nodes h)

  word_back : (ns : List Node) (k : Kind) → IsValuation (fresh_word ns k).nodes v → IsValuation ns v
  unfolding fresh_word
  word_back ns k h = lits_back ns (width k) h

  value_back : (ns : List Node) (s : Shape) → IsValuation (fresh_value ns s).nodes v → IsValuation ns v
  value_back ns (shape.Word k) h = word_back ns k h
  value_back ns (shape.Pointer t u) h = word_back ns U32 (word_back (fresh_word ns U32).nodes U32 h)

  values_back : (m : MadeValues) (ss : List Shape) → IsValuation (fold with_value m ss).nodes v → IsValuation m.nodes v
  values_back m [] h = h
  values_back m (s ∷ ss) h = value_back m.nodes s (values_back (with_value m s) ss h)

  traps_back : (m : MadeTraps) (ts : List Trap) → IsValuation (fold with_trap m ts).nodes v → IsValuation m.nodes v
  traps_back m [] h = h
  traps_back m (t ∷ ts) h = input_back m.nodes (traps_back (with_trap m t) ts h)

  answer_back : (ns : List Node) (given : LitShape) → IsValuation (fresh_answer ns given).nodes v → IsValuation ns v
  answer_back ns given h =
      let t = (fresh_traps ns given.traps).nodes in
      let r = (fresh_values t given.results).nodes in
      traps_back (record { nodes = ns; traps = [] }) given.traps
      (values_back (record { nodes = t; values = [] }) given.results
      (values_back (record { nodes = r; values = [] }) (map shape.Word given.cells) h))

module _ (joint : JointCore) (effects : Effects) (shared : ℕ → Bool) (side : Side) (v : Valuation) (answers : Answers) (given : EntryName → LitShape) (keys : EntryName → List Shape) (name : EntryName) (key : List SymValue) (laid : AreLaid (keys name) key) where
  abbrev All : List Application → Type 0
  All = AnswerAll joint effects shared side v answers

  abbrev This : LitAnswer → Type 0
  This a = AnswersAs joint effects shared side v answers (record { name = name; key = key; shape = given name; answer = a })

  answer_same : (a b : LitAnswer) → ◌≡◌ {A = Option LitAnswer} (Some a) (Some b) → a ≡ b
  answer_same a b e = cc

  -- an application of this name with these literals answers this key
  as_this : (b : Application) → AnswersAs joint effects shared side v answers b → name ≡ b.name → AreLaid (keys b.name) b.key → all_lits key ≡ all_lits b.key → This b.answer
  as_this b h named laid_b lits = record {
    by = λ call n count has_key.
        let same = (bits v (keys name) key b.key laid (subst (λ m. AreLaid (keys m) b.key) (sym named) laid_b)).to_values (ap (λ ls. map v ls) lits) in
        h.by call (n ∙ named) (count ∙ ap (argument_count joint) named) (sym same ∙ has_key);
  }

  at_test : (b : Application) (rest : List Application) (a : LitAnswer) → All (b ∷ rest) → IsLaidOut given keys b → (earlier name (all_lits key) rest ≡ Some a → This a)
      → (t : Bool) → is_same name (all_lits key) b ≡ t → cond t (Some b.answer) (earlier name (all_lits key) rest) ≡ Some a → This a
  at_test b rest a all laid_b next true s e =
      let p = and_parts (same_name name b.name) (same_lits (all_lits key) (all_lits b.key)) s in
      subst This (answer_same b.answer a e) (as_this b all.0 (name_same name b.name p.0) laid_b.key (lits_same (all_lits key) (all_lits b.key) p.1))
  at_test b rest a all laid_b next false s e = next e

  found : (applied : List Application) (a : LitAnswer) → All applied → AllByRecursion (IsLaidOut given keys) applied → earlier name (all_lits key) applied ≡ Some a → This a
  found [] a all out e = cc
  found (b ∷ rest) a all out e = at_test b rest a all out.0 (found rest a all.1 out.1) (is_same name (all_lits key) b) refl e

  by_lookup : (ns : List Node) (applied : List Application) → AllByRecursion (IsLaidOut given keys) applied → (o : Option LitAnswer) → earlier name (all_lits key) applied ≡ o
      → IsApplied joint effects shared side v answers ns applied name key (given name) (applied_by ns applied name key (given name) o)
  by_lookup ns applied out (Some a) e = record { back = λ h. h; older = λ all. all; this = λ all. found applied a all out e }
  by_lookup ns applied out None e =
      let new : Application = record { name = name; key = key; shape = given name; answer = (fresh_answer ns (given name)).answer } in
      record {
        back = answer_back v ns (given name);
        older = λ all. all_front _ applied (new ∷ []) all;
        this = λ all. (all_back (AnswersAs joint effects shared side v answers) applied (new ∷ []) all).0;
      }

pub applying : ApplyLaw
unfolding apply_built
applying joint effects shared side v answers given keys ns applied name key out laid =
    by_lookup joint effects shared side v answers given keys name key laid ns applied out (earlier name (all_lits key) applied) refl
