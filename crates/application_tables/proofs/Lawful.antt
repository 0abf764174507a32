-- The table of congruent applications is lawful.
use Rattle.std.proofs.Common.{◌≡◌, ℕ, ◌<◌, ◌≤◌, ◌^◌, Bool, true, false, cond, List, [], ◌∷◌, Option, Some, None, refl, sym, ◌∙◌, subst, inl, inr}
use Rattle.std.specs.Prelude.{map}
use Rattle.std.specs.List.{AllByRecursion}
use Rattle.aig_build.specs.declared.lits.Lit.{Lit}
use Rattle.bit_ops.specs.declared.values.SymValue.{SymValue}
use Rattle.bit_ops.specs.declared.values.SymValue.TheVariants.{Word, Pointer}
use Rattle.bit_words.proofs.Arithmetic.{below_power}
use Rattle.bit_words.specs.Words.{LitWord}
use Rattle.core_ir.specs.Calls.{Among}
use Rattle.core_ir.specs.Inputs.{IsNumber, HasShape, HaveShapes, IsFree}
use Rattle.core_ir.specs.Joint.{Node, table}
use Rattle.core_ir.specs.Tables.{Effects, EntryName, node_named, results_named, Answer, Traps, Gives, Entry, LawfulAnswer, IsLawful}
use Rattle.core_ir.specs.declared.cores.JointCore.{JointCore}
use Rattle.core_ir.specs.declared.units.Shape.{Shape}
use Rattle.core_ir.specs.declared.units.Shape.TheVariants as shape
use Rattle.rvt_num.proofs.Readings.{reading_in_range}
use Rattle.rvt_num.specs.Kinds.{width, IsOf}
use Rattle.rvt_num.specs.Wrapping.{reading}
use Rattle.rvt_num.specs.declared.kinds.Kind.{Kind}
use Rattle.rvt_num.specs.declared.values.Trap.{Trap}
use Rattle.rvt_num.specs.declared.values.Value.{Value}
use Rattle.rvt_num.specs.declared.values.Value.TheVariants.{Num, Null, At}
use Rattle.sym_values.proofs.SameBits.{long_map}
use Rattle.sym_values.specs.Valuations.{Valuation}
use Rattle.sym_values.specs.Values.{pattern_under, value_under, both_stand, values_under, IsWordOf, AreLaid}
use Rattle.uf_abstraction.specs.Applications.{LitShape, Target, Application, first_trap, returned, unless_trap, answer_under, entry_if, entries_under}
use Rattle.uf_abstraction.specs.Congruence.{IsOnTarget, ArePointersOn, IsAnswer, IsLaidOut}
use Rattle.application_tables.specs.Lawful.{IsTargetOf, IsShapeOf, AreShaped, LawfulLaw}

pub both_parts : (o : Option Value) (r : Option (List Value)) (zs : List Value) → both_stand o r ≡ Some zs → (z : Value) × (rest : List Value) × (o ≡ Some z) × (r ≡ Some rest) × (z ∷ rest ≡ zs)
both_parts None r zs e = cc
both_parts (Some z) None zs e = cc
both_parts (Some z) (Some rest) zs e = (z, rest, refl, refl, cc)

none_stand : (zs : List Value) → ◌≡◌ {A = Option (List Value)} (Some []) (Some zs) → [] ≡ zs
none_stand zs e = cc

module _ (v : Valuation) where
  pub word_below : (k : Kind) (w : LitWord) → IsWordOf k w → pattern_under v w < 2 ^ width k
  word_below k w p = subst (λ n. pattern_under v w < 2 ^ n) (long_map v w.bits ∙ p.of_width) (below_power (map v w.bits))

  is_number : (k : Kind) (w : LitWord) → IsWordOf k w → IsNumber k (record { kind = w.kind; value = reading w.kind (pattern_under v w) })
  is_number k w p = record {
    of_kind = p.of_kind;
    in_range = subst (λ j. IsOf k (reading j (pattern_under v w))) (sym p.of_kind) (reading_in_range k (pattern_under v w) (word_below k w p));
  }

  module _ (joint : JointCore) (x : Node) (targets : List Target) (are : (t : Target) → Among t targets → IsTargetOf joint x t) where
    abbrev Has : Shape → Value → Type 0
    Has = HasShape (table joint) (IsFree joint x)

    abbrev Have : List Shape → List Value → Type 0
    Have = HaveShapes (table joint) (IsFree joint x)

    on_target : (type : ℕ) (u : Bool) (o : Option Value) (z : Value) → IsOnTarget targets u o → o ≡ Some z → Has (shape.Pointer type u) z
    on_target type u None z h e = absurd h
    on_target type u (Some (Num n)) z h e = absurd h
    on_target type u (Some Null) z h e = subst (Has (shape.Pointer type u)) (let same : Null ≡ z = cc in same) tt
    on_target type u (Some (At o c)) z h e =
        let t = are (o, h.cells, h.constant) h.is_there in
        let at : Has (shape.Pointer type u) (At o c) = (
          record {
            object = t.object;
            is_there = t.is_there;
            addressable = t.addressable;
            in_length = subst (λ n. c ≤ n) (sym t.long) h.in_length;
            mutable = λ m. t.same_constant ∙ h.mutable m;
          },
          t.free,
        ) in
        subst (Has (shape.Pointer type u)) (let same : At o c ≡ z = cc in same) at

    one_has : (s : Shape) (w : LitWord) (k : Kind) (z : Value) → IsWordOf k w → value_under v (Word w) ≡ Some z → Has (shape.Word k) z
    one_has s w k z p e = subst (Has (shape.Word k)) (let same : Num (record { kind = w.kind; value = reading w.kind (pattern_under v w) }) ≡ z = cc in same) (is_number k w p)

    pub have : (ss : List Shape) (xs : List SymValue) (zs : List Value) → AreLaid ss xs → ArePointersOn v targets ss xs → values_under v xs ≡ Some zs → Have ss zs
    have [] [] zs l p e = subst (Have []) (none_stand zs e) tt
    have [] (x ∷ xs) zs l p e = absurd l
    have (s ∷ ss) [] zs l p e = absurd l
    have (shape.Word k ∷ ss) (Word w ∷ xs) zs l p e =
        let b = both_parts (value_under v (Word w)) (values_under v xs) zs e in
        subst (Have (shape.Word k ∷ ss)) b.4 (one_has (shape.Word k) w k b.0 l.0 b.2, have ss xs b.1 l.1 p b.3)
    have (shape.Word k ∷ ss) (Pointer o c ∷ xs) zs l p e = absurd l.0
    have (shape.Pointer t u ∷ ss) (x ∷ xs) zs l p e =
        let b = both_parts (value_under v x) (values_under v xs) zs e in
        subst (Have (shape.Pointer t u ∷ ss)) b.4 (on_target t u (value_under v x) b.0 p.0 b.2, have ss xs b.1 l.1 p.1 b.3)

    words_on : (ks : List Kind) (xs : List SymValue) → ArePointersOn v targets (map shape.Word ks) xs
    words_on [] xs = tt
    words_on (k ∷ ks) [] = tt
    words_on (k ∷ ks) (x ∷ xs) = words_on ks xs

  trap_by : (b : Bool) (s : Trap × Lit) (ts : List (Trap × Lit)) (t : Trap) → (first_trap v ts ≡ Some t → Among t (map (λ (r : Trap × Lit). r.0) ts)) → cond b (Some s.0) (first_trap v ts) ≡ Some t → Among t (map (λ (r : Trap × Lit). r.0) (s ∷ ts))
  trap_by true s ts t rest f = inl (let same : s.0 ≡ t = cc in sym same)
  trap_by false s ts t rest f = inr (rest f)

  trap_among : (ts : List (Trap × Lit)) (t : Trap) → first_trap v ts ≡ Some t → Among t (map (λ (r : Trap × Lit). r.0) ts)
  trap_among [] t e = cc
  trap_among (s ∷ ts) t e = trap_by (v s.1) s ts t (trap_among ts t) e

  module _ (joint : JointCore) (effects : Effects) (given : EntryName → LitShape) (keys : EntryName → List Shape) (a : Application) (laid : IsLaidOut given keys a) (shaped : IsShapeOf joint effects a.name a.shape) (is_answer : IsAnswer v a.shape a.answer) where
    abbrev Its : Node
    Its = node_named joint a.name

    by_values : (r c : Option (List Value)) (e : Answer) → values_under v a.answer.results ≡ r → values_under v a.answer.cells ≡ c → returned r c ≡ Some e → LawfulAnswer joint effects Its (results_named joint a.name) e
    by_values None c e p q f = cc
    by_values (Some rs) None e p q f = cc
    by_values (Some rs) (Some cs) e p q f =
        let are = λ (t : Target) (h : Among t a.shape.targets). (shaped.targets t).0 h in
        let results = have joint Its a.shape.targets are a.shape.results a.answer.results rs laid.results is_answer.pointers p in
        let cells = have joint Its a.shape.targets are (map shape.Word a.shape.cells) a.answer.cells cs laid.cells (words_on joint Its a.shape.targets are a.shape.cells a.answer.cells) q in
        subst (LawfulAnswer joint effects Its (results_named joint a.name)) (let same : Gives rs cs ≡ e = cc in same)
        (subst (λ ss. HaveShapes (table joint) (IsFree joint Its) ss rs) shaped.results results, subst (λ ss. HaveShapes (table joint) (IsFree joint Its) ss cs) shaped.cells cells)

    by_trap : (o : Option Trap) (e : Answer) → first_trap v a.answer.trap ≡ o → unless_trap o (returned (values_under v a.answer.results) (values_under v a.answer.cells)) ≡ Some e → LawfulAnswer joint effects Its (results_named joint a.name) e
    by_trap None e p f = by_values _ _ e refl refl f
    by_trap (Some t) e p f =
        subst (LawfulAnswer joint effects Its (results_named joint a.name)) (let same : Traps t ≡ e = cc in same)
        ((shaped.traps t).0 (subst (Among t) laid.traps (trap_among a.answer.trap t p)))

    lawful_entry : (k : Option (List Value)) (o : Option Answer) (es : List Entry) → answer_under v a.answer ≡ o → IsLawful joint effects es → IsLawful joint effects (entry_if joint a.name k o es)
    lawful_entry None o es p h = h
    lawful_entry (Some key) None es p h = h
    lawful_entry (Some key) (Some e) es p h = (by_trap (first_trap v a.answer.trap) e refl p, h)

  pub all_lawful : (joint : JointCore) (effects : Effects) (given : EntryName → LitShape) (keys : EntryName → List Shape) (applied : List Application) → AllByRecursion (IsLaidOut given keys) applied → AreShaped joint effects applied
      → AllByRecursion (λ a. IsAnswer v a.shape a.answer) applied → IsLawful joint effects (entries_under joint v applied)
  all_lawful joint effects given keys [] l s h = tt
  all_lawful joint effects given keys (a ∷ rest) l s h =
      lawful_entry joint effects given keys a l.0 s.0 h.0 (values_under v a.key) (answer_under v a.answer) (entries_under joint v rest) refl (all_lawful joint effects given keys rest l.1 s.1 h.1)

pub lawful : LawfulLaw
lawful joint effects v given keys applied l s h = all_lawful v joint effects given keys applied l s h.answers
