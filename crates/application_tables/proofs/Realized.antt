-- Each lawful table is realized by an assignment.
use Rattle.std.proofs.Common.{◌≡◌, ℕ, zero, suc, ◌+◌, ◌-◌, ◌<◌, ◌≤◌, ◌^◌, Bool, true, false, cond, List, [], ◌∷◌, ◌++◌, length, take, drop, replicate, Option, Some, None, refl, sym, ap, ◌∙◌, subst, arith, append_assoc, length-append, inl, inr}
use Rattle.std.specs.Prelude.{map, is_none}
use Rattle.std.specs.List.{AllByRecursion}
use Rattle.std.proofs.Math.Seq.{take-append_seam, drop-append_seam}
use Rattle.std.proofs.lemmas.List.Sums.{sum_by-append}
use Rattle.aig_build.proofs.Gates.{some_taken}
use Rattle.aig_build.proofs.Nodes.{Grows-keeps, Grows-trans}
use Rattle.aig_build.specs.Circuits.{Node, Grows, lit_value}
use Rattle.aig_build.specs.declared.lits.Lit.{Lit}
use Rattle.bit_ops.specs.declared.values.SymValue.{SymValue}
use Rattle.bit_ops.specs.declared.values.SymValue.TheVariants.{Word, Pointer}
use Rattle.bit_words.proofs.RippleCarry.{values-later}
use Rattle.bit_words.specs.Words.{AreThere, number_of_bits}
use Rattle.core_ir.proofs.Keys.{key_same}
use Rattle.core_ir.proofs.Pairs.{named, at_side, is_member}
use Rattle.core_ir.proofs.Shapes.{zero_kept}
use Rattle.core_ir.specs.Calls.{Among}
use Rattle.core_ir.specs.Cells.{zero_of, store_shapes, pick}
use Rattle.core_ir.specs.Inputs.{HaveShapes, IsFree, results_of}
use Rattle.core_ir.specs.Joint.{Side, Old, New, Node as JointNode, Pair, IsPair, node_by, node_of, pair_of, table}
use Rattle.core_ir.specs.Pairing.{ArePaired}
use Rattle.core_ir.specs.Tables.{Effects, EntryName, Shared, Own, Keyed, keyed, key_cells, name_by, name_of, old_member, node_named, results_named, Answer, Traps, Gives, Entry, same_key, lookup, or_zero, end_at, from_table, LawfulAnswer, IsLawful}
use Rattle.core_ir.specs.declared.cores.JointCore.{JointCore}
use Rattle.core_ir.specs.declared.units.Shape.{Shape}
use Rattle.core_ir.specs.declared.units.Shape.TheVariants as shape
use Rattle.rvt_num.specs.declared.values.Trap.{Trap}
use Rattle.rvt_num.specs.Wrapping.{reading}
use Rattle.rvt_num.specs.declared.values.Value.{Value}
use Rattle.rvt_num.specs.declared.values.Value.TheVariants.{Num}
use Rattle.sym_values.proofs.SameBits.{append_same, bits, long_map, map_append}
use Rattle.sym_values.specs.Valuations.{Valuation}
use Rattle.sym_values.specs.Values.{value_under, pointer_of, both_stand, values_under, lits_of, all_lits, AreLaid}
use Rattle.uf_abstraction.proofs.FirstEntries.{all_among}
use Rattle.uf_abstraction.specs.Applications.{LitShape, Target, Application, trap_lits, answer_lits, returned, unless_trap, answer_under, argument_count, key_of, flat_key, AnswersAs, AnswerAll}
use Rattle.uf_abstraction.specs.Applying.{fresh_answer}
use Rattle.uf_abstraction.specs.Congruence.{AreAlike, AllAlike, IsAnswer, AreCongruent, IsLaidOut}
use Rattle.uf_abstraction.specs.Testing.{IsSmall}
use Rattle.application_tables.proofs.Encodings.{trap_bits, values_bits, kinds, traps_long, values_long, none_first, one_first, all_stand}
use Rattle.application_tables.proofs.FreshBits.{taking, lit_same, answer_reads}
use Rattle.application_tables.proofs.Making.{made_grows}
use Rattle.application_tables.specs.Lawful.{IsTargetOf, IsShapeOf, AreShaped}
use Rattle.application_tables.specs.Making.{IsMadeAt, AreMade}
use Rattle.application_tables.specs.Realizing.{IsShared, RealizationLaw}

-- ---- the answers that a table gives to names and keys

lawful_by : (joint : JointCore) (effects : Effects) (k : Keyed) (e : Entry) (a : Answer) (o : Option Answer) → LawfulAnswer joint effects (node_named joint e.key.name) (results_named joint e.key.name) e.answer
    → (o ≡ Some a → LawfulAnswer joint effects (node_named joint k.name) (results_named joint k.name) a) → (t : Bool) → same_key k e.key ≡ t → cond t (Some e.answer) o ≡ Some a → LawfulAnswer joint effects (node_named joint k.name) (results_named joint k.name) a
lawful_by joint effects k e a o h rest true s f =
    let same : e.key ≡ k = sym (key_same k e.key s) in
    let answer : e.answer ≡ a = cc in
    subst (λ b. LawfulAnswer joint effects (node_named joint k.name) (results_named joint k.name) b) answer (subst (λ (q : Keyed). LawfulAnswer joint effects (node_named joint q.name) (results_named joint q.name) e.answer) same h)
lawful_by joint effects k e a o h rest false s f = rest f

lawful_found : (joint : JointCore) (effects : Effects) (k : Keyed) (es : List Entry) (a : Answer) → IsLawful joint effects es → lookup k es ≡ Some a → LawfulAnswer joint effects (node_named joint k.name) (results_named joint k.name) a
lawful_found joint effects k [] a h f = cc
lawful_found joint effects k (e ∷ es) a h f = lawful_by joint effects k e a (lookup k es) h.0 (lawful_found joint effects k es a h.1) (same_key k e.key) refl f

module _ (joint : JointCore) (effects : Effects) (entries : List Entry) where
  abbrev cell_shapes : EntryName → List Shape
  cell_shapes name = pick (key_cells joint effects (node_named joint name)) (store_shapes (table joint))

  abbrev asked : EntryName → Option (List Value) → Option Answer
  asked name None = None
  asked name (Some key) = lookup (key_of joint name key) entries

  -- where a key stands for no values, the answer is zero
  abbrev pub said : EntryName → Option (List Value) → Answer
  said name key = or_zero (results_named joint name) (cell_shapes name) (asked name key)

  abbrev IsSaid : EntryName → Answer → Type 0
  IsSaid name a = LawfulAnswer joint effects (node_named joint name) (results_named joint name) a

  zeros : (name : EntryName) (ss : List Shape) → HaveShapes (table joint) (IsFree joint (node_named joint name)) ss (map zero_of ss)
  zeros name [] = tt
  zeros name (s ∷ ss) = (zero_kept (table joint) (IsFree joint (node_named joint name)) s, zeros name ss)

  or_lawful : (name : EntryName) (o : Option Answer) → ((a : Answer) → o ≡ Some a → IsSaid name a) → IsSaid name (or_zero (results_named joint name) (cell_shapes name) o)
  or_lawful name None f = (zeros name (results_named joint name), zeros name (cell_shapes name))
  or_lawful name (Some a) f = f a refl

  said_lawful : IsLawful joint effects entries → (name : EntryName) (key : Option (List Value)) → IsSaid name (said name key)
  said_lawful h name None = (zeros name (results_named joint name), zeros name (cell_shapes name))
  said_lawful h name (Some key) = or_lawful name (lookup (key_of joint name key) entries) (λ a e. lawful_found joint effects (key_of joint name key) entries a h e)

-- ---- the bits of an answer

abbrev value_parts : LitShape → List Value → List Value → List Bool
value_parts s rs cs = values_bits s.results rs ++ values_bits (map shape.Word s.cells) cs

abbrev answer_code : LitShape → Answer → List Bool
answer_code s (Traps t) = trap_bits s.traps (Some t) ++ value_parts s (map zero_of s.results) (map zero_of (map shape.Word s.cells))
answer_code s (Gives rs cs) = trap_bits s.traps None ++ value_parts s rs cs

module _ (joint : JointCore) (effects : Effects) (given : EntryName → LitShape) (keys : EntryName → List Shape) (a : Application) (laid : IsLaidOut given keys a) (shaped : IsShapeOf joint effects a.name a.shape) where
  abbrev Its : JointNode
  Its = node_named joint a.name

  abbrev Have : List Shape → List Value → Type 0
  Have = HaveShapes (table joint) (IsFree joint Its)

  have_results : (rs : List Value) → Have (results_named joint a.name) rs → Have a.shape.results rs
  have_results rs h = subst (λ ss. Have ss rs) (sym shaped.results) h

  have_cells : (cs : List Value) → Have (cell_shapes joint effects [] a.name) cs → Have (map shape.Word a.shape.cells) cs
  have_cells cs h = subst (λ ss. Have ss cs) (sym shaped.cells) h

  have_zeros : (ss : List Shape) → Have ss (map zero_of ss)
  have_zeros ss = zeros joint effects [] a.name ss

  joined_long : (xs : List Bool) (ys : List Bool) (ls ms : List Lit) → length xs ≡ length ls → length ys ≡ length ms → length (xs ++ ys) ≡ length (ls ++ ms)
  joined_long xs ys ls ms e f = let one = length-append xs ys in let two = length-append ls ms in omega (arith, one, two, e, f)

  traps_wide : (o : Option Trap) → length (trap_bits a.shape.traps o) ≡ length (trap_lits a.answer.trap)
  traps_wide o = ap (λ ks. length (trap_bits ks o)) (sym laid.traps) ∙ traps_long a.answer.trap o

  parts_long : (rs cs : List Value) → Have a.shape.results rs → Have (map shape.Word a.shape.cells) cs → length (value_parts a.shape rs cs) ≡ length (all_lits a.answer.results ++ all_lits a.answer.cells)
  parts_long rs cs h k = joined_long _ _ (all_lits a.answer.results) (all_lits a.answer.cells) (values_long (table joint) (IsFree joint Its) a.shape.results rs a.answer.results h laid.results) (values_long (table joint) (IsFree joint Its) (map shape.Word a.shape.cells) cs a.answer.cells k laid.cells)

  pub code_long : (e : Answer) → LawfulAnswer joint effects Its (results_named joint a.name) e → length (answer_code a.shape e) ≡ length (answer_lits a.answer)
  code_long (Traps t) h = joined_long _ _ (trap_lits a.answer.trap) _ (traps_wide (Some t)) (parts_long _ _ (have_zeros a.shape.results) (have_zeros (map shape.Word a.shape.cells)))
  code_long (Gives rs cs) h = joined_long _ _ (trap_lits a.answer.trap) _ (traps_wide None) (parts_long rs cs (have_results rs h.0) (have_cells cs h.1))

  module _ (v : Valuation) (room : length (table joint) < 2 ^ 32) (small : AllByRecursion IsSmall a.shape.targets) where
    are : (t : Target) → IsTargetOf joint Its t → Among t a.shape.targets
    are t h = (shaped.targets t).1 h

    pub record IsAnswered (e : Answer) : Type 0 where
      pub answer : answer_under v a.answer ≡ Some e
      pub is_answer : IsAnswer v a.shape a.answer

    cut_parts : (ts : List Bool) (rs cs : List Value) → length ts ≡ length (trap_lits a.answer.trap) → Have a.shape.results rs → Have (map shape.Word a.shape.cells) cs → map v (answer_lits a.answer) ≡ ts ++ value_parts a.shape rs cs
        → (map v (trap_lits a.answer.trap) ≡ ts) × (map v (all_lits a.answer.results) ≡ values_bits a.shape.results rs) × (map v (all_lits a.answer.cells) ≡ values_bits (map shape.Word a.shape.cells) cs)
    cut_parts ts rs cs l h k e =
        let one = append_same (map v (trap_lits a.answer.trap)) ts _ _ (long_map v (trap_lits a.answer.trap) ∙ sym l) (sym (map_append v (trap_lits a.answer.trap) (all_lits a.answer.results ++ all_lits a.answer.cells)) ∙ e) in
        let two = append_same (map v (all_lits a.answer.results)) (values_bits a.shape.results rs) _ _
        (long_map v (all_lits a.answer.results) ∙ sym (values_long (table joint) (IsFree joint Its) a.shape.results rs a.answer.results h laid.results)) (sym (map_append v (all_lits a.answer.results) (all_lits a.answer.cells)) ∙ one.1) in
        (one.0, two.0, two.1)

    pub answered : (e : Answer) → LawfulAnswer joint effects Its (results_named joint a.name) e → map v (answer_lits a.answer) ≡ answer_code a.shape e → IsAnswered e
    answered (Traps t) h e =
        let rs = map zero_of a.shape.results in
        let cs = map zero_of (map shape.Word a.shape.cells) in
        let cut = cut_parts (trap_bits a.shape.traps (Some t)) rs cs (traps_wide (Some t)) (have_zeros a.shape.results) (have_zeros (map shape.Word a.shape.cells)) e in
        let am : Among t (kinds a.answer.trap) = subst (Among t) (sym laid.traps) ((shaped.traps t).1 h) in
        let first = one_first v a.answer.trap t (cut.0 ∙ ap (λ ks. trap_bits ks (Some t)) (sym laid.traps)) am in
        let results = all_stand v joint Its a.shape.targets room small are a.shape.results a.answer.results rs laid.results (have_zeros a.shape.results) cut.1 in
        record {
          answer = ap (λ o. unless_trap o (returned (values_under v a.answer.results) (values_under v a.answer.cells))) first.0;
          is_answer = record { one_trap = first.1; pointers = results.1 };
        }
    answered (Gives rs cs) h e =
        let cut = cut_parts (trap_bits a.shape.traps None) rs cs (traps_wide None) (have_results rs h.0) (have_cells cs h.1) e in
        let none = none_first v a.answer.trap (cut.0 ∙ ap (λ ks. trap_bits ks None) (sym laid.traps)) in
        let results = all_stand v joint Its a.shape.targets room small are a.shape.results a.answer.results rs laid.results (have_results rs h.0) cut.1 in
        let cells = all_stand v joint Its a.shape.targets room small are (map shape.Word a.shape.cells) a.answer.cells cs laid.cells (have_cells cs h.1) cut.2 in
        record {
          answer = λ i. unless_trap (none.0 i) (returned (results.0 i) (cells.0 i));
          is_answer = record { one_trap = none.1; pointers = results.1 };
        }

-- ---- the same values in a circuit that grew

module _ (at : List Node) (v w : Valuation) (same : (l : Lit) → l.node < length at → v l ≡ w l) where
  same_lits : (ls : List Lit) → AreThere at ls → map v ls ≡ map w ls
  same_lits [] h = refl
  same_lits (l ∷ ls) h = let one = same l h.0 in let rest = same_lits ls h.1 in λ i. one i ∷ rest i

  there_front : (xs ys : List Lit) → AreThere at (xs ++ ys) → AreThere at xs
  there_front [] ys h = tt
  there_front (x ∷ xs) ys h = (h.0, there_front xs ys h.1)

  there_back : (xs ys : List Lit) → AreThere at (xs ++ ys) → AreThere at ys
  there_back [] ys h = h
  there_back (x ∷ xs) ys h = there_back xs ys h.1

  same_value : (x : SymValue) → AreThere at (lits_of x) → value_under v x ≡ value_under w x
  same_value (Word a) h = let e = same_lits a.bits h in λ i. Some (Num (record { kind = a.kind; value = reading a.kind (number_of_bits (e i)) }))
  same_value (Pointer o c) h =
      let first = same_lits o.bits (there_front o.bits c.bits h) in
      let second = same_lits c.bits (there_back o.bits c.bits h) in
      λ i. pointer_of (number_of_bits (first i)) (number_of_bits (second i))

  pub same_values : (xs : List SymValue) → AreThere at (all_lits xs) → values_under v xs ≡ values_under w xs
  same_values [] h = refl
  same_values (x ∷ xs) h =
      let one = same_value x (there_front (lits_of x) (all_lits xs) h) in
      let rest = same_values xs (there_back (lits_of x) (all_lits xs) h) in
      λ i. both_stand (one i) (rest i)

-- ---- an assignment, application by application

long_zeros : (n : ℕ) → length (replicate n false) ≡ n
long_zeros zero = refl
long_zeros (suc n) = ap (λ k. suc k) (long_zeros n)

taking_grows : (old new : List Node) → Grows old new → taking old ≤ taking new
taking_grows old new g =
    let e : taking new ≡ taking old + taking g.added = ap taking g.is ∙ sum_by-append (λ (y : Node). cond (is_none y) 1 0) old g.added in
    omega (arith, e)

fresh_grows : (at : List Node) (s : LitShape) → Grows at (fresh_answer at s).nodes
fresh_grows at s = (answer_reads at s).grows

drop_seam : (xs ys : List Bool) (n : ℕ) → length xs ≡ n → drop n (xs ++ ys) ≡ ys
drop_seam [] ys zero e = refl
drop_seam [] ys (suc n) e = cc
drop_seam (x ∷ xs) ys zero e = cc
drop_seam (x ∷ xs) ys (suc n) e = drop_seam xs ys n (omega (arith, e))

take_seam : (xs ys : List Bool) (n : ℕ) → length xs ≡ n → take n (xs ++ ys) ≡ xs
take_seam [] ys zero e = refl
take_seam [] ys (suc n) e = cc
take_seam (x ∷ xs) ys zero e = cc
take_seam (x ∷ xs) ys (suc n) e = ap (λ l. x ∷ l) (take_seam xs ys n (omega (arith, e)))

module _ (code : Application → Option (List Value) → List Bool) where
  -- the answer has the bits that the code gives for the key's values
  abbrev HasCode : Valuation → Application → Type 0
  HasCode v a = map v (answer_lits a.answer) ≡ code a (values_under v a.key)

  abbrev IsLong : Application → Type 0
  IsLong a = (key : Option (List Value)) → length (code a key) ≡ length (answer_lits a.answer)

  pub record Assigned (bits : List Bool) (now : List Node) (applied : List Application) : Type 0 where
    pub more : List Bool
    pub long : length (bits ++ more) ≡ taking now - 1
    pub codes : AllByRecursion (HasCode (lit_value now (bits ++ more))) applied

  module _ (start at now : List Node) (a : Application) (rest : List Application) (bits : List Bool) (some : 0 < taking start) (long : length bits ≡ taking start - 1) (made : IsMadeAt start at a) (is_long : IsLong a) (grows : Grows (fresh_answer at a.shape).nodes now) where
    abbrev Fresh : List Node
    Fresh = (fresh_answer at a.shape).nodes

    abbrev padding : List Bool
    padding = replicate (taking at - taking start) false

    abbrev padded : List Bool
    padded = bits ++ padding

    padded_long : length padded ≡ taking at - 1
    padded_long = let e = length-append bits padding in let f = long_zeros (taking at - taking start) in let g = taking_grows start at made.grows in omega (arith, e, f, g, long, some)

    abbrev coded : List Bool
    coded = code a (values_under (lit_value at padded) a.key)

    coded_long : length coded ≡ length (answer_lits (fresh_answer at a.shape).answer)
    coded_long = is_long _ ∙ ap (λ x. length (answer_lits x)) made.answer

    fresh_count : taking Fresh ≡ taking at + length (answer_lits (fresh_answer at a.shape).answer)
    fresh_count = (answer_reads at a.shape).count

    some_at : 0 < taking at
    some_at = let g = taking_grows start at made.grows in omega (arith, g, some)

    pub some_fresh : 0 < taking Fresh
    some_fresh = let s = some_at in let f = fresh_count in omega (arith, s, f)

    pub next_long : length (padded ++ coded) ≡ taking Fresh - 1
    next_long = let e = length-append padded coded in let f = padded_long in let g = coded_long in let h = fresh_count in let s = some_at in omega (arith, e, f, g, h, s)

    module _ (more : List Bool) (whole : length ((padded ++ coded) ++ more) ≡ taking now - 1) where
      abbrev all_bits : List Bool
      all_bits = (padded ++ coded) ++ more

      key_same_value : (l : Lit) → l.node < length at → lit_value now all_bits l ≡ lit_value at padded l
      key_same_value l h =
          let e : all_bits ≡ padded ++ (coded ++ more) = append_assoc padded coded more in
          let f = padded_long in
          Grows-keeps at now (Grows-trans at Fresh now (fresh_grows at a.shape) grows) all_bits l h
          ∙ ap (λ b. lit_value at b l) e ∙ lit_same at padded (coded ++ more) l (omega (arith, f))

      pub has_code : HasCode (lit_value now all_bits) a
      has_code =
          let reads = answer_reads at a.shape in
          let lits = answer_lits (fresh_answer at a.shape).answer in
          let wide = taking_grows Fresh now grows in
          let key = same_values at (lit_value now all_bits) (lit_value at padded) key_same_value a.key made.key in
          let e : all_bits ≡ padded ++ (coded ++ more) = append_assoc padded coded more in
          ap (λ x. map (lit_value now all_bits) (answer_lits x)) made.answer
          ∙ values-later Fresh now all_bits lits grows reads.there
          ∙ reads.reads all_bits some_at (omega (arith, wide, whole))
          ∙ ap (λ b. take (length lits) (drop (taking at - 1) b)) e
          ∙ ap (take (length lits)) (drop_seam padded (coded ++ more) (taking at - 1) padded_long)
          ∙ take_seam coded more (length lits) coded_long
          ∙ ap (code a) (sym key)

    pub assigned_more : Assigned (padded ++ coded) now rest → Assigned bits now (a ∷ rest)
    assigned_more h =
        let same : (padded ++ coded) ++ h.more ≡ bits ++ (padding ++ (coded ++ h.more)) = append_assoc padded coded h.more ∙ append_assoc bits padding (coded ++ h.more) in
        record {
          more = padding ++ (coded ++ h.more);
          long = ap length (sym same) ∙ h.long;
          codes = subst (λ b. AllByRecursion (HasCode (lit_value now b)) (a ∷ rest)) same (has_code h.more h.long, h.codes);
        }

  pub assigned : (start now : List Node) (applied : List Application) (bits : List Bool) → 0 < taking start → length bits ≡ taking start - 1 → AllByRecursion IsLong applied → AreMade start applied now → Assigned bits now applied
  assigned start now [] bits some long wide made =
      let zeros = replicate (taking now - taking start) false in
      let e = length-append bits zeros in
      let f = long_zeros (taking now - taking start) in
      let g = taking_grows start now made in
      record { more = zeros; long = omega (arith, e, f, g, long, some); codes = tt }
  assigned start now (a ∷ rest) bits some long wide made =
      let at = made.0 in
      let grows = made_grows (fresh_answer at a.shape).nodes now rest fresh_grows made.2 in
      let padded = bits ++ replicate (taking at - taking start) false in
      let coded = code a (values_under (lit_value at padded) a.key) in
      assigned_more start at now a rest bits some long made.1 wide.0 grows
      (assigned (fresh_answer at a.shape).nodes now rest (padded ++ coded) (some_fresh start at now a rest bits some long made.1 wide.0 grows) (next_long start at now a rest bits some long made.1 wide.0 grows) wide.1 made.2)

-- ---- units of one name

results_by_name : (joint : JointCore) (shared : ℕ → Bool) → ArePaired joint → IsShared joint shared → (side : Side) (u : ℕ) → results_of joint side u ≡ results_named joint (name_of joint shared side u)
results_by_name joint shared paired are side u = elim (named joint shared side u) [
  | inl h ↦
      let p = are.pairs h.pair h.is_shared in
      ap (results_of joint side) (is_member joint side u h.pair p.0 p.1 h.is_pair p.2) ∙ by_side side h.pair p.0 p.1 p.2 ∙ ap (λ o. results_of joint Old (old_member o)) (sym p.2) ∙ ap (results_named joint) (sym h.is_name)
  | inr e ↦ ap (results_named joint) (sym e)
]
  where
    by_side : (side : Side) (p u v : ℕ) → IsPair joint p u v → results_of joint side (at_side side u v) ≡ results_of joint Old u
    by_side Old p u v h = refl
    by_side New p u v h = sym (paired.results p u v h)

node_of_pair : (joint : JointCore) (side : Side) (u p : ℕ) (b : Bool) → pair_of joint side u ≡ Some p → Pair p ≡ node_named joint (cond b (Shared p) (Own side u))
node_of_pair joint side u p true e = refl
node_of_pair joint side u p false e = sym (ap (node_by side u) e)

node_by_pair : (joint : JointCore) (shared : ℕ → Bool) (side : Side) (u : ℕ) (o : Option ℕ) → pair_of joint side u ≡ o → node_by side u o ≡ node_named joint (name_by shared side u o)
node_by_pair joint shared side u None e = sym (ap (node_by side u) e)
node_by_pair joint shared side u (Some p) e = node_of_pair joint side u p (shared p) e

node_by_name : (joint : JointCore) (shared : ℕ → Bool) (side : Side) (u : ℕ) → node_of joint side u ≡ node_named joint (name_of joint shared side u)
node_by_name joint shared side u = node_by_pair joint shared side u (pair_of joint side u) refl

-- ---- the table is realized

all_at : {X : Type 0} (P : X → Type 0) (xs : List X) (x : X) → AllByRecursion P xs → Among x xs → P x
all_at P [] x p h = absurd h
all_at P (y ∷ ys) x p h = elim h [ inl e ↦ subst P (sym e) p.0 | inr t ↦ all_at P ys x p.1 t ]

all_alike : (v : Valuation) (applied : List Application) → ((a b : Application) → Among a applied → Among b applied → AreAlike v a b) → AllAlike v applied
all_alike v [] f = tt
all_alike v (a ∷ rest) f = (all_among (AreAlike v a) rest (λ b h. f a b (inl refl) (inr h)), all_alike v rest (λ x y h k. f x y (inr h) (inr k)))

module _ (joint : JointCore) (effects : Effects) (shared : ℕ → Bool) (given : EntryName → LitShape) (keys : EntryName → List Shape) (applied : List Application) (entries : List Entry) (paired : ArePaired joint) (are : IsShared joint shared) (room : length (table joint) < 2 ^ 32)
    (small : (name : EntryName) → AllByRecursion IsSmall (given name).targets) (laid : AllByRecursion (IsLaidOut given keys) applied) (shaped : AreShaped joint effects applied) (lawful : IsLawful joint effects entries) where
  abbrev its_code : Application → Option (List Value) → List Bool
  its_code a key = answer_code a.shape (said joint effects entries a.name key)

  laid_at : (a : Application) → Among a applied → IsLaidOut given keys a
  laid_at a am = all_at (IsLaidOut given keys) applied a laid am

  shaped_at : (a : Application) → Among a applied → IsShapeOf joint effects a.name a.shape
  shaped_at a am = all_at (λ (b : Application). IsShapeOf joint effects b.name b.shape) applied a shaped am

  small_at : (a : Application) → Among a applied → AllByRecursion IsSmall a.shape.targets
  small_at a am = subst (λ (s : LitShape). AllByRecursion IsSmall s.targets) (sym (laid_at a am).as_named) (small a.name)

  all_long : AllByRecursion (IsLong its_code) applied
  all_long = all_among (IsLong its_code) applied (λ a am key. code_long joint effects given keys a (laid_at a am) (shaped_at a am) (said joint effects entries a.name key) (said_lawful joint effects entries lawful a.name key))

  module _ (v : Valuation) (codes : AllByRecursion (HasCode its_code v) applied) where
    code_at : (a : Application) → Among a applied → HasCode its_code v a
    code_at a am = all_at (HasCode its_code v) applied a codes am

    answered_at : (a : Application) (am : Among a applied) → IsAnswered joint effects given keys a (laid_at a am) (shaped_at a am) v room (small_at a am) (said joint effects entries a.name (values_under v a.key))
    answered_at a am = answered joint effects given keys a (laid_at a am) (shaped_at a am) v room (small_at a am) (said joint effects entries a.name (values_under v a.key)) (said_lawful joint effects entries lawful a.name (values_under v a.key)) (code_at a am)

    alike_at : (a b : Application) → Among a applied → Among b applied → AreAlike v a b
    alike_at a b am bm n k =
        let p = laid_at a am in
        let q = laid_at b bm in
        let vals = (bits v (keys b.name) a.key b.key (subst (λ m. AreLaid (keys m) a.key) n p.key) q.key).to_values k in
        let shapes : a.shape ≡ b.shape = p.as_named ∙ ap given n ∙ sym q.as_named in
        code_at a am ∙ (λ i. answer_code (shapes i) (said joint effects entries (n i) (vals i))) ∙ sym (code_at b bm)

    pub congruent : AreCongruent v applied
    congruent = record {
      alike = all_alike v applied alike_at;
      answers = all_among (λ (a : Application). IsAnswer v a.shape a.answer) applied (λ a am. (answered_at a am).is_answer);
    }

    answers_at : (side : Side) (a : Application) → Among a applied → AnswersAs joint effects shared side v (from_table joint effects shared side entries) a
    answers_at side a am = record {
      by = λ call named count has_key.
          let k = keyed joint effects shared side call in
          let first : take (argument_count joint a.name) (k.args ++ k.cells) ≡ k.args = ap (λ n. take n (k.args ++ k.cells)) (sym count) ∙ take-append_seam k.args k.cells in
          let rest : drop (argument_count joint a.name) (k.args ++ k.cells) ≡ k.cells = ap (λ n. drop n (k.args ++ k.cells)) (sym count) ∙ drop-append_seam k.args k.cells in
          let same : k ≡ key_of joint a.name (flat_key k) = λ i. record { name = named i; args = sym first i; cells = sym rest i } in
          let results = results_by_name joint shared paired are side call.unit ∙ ap (results_named joint) named in
          let node = node_by_name joint shared side call.unit ∙ ap (node_named joint) named in (
            said joint effects entries a.name (Some (flat_key k)),
            (answered_at a am).answer ∙ ap (λ o. Some (said joint effects entries a.name o)) has_key,
            λ i. Some (end_at (key_cells joint effects (node_of joint side call.unit)) call.store (or_zero (results i) (pick (key_cells joint effects (node i)) (store_shapes (table joint))) (lookup (same i) entries))),
          );
    }

    pub answers : (side : Side) → AnswerAll joint effects shared side v (from_table joint effects shared side entries) applied
    answers side = all_among (AnswersAs joint effects shared side v (from_table joint effects shared side entries)) applied (answers_at side)

pub realization : RealizationLaw
realization joint effects shared given keys start now applied entries first paired are room small laid shaped circuit made lawful long =
    let code = its_code joint effects shared given keys applied entries paired are room small laid shaped lawful in
    let wide = all_long joint effects shared given keys applied entries paired are room small laid shaped lawful in
    let h = assigned code start now applied first (some_taken start circuit) long wide made in
    let v = lit_value now (first ++ h.more) in
    record {
      more = h.more;
      one_bit_an_input = h.long;
      congruent = congruent joint effects shared given keys applied entries paired are room small laid shaped lawful v h.codes;
      answers = answers joint effects shared given keys applied entries paired are room small laid shaped lawful v h.codes;
    }
