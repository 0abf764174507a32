-- A unit's end depends on its key alone, and changes its key's cells alone.
use Rattle.std.proofs.Common.{◌≡◌, ℕ, zero, suc, ◌+◌, Bool, true, false, List, [], ◌∷◌, length, map, Some, None, refl, sym, ap, ◌∙◌, subst, inl, inr, ◌⊎◌}
use Rattle.std.specs.Prelude.{slice_get}
use Rattle.core_ir.proofs.Bodies.{covered, CallFits}
use Rattle.core_ir.proofs.CellLemmas.{flag, CellOf, flag_of, blend_set, blend_clear, picked_same, store_same, value_stable}
use Rattle.core_ir.proofs.Entries.{entry_fits}
use Rattle.core_ir.proofs.Kept.{shapes_same}
use Rattle.core_ir.proofs.Masks.{length_fill}
use Rattle.core_ir.proofs.Pairs.{shapes_length, mask_length}
use Rattle.core_ir.proofs.Shapes.{some_same, bare_there}
use Rattle.core_ir.proofs.Sound.{AboveFree, names_above, input_args, store_free, callee_input, callee_results, ends_free, end_there, there_is}
use Rattle.core_ir.specs.Calls.{Among, calls_in, calls_of_unit}
use Rattle.core_ir.specs.Cells.{has, zero_of, mutable_cells, store_shapes, pick, blend}
use Rattle.core_ir.specs.Fits.{Fits, MayName}
use Rattle.core_ir.specs.Inputs.{IsFree, IsInput}
use Rattle.core_ir.specs.Joint.{Side, Old, New, node_of, core_of, unit_of, bare, table}
use Rattle.core_ir.specs.Meaning.{End, Trapped, Returned, Request, Flow, Goes, Over, Waits, flow_end, option_end, put_back, owned_cells, entered, unit_run, unit_end, run}
use Rattle.core_ir.specs.Places.{register, base_of}
use Rattle.core_ir.specs.Tables.{Effects, key_cells, end_at, answer_of}
use Rattle.core_ir.specs.declared.cores.CoreObject.{CoreObject}
use Rattle.core_ir.specs.declared.cores.JointCore.{JointCore}
use Rattle.core_ir.specs.declared.units.Unit.{Unit}
use Rattle.rvt_num.specs.declared.values.Value.{Value}
use Rattle.touch_sets.proofs.Sim.{Agree, Alike, EndsAlike, Sim, FlowSim, body_sim}
use Rattle.touch_sets.specs.Effects.{at_store}
use Rattle.touch_sets.specs.Sets.{Touches, by_name, by_type, by_call, AreEffects}

no_end : (e : End) → None ≡ Some e → ⊥
no_end e h = cc

clash : (b : Bool) → b ≡ true → b ≡ false → ⊥
clash b h k = cc

map_length : {A B : Type 0} (f : A → B) (xs : List A) → length (map f xs) ≡ length xs
map_length f [] = refl
map_length f (x ∷ xs) = ap suc (map_length f xs)

-- what a unit touches it doesn't own
touched_free : (joint : JointCore) {side : Side} {u o : ℕ} → Touches joint side u o → (w : Unit) → unit_of joint side u ≡ Some w → has o w.owned ≡ false
touched_free joint {side} {u} {o} (by_name v is m h) w e = subst (λ (x : Unit). has o x.owned ≡ false) (some_same _ _ (sym is ∙ e)) h
touched_free joint {side} {u} {o} (by_type v t is m k h) w e = subst (λ (x : Unit). has o x.owned ≡ false) (some_same _ _ (sym is ∙ e)) h
touched_free joint {side} {u} {o} (by_call v c is m k h) w e = subst (λ (x : Unit). has o x.owned ≡ false) (some_same _ _ (sym is ∙ e)) h

module _ (joint : JointCore) (fits : Fits joint) (side : Side) where
  abbrev objects : List CoreObject
  objects = (core_of joint side).objects

  -- the cells that a unit touches
  abbrev Touched : ℕ → ℕ → Type 0
  Touched u i = CellOf objects (Touches joint side u) i

  abbrev FrameAt : ℕ → Type 0
  FrameAt d = (q : Request) (store : List Value) (e : End) → IsInput joint side q → Agree (Touched q.unit) q.store store → run (core_of joint side) d q ≡ Some e → (e' : End) × (run (core_of joint side) d (at_store q store) ≡ Some e') × EndsAlike (Touched q.unit) q.store store e e'

  module _ (d : ℕ) (frame : FrameAt d) (q : Request) (w : Unit) (is : unit_of joint side q.unit ≡ Some w) (i : IsInput joint side q) (store : List Value) (agree : Agree (Touched q.unit) q.store store) where
    abbrev owned : List Bool
    owned = owned_cells objects w

    -- the objects that the body may touch
    abbrev T : ℕ → Type 0
    T o = Touches joint side q.unit o ⊎ (has o w.owned ≡ true)

    owned_or : (o : ℕ) → (has o w.owned ≡ false → Touches joint side q.unit o) → T o
    owned_or o f = by_test (has o w.owned) refl
      where
        by_test : (b : Bool) → has o w.owned ≡ b → T o
        by_test true e = inr e
        by_test false e = inl (f e)

    zeros : List Value
    zeros = map zero_of (store_shapes objects)

    owned_length : length owned ≡ length (store_shapes objects)
    owned_length = mask_length objects (λ o. has o w.owned)

    zeros_length : length (map zero_of (store_shapes objects)) ≡ length owned
    zeros_length = map_length zero_of (store_shapes objects) ∙ sym owned_length

    store_length : length q.store ≡ length owned
    store_length = shapes_length (table joint) (IsFree joint (node_of joint side q.unit)) (store_shapes (table joint)) q.store i.cells ∙ ap length (shapes_same joint fits side (λ _. ⊥)) ∙ sym owned_length

    other_length : length store ≡ length owned
    other_length = sym agree.long ∙ store_length

    -- the flag of an owned or touched cell
    owned_flag : (j : ℕ) (c : CellOf objects T j) → flag owned j ≡ has c.object w.owned
    owned_flag j c = flag_of objects (λ o. has o w.owned) c.object c.cell j c.of c.is_there c.within c.at

    entry_store : List Value → List Value
    entry_store st = blend (owned_cells objects w) (map zero_of (store_shapes objects)) st

    entry_agree : (j : ℕ) → CellOf objects T j → register (blend owned (map zero_of (store_shapes objects)) q.store) j ≡ register (blend owned (map zero_of (store_shapes objects)) store) j
    entry_agree j c =
        elim c.holds [
          | inl t ↦ (let f = owned_flag j c ∙ touched_free joint t w is in
              blend_clear owned (map zero_of (store_shapes objects)) q.store j zeros_length store_length f ∙ agree.same j (record { object = c.object; cell = c.cell; of = c.of; is_there = c.is_there; within = c.within; at = c.at; holds = t }) ∙ sym (blend_clear owned (map zero_of (store_shapes objects)) store j zeros_length other_length f))
          | inr o ↦ (let f = owned_flag j c ∙ o in
              blend_set owned (map zero_of (store_shapes objects)) q.store j zeros_length store_length f ∙ sym (blend_set owned (map zero_of (store_shapes objects)) store j zeros_length other_length f))
        ]

    -- the two entries
    entry_sim : Sim joint fits side (AboveFree joint fits (node_of joint side q.unit)) (MayName joint fits.helpers side q.unit) (names_above joint fits side q.unit) w (run (core_of joint side) d) (calls_in w.body) T (λ o m. owned_or o (λ f. by_name w is m f)) (λ t o m h. owned_or o (λ f. by_type w t is m h f)) (entered objects w q.args q.store).store (entered objects w q.args store).store (entered objects w q.args q.store) (entered objects w q.args store)
    entry_sim =
        record {
          registers = refl;
          agree = record { long = length_fill owned _ q.store ∙ (agree.long ∙ sym (length_fill owned _ store)); same = entry_agree };
          left = record { long = refl; same = λ j out. refl };
          right = record { long = refl; same = λ j out. refl };
        }

    -- at the return a unit's own cells are as they were
    exit_agree : (rs rs' st st' : List Value) → Alike (CellOf objects T) (entered objects w q.args q.store).store (entered objects w q.args store).store rs rs' st st' → Alike (Touched q.unit) q.store store rs rs' (blend owned q.store st) (blend owned store st')
    exit_agree rs rs' st st' h =
        record {
          results = h.results;
          agree = record {
            long = length_fill owned _ st ∙ (h.agree.long ∙ sym (length_fill owned _ st'));
            same = λ j c.
                let k : CellOf objects T j = record { object = c.object; cell = c.cell; of = c.of; is_there = c.is_there; within = c.within; at = c.at; holds = inl c.holds } in
                let f = owned_flag j k ∙ touched_free joint c.holds w is in
                blend_clear owned q.store st j store_length st_length f ∙ (h.agree.same j k ∙ sym (blend_clear owned store st' j other_length st'_length f));
          };
          left = record { long = length_fill owned _ st ∙ (h.left.long ∙ length_fill owned _ q.store); same = λ j out. unchanged q.store st store_length st_length j (h.left.same j) out (flag owned j) refl };
          right = record { long = length_fill owned _ st' ∙ (h.right.long ∙ length_fill owned _ store); same = λ j out. unchanged store st' other_length st'_length j (h.right.same j) out (flag owned j) refl };
        }
      where
        st_length : length st ≡ length owned
        st_length = h.left.long ∙ (length_fill owned _ q.store ∙ store_length)

        st'_length : length st' ≡ length owned
        st'_length = h.right.long ∙ (length_fill owned _ store ∙ other_length)

        unchanged : (before after : List Value) → length before ≡ length owned → length after ≡ length owned → (j : ℕ) → ((CellOf objects T j → ⊥) → register after j ≡ register (blend owned (map zero_of (store_shapes objects)) before) j) → (Touched q.unit j → ⊥) → (b : Bool) → flag owned j ≡ b → register (blend owned before after) j ≡ register before j
        unchanged before after n m j same out true f = blend_set owned before after j n m f
        unchanged before after n m j same out false f =
            let far : CellOf objects T j → ⊥ = λ c. elim c.holds [
              | inl t ↦ out (record { object = c.object; cell = c.cell; of = c.of; is_there = c.is_there; within = c.within; at = c.at; holds = t })
              | inr o ↦ clash (flag owned j) (owned_flag j c ∙ o) f
            ] in
            blend_clear owned before after j n m f ∙ (same far ∙ blend_clear owned (map zero_of (store_shapes objects)) before j zeros_length n f)

    abbrev Ended : List Value → End → End → Type 0
    Ended before e e' = EndsAlike (Touched q.unit) q.store before e e'

    exit_alike : (x x' : End) → EndsAlike (CellOf objects T) (entered objects w q.args q.store).store (entered objects w q.args store).store x x' → EndsAlike (Touched q.unit) q.store store (put_back owned q.store x) (put_back owned store x')
    exit_alike (Trapped t) (Trapped t') h = h
    exit_alike (Trapped t) (Returned rs st) h = absurd h
    exit_alike (Returned rs st) (Trapped t) h = absurd h
    exit_alike (Returned rs st) (Returned rs' st') h = exit_agree rs rs' st st' h

    by_flows : (f f' : Flow) → FlowSim joint fits side (AboveFree joint fits (node_of joint side q.unit)) (MayName joint fits.helpers side q.unit) (names_above joint fits side q.unit) w (run (core_of joint side) d) (calls_in w.body) T (λ o m. owned_or o (λ f. by_name w is m f)) (λ t o m h. owned_or o (λ f. by_type w t is m h f)) (entered objects w q.args q.store).store (entered objects w q.args store).store f f' → (e : End) → option_end (put_back owned q.store) (flow_end f) ≡ Some e → (e' : End) × (option_end (put_back owned store) (flow_end f') ≡ Some e') × EndsAlike (Touched q.unit) q.store store e e'
    by_flows (Goes s) (Goes s') h e r =
        (put_back owned store (Returned [] s'.store), refl, subst (λ x. EndsAlike (Touched q.unit) q.store store x (put_back owned store (Returned [] s'.store))) (some_same _ _ r) (exit_alike (Returned [] s.store) (Returned [] s'.store) (record { results = refl; agree = h.agree; left = h.left; right = h.right })))
    by_flows (Goes s) (Over x) h e r = absurd h
    by_flows (Goes s) Waits h e r = absurd h
    by_flows (Over x) (Goes s) h e r = absurd h
    by_flows (Over x) (Over x') h e r =
        (put_back owned store x', refl, subst (λ y. EndsAlike (Touched q.unit) q.store store y (put_back owned store x')) (some_same _ _ r) (exit_alike x x' h))
    by_flows (Over x) Waits h e r = absurd h
    by_flows Waits f' h e r = absurd (no_end e r)

    sub : (v : ℕ) → Among v (calls_in w.body) → (o : ℕ) → Touches joint side v o → T o
    sub v m o t = owned_or o (λ f. by_call w v is (subst (λ x. Among v (calls_of_unit x)) (sym is) m) t f)

    flows : FlowSim joint fits side (AboveFree joint fits (node_of joint side q.unit)) (MayName joint fits.helpers side q.unit) (names_above joint fits side q.unit) w (run (core_of joint side) d) (calls_in w.body) T (λ o m. owned_or o (λ f. by_name w is m f)) (λ t o m h. owned_or o (λ f. by_type w t is m h f)) (entered objects w q.args q.store).store (entered objects w q.args store).store (unit_run objects (run (core_of joint side) d) (Some w) q.args q.store).flow (unit_run objects (run (core_of joint side) d) (Some w) q.args store).flow
    flows =
        let x = node_of joint side q.unit in
        let u = fits.units side q.unit w is in
        let answers = λ (c : Request) (v : Unit) (e : End) (h : CallFits joint fits side (AboveFree joint fits x) (MayName joint fits.helpers side q.unit) (names_above joint fits side q.unit) w (run (core_of joint side) d) (calls_in w.body) c) (isv : unit_of joint side c.unit ≡ Some v) (r : run (core_of joint side) d c ≡ Some e). callee_results joint fits side q w is d c v e h isv r (ends_free joint fits side d c v e isv (callee_input joint fits side q w is d c h) r) in
        body_sim joint fits side (AboveFree joint fits x) (MayName joint fits.helpers side q.unit) (names_above joint fits side q.unit) w (run (core_of joint side) d) (calls_in w.body) T (λ o m. owned_or o (λ f. by_name w is m f)) (λ t o m h. owned_or o (λ f. by_type w t is m h f)) (entered objects w q.args q.store).store (entered objects w q.args store).store (Touches joint side) sub (λ c s e h a r. frame c s e (callee_input joint fits side q w is d c h) a r) answers u.body (covered w.body) (entered objects w q.args q.store) (entered objects w q.args store) (entry_fits joint fits side (AboveFree joint fits x) (MayName joint fits.helpers side q.unit) (names_above joint fits side q.unit) w u.others u.registers u.body u.stops (run (core_of joint side) d) answers q.args q.store (input_args joint fits side q w is i) (store_free joint fits (IsFree joint x) (λ _. ⊥) q.store i.cells)) entry_sim

    one_more : (e : End) → run (core_of joint side) (suc d) q ≡ Some e → (e' : End) × (run (core_of joint side) (suc d) (at_store q store) ≡ Some e') × EndsAlike (Touched q.unit) q.store store e e'
    one_more e r =
        let x = by_flows _ _ flows e (end_there joint fits side d q w e is r) in
        (x.0, subst (λ o. unit_end (core_of joint side).objects (run (core_of joint side) d) o q.args store ≡ Some x.0) (sym is) x.1, x.2)

  frame_at : (d : ℕ) → FrameAt d
  frame_at zero q store e i a r = absurd (no_end e r)
  frame_at (suc d) q store e i a r =
      let w = there_is joint fits side (suc d) q e r (unit_of joint side q.unit) refl in
      one_more d (frame_at d) q w.0 w.1 i store a e r

  -- ---- the key of a node

  same_bare : (s : Side) → map bare (core_of joint s).objects ≡ table joint
  same_bare Old = refl
  same_bare New = fits.same_table

  bare_base : (os : List CoreObject) (o : ℕ) → base_of (map bare os) o ≡ base_of os o
  bare_base [] o = refl
  bare_base (x ∷ xs) zero = refl
  bare_base (x ∷ xs) (suc o) = ap (λ n. length (mutable_cells x) + n) (bare_base xs o)

  module _ (effects : Effects) (are : AreEffects joint effects) where
    -- a touched cell is one of the key's
    key_flag : (u : ℕ) (j : ℕ) → Touched u j → flag (key_cells joint effects (node_of joint side u)) j ≡ true
    key_flag u j c =
        let there : slice_get (table joint) c.object ≡ Some (bare c.of) = subst (λ l. slice_get l c.object ≡ Some (bare c.of)) (same_bare side) (bare_there objects c.object c.of c.is_there) in
        let base : base_of (table joint) c.object ≡ base_of objects c.object = ap (λ l. base_of l c.object) (sym (same_bare side)) ∙ bare_base objects c.object in
        flag_of (table joint) (effects.touched (node_of joint side u)) c.object c.cell j (bare c.of) there c.within (c.at ∙ ap (λ n. n + c.cell) (sym base)) ∙ (are.touched (node_of joint side u) c.object).1 (record { side = side; unit = u; of_node = refl; touches = c.holds })

    key_length : (u : ℕ) (store : List Value) → length store ≡ length (store_shapes (table joint)) → length store ≡ length (key_cells joint effects (node_of joint side u))
    key_length u store h = h ∙ sym (mask_length (table joint) (effects.touched (node_of joint side u)))

    -- the end from the other store is the answer put there
    moved_end : (q : Request) (store : List Value) (e e' : End) → length q.store ≡ length (key_cells joint effects (node_of joint side q.unit)) → length store ≡ length (key_cells joint effects (node_of joint side q.unit)) → pick (key_cells joint effects (node_of joint side q.unit)) q.store ≡ pick (key_cells joint effects (node_of joint side q.unit)) store → EndsAlike (Touched q.unit) q.store store e e' → e' ≡ end_at (key_cells joint effects (node_of joint side q.unit)) store (answer_of (key_cells joint effects (node_of joint side q.unit)) e)
    moved_end q store (Trapped t) (Trapped t') n m k h = ap Trapped (sym h)
    moved_end q store (Trapped t) (Returned rs st) n m k h = absurd h
    moved_end q store (Returned rs st) (Trapped t) n m k h = absurd h
    moved_end q store (Returned rs st) (Returned rs' st') n m k h =
        let same = store_same st' (blend mask st store) (h.right.long ∙ sym (length_fill mask _ store)) (λ j. cell j (flag mask j) refl) in
        λ i. Returned (sym h.results i) (same i)
      where
        mask : List Bool
        mask = key_cells joint effects (node_of joint side q.unit)

        cell : (j : ℕ) (b : Bool) → flag (key_cells joint effects (node_of joint side q.unit)) j ≡ b → register st' j ≡ register (blend (key_cells joint effects (node_of joint side q.unit)) st store) j
        cell j true f =
            let kept = value_stable (register st' j) (register st j) (λ differ.
            let out : Touched q.unit j → ⊥ = λ c. differ (sym (h.agree.same j c)) in
            differ (h.right.same j out ∙ (sym (picked_same (key_cells joint effects (node_of joint side q.unit)) q.store store j n m k f) ∙ sym (h.left.same j out)))) in
            kept ∙ sym (blend_set (key_cells joint effects (node_of joint side q.unit)) st store j (h.left.long ∙ n) m f)
        cell j false f =
            let out : Touched q.unit j → ⊥ = λ c. clash (flag (key_cells joint effects (node_of joint side q.unit)) j) (key_flag q.unit j c) f in
            h.right.same j out ∙ sym (blend_clear (key_cells joint effects (node_of joint side q.unit)) st store j (h.left.long ∙ n) m f)

    pub framed : (d : ℕ) (q : Request) (store : List Value) (e : End) → IsInput joint side q → IsInput joint side (at_store q store) → pick (key_cells joint effects (node_of joint side q.unit)) q.store ≡ pick (key_cells joint effects (node_of joint side q.unit)) store → run (core_of joint side) d q ≡ Some e → run (core_of joint side) d (at_store q store) ≡ Some (end_at (key_cells joint effects (node_of joint side q.unit)) store (answer_of (key_cells joint effects (node_of joint side q.unit)) e))
    framed d q store e i i' k r =
        let n = key_length q.unit q.store (shapes_length (table joint) (IsFree joint (node_of joint side q.unit)) (store_shapes (table joint)) q.store i.cells) in
        let m = key_length q.unit store (shapes_length (table joint) (IsFree joint (node_of joint side q.unit)) (store_shapes (table joint)) store i'.cells) in
        let agree : Agree (Touched q.unit) q.store store = record { long = n ∙ sym m; same = λ j c. picked_same (key_cells joint effects (node_of joint side q.unit)) q.store store j n m k (key_flag q.unit j c) } in
        let x = frame_at d q store e i agree r in
        x.1 ∙ ap Some (moved_end q store e x.0 n m k x.2)
