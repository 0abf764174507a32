-- The symbolic run of a unit, from its entry to its return.
use Rattle.std.proofs.Common.{◌≡◌, Bool, true, false, not, List, [], ◌∷◌, map, Option, Some, None, refl, sym, ap, ◌∙◌, subst}
use Rattle.std.proofs.lemmas.Option.{none-some, same_Some}
use Rattle.aig_build.proofs.Nodes.{Grows-trans}
use Rattle.aig_build.specs.Circuits.{Node, constant}
use Rattle.bit_ops.specs.declared.values.SymValue.{SymValue}
use Rattle.bit_words.proofs.ConvertValues.{AreThere-append}
use Rattle.bit_words.proofs.RippleCarry.{AreThere-later}
use Rattle.bit_words.specs.Words.{AreThere}
use Rattle.core_ir.proofs.Bodies.{stays}
use Rattle.core_ir.specs.Cells.{blend}
use Rattle.core_ir.specs.Meaning.{End, Trapped, Answers, Flow, Goes, Over, Waits, Run, does, entered, put_back, owned_cells, unit_end, flow_end, option_end}
use Rattle.core_ir.specs.Nodes.{goes_on}
use Rattle.core_ir.specs.declared.units.Shape.{Shape}
use Rattle.rvt_num.specs.declared.values.Trap.{Trap}
use Rattle.rvt_num.specs.declared.values.Value.{Value}
use Rattle.sym_store.specs.Stores.{LitStore}
use Rattle.sym_values.specs.Valuations.{Valuation}
use Rattle.sym_values.specs.Values.{value_under, both_stand, values_under, lits_of, all_lits, AreLaid}
use Rattle.symbolic_runs.proofs.Joined.{ending}
use Rattle.symbolic_runs.proofs.Keeping.{world_later, calls_later}
use Rattle.symbolic_runs.proofs.Merged.{there_front, there_back}
use Rattle.symbolic_runs.specs.Ending.{LitEnd, trap_end, end_under, end_built, IsEndOf, with_owned, at_start, UnitRule}
use Rattle.symbolic_runs.specs.Runs.{World, SymRun}
use Rattle.symbolic_runs.specs.Simulation.{Seen, at_unit, Holds, Stand, end_if, exits_under, calls_under, as_made, FlowIs, Simulates, Subject, layout, sees, objects_in}
use Rattle.uf_abstraction.specs.Applications.{first_trap}

-- ---- cells that are put back

module _ (v : Valuation) where
  record Parts (first : Option Value) (rest : Option (List Value)) (values : List Value) : Type 0 where
    head : Value
    tail : List Value
    are : head ∷ tail ≡ values
    of_head : first ≡ Some head
    of_tail : rest ≡ Some tail

  parts : (a : Option Value) (b : Option (List Value)) (values : List Value) → both_stand a b ≡ Some values → Parts a b values
  parts None b values e = absurd (none-some _ e)
  parts (Some x) None values e = absurd (none-some _ e)
  parts (Some x) (Some xs) values e = record { head = x; tail = xs; are = same_Some _ _ e; of_head = refl; of_tail = refl }

  blended : (shapes : List Shape) (mask : List Bool) (xs ys : List SymValue) (vs ws : List Value) → AreLaid shapes xs → AreLaid shapes ys → values_under v xs ≡ Some vs → values_under v ys ≡ Some ws → values_under v (blend mask xs ys) ≡ Some (blend mask vs ws)
  blended shapes [] xs ys vs ws p q e f = f
  blended [] (b ∷ bs) [] [] vs ws p q e f =
      subst (λ us. Some [] ≡ Some (blend (b ∷ bs) vs us)) (same_Some _ _ f) refl
  blended [] (b ∷ bs) (x ∷ xs) ys vs ws p q e f = absurd p
  blended [] (b ∷ bs) [] (y ∷ ys) vs ws p q e f = absurd q
  blended (s ∷ ss) (b ∷ bs) [] ys vs ws p q e f = absurd p
  blended (s ∷ ss) (b ∷ bs) (x ∷ xs) [] vs ws p q e f = absurd q
  blended (s ∷ ss) (true ∷ bs) (x ∷ xs) (y ∷ ys) vs ws p q e f =
      let one = parts (value_under v x) (values_under v xs) vs e in
      let two = parts (value_under v y) (values_under v ys) ws f in
      let rest = blended ss bs xs ys one.tail two.tail p.1 q.1 one.of_tail two.of_tail in
      subst (λ us. both_stand (value_under v x) (values_under v (blend bs xs ys)) ≡ Some (blend (true ∷ bs) us ws)) one.are
      (subst (λ us. both_stand (value_under v x) (values_under v (blend bs xs ys)) ≡ Some (blend (true ∷ bs) (one.head ∷ one.tail) us)) two.are
      (λ i. both_stand (one.of_head i) (rest i)))
  blended (s ∷ ss) (false ∷ bs) (x ∷ xs) (y ∷ ys) vs ws p q e f =
      let one = parts (value_under v x) (values_under v xs) vs e in
      let two = parts (value_under v y) (values_under v ys) ws f in
      let rest = blended ss bs xs ys one.tail two.tail p.1 q.1 one.of_tail two.of_tail in
      subst (λ us. both_stand (value_under v y) (values_under v (blend bs xs ys)) ≡ Some (blend (false ∷ bs) us ws)) one.are
      (subst (λ us. both_stand (value_under v y) (values_under v (blend bs xs ys)) ≡ Some (blend (false ∷ bs) (one.head ∷ one.tail) us)) two.are
      (λ i. both_stand (two.of_head i) (rest i)))

  owned_by : (shapes : List Shape) (mask : List Bool) (before cells : List SymValue) (store : List Value) → AreLaid shapes before → AreLaid shapes cells → values_under v before ≡ Some store → (t : Option Trap) (r c : Option (List Value)) (x : End) → values_under v cells ≡ c → trap_end t (end_if r c) ≡ Some x → trap_end t (end_if r (values_under v (blend mask before cells))) ≡ Some (put_back mask store x)
  owned_by shapes mask before cells store p q e (Some t) r c x f h = subst (λ y. Some (Trapped t) ≡ Some (put_back mask store y)) (same_Some _ _ h) refl
  owned_by shapes mask before cells store p q e None None c x f h = absurd (none-some _ h)
  owned_by shapes mask before cells store p q e None (Some r) None x f h = absurd (none-some _ h)
  owned_by shapes mask before cells store p q e None (Some r) (Some c) x f h =
      subst (λ y. end_if (Some r) (values_under v (blend mask before cells)) ≡ Some (put_back mask store y)) (same_Some _ _ h)
      (ap (λ o. end_if (Some r) o) (blended shapes mask before cells store c p q e f))

  owned_is : (shapes : List Shape) (mask : List Bool) (before : List SymValue) (store : List Value) (e : LitEnd) (x : End) → AreLaid shapes before → AreLaid shapes e.cells → values_under v before ≡ Some store → end_under v e ≡ Some x → end_under v (with_owned mask before e) ≡ Some (put_back mask store x)
  owned_is shapes mask before store e x p q h k = owned_by shapes mask before e.cells store p q h (first_trap v e.traps) (values_under v e.results) (values_under v e.cells) x refl k

blend_laid : (shapes : List Shape) (mask : List Bool) (xs ys : List SymValue) → AreLaid shapes xs → AreLaid shapes ys → AreLaid shapes (blend mask xs ys)
blend_laid shapes [] xs ys p q = q
blend_laid [] (b ∷ bs) [] [] p q = tt
blend_laid [] (b ∷ bs) (x ∷ xs) ys p q = absurd p
blend_laid [] (b ∷ bs) [] (y ∷ ys) p q = absurd q
blend_laid (s ∷ ss) (b ∷ bs) [] ys p q = absurd p
blend_laid (s ∷ ss) (b ∷ bs) (x ∷ xs) [] p q = absurd q
blend_laid (s ∷ ss) (true ∷ bs) (x ∷ xs) (y ∷ ys) p q = (p.0, blend_laid ss bs xs ys p.1 q.1)
blend_laid (s ∷ ss) (false ∷ bs) (x ∷ xs) (y ∷ ys) p q = (q.0, blend_laid ss bs xs ys p.1 q.1)

blend_there : (ns : List Node) (shapes : List Shape) (mask : List Bool) (xs ys : List SymValue) → AreLaid shapes xs → AreLaid shapes ys → AreThere ns (all_lits xs) → AreThere ns (all_lits ys) → AreThere ns (all_lits (blend mask xs ys))
blend_there ns shapes [] xs ys p q t u = u
blend_there ns [] (b ∷ bs) [] [] p q t u = tt
blend_there ns [] (b ∷ bs) (x ∷ xs) ys p q t u = absurd p
blend_there ns [] (b ∷ bs) [] (y ∷ ys) p q t u = absurd q
blend_there ns (s ∷ ss) (b ∷ bs) [] ys p q t u = absurd p
blend_there ns (s ∷ ss) (b ∷ bs) (x ∷ xs) [] p q t u = absurd q
blend_there ns (s ∷ ss) (true ∷ bs) (x ∷ xs) (y ∷ ys) p q t u =
    AreThere-append ns (lits_of x) (all_lits (blend bs xs ys)) (there_front ns (lits_of x) (all_lits xs) t)
    (blend_there ns ss bs xs ys p.1 q.1 (there_back ns (lits_of x) (all_lits xs) t) (there_back ns (lits_of y) (all_lits ys) u))
blend_there ns (s ∷ ss) (false ∷ bs) (x ∷ xs) (y ∷ ys) p q t u =
    AreThere-append ns (lits_of y) (all_lits (blend bs xs ys)) (there_front ns (lits_of y) (all_lits ys) u)
    (blend_there ns ss bs xs ys p.1 q.1 (there_back ns (lits_of x) (all_lits xs) t) (there_back ns (lits_of y) (all_lits ys) u))

-- ---- a unit

module _ (x : Subject) (answers : Answers) (v : Valuation) (args store : List Value) (o : SymRun) (ends : goes_on x.unit.body ≡ false) where
  abbrev seen : Seen
  seen = sees x answers v

  abbrev the_run : Run
  the_run = does (at_unit seen) answers x.unit.body (entered (objects_in x) x.unit args store)

  -- a unit's body takes one exit, which is its end, and makes the calls of its run
  record IsBodyRun : Type 0 where
    end : End
    one_exit : exits_under v o.exits ≡ Some end ∷ []
    is_end : unit_end (objects_in x) answers (Some x.unit) args store ≡ Some (put_back (owned_cells (objects_in x) x.unit) store end)
    calls : calls_under v o.calls ≡ map (as_made seen) the_run.calls

  by_flow : (f : Flow) → the_run.flow ≡ f → calls_under v o.calls ≡ map (as_made seen) the_run.calls → FlowIs seen o f → IsBodyRun
  by_flow (Goes c) e k h = absurd (stays (at_unit seen) answers x.unit.body ends (entered (objects_in x) x.unit args store) c e)
  by_flow (Over e) f k h = record {
    end = e;
    one_exit = h.1;
    is_end = ap (λ f. option_end (put_back (owned_cells (objects_in x) x.unit) store) (flow_end f)) f;
    calls = k;
  }
  by_flow Waits e k h = absurd h

  body_run : (w : World) (start : LitStore) → Simulates seen w (at_start start) o (does (at_unit seen) answers x.unit.body) → Holds seen o.world → Stand seen start (entered (objects_in x) x.unit args store) → IsBodyRun
  body_run w start sims h st =
      let valued = (sims.back h).valued in
      let is_live : v (constant true) ≡ true = valued.of_opposite (constant false) ∙ ap not valued.of_constant in
      let m = sims.alive h (entered (objects_in x) x.unit args store) is_live st in
      by_flow the_run.flow refl m.calls m.flow

pub unit : UnitRule
unit x w start before results o ends k s p t q u run =
    let l = layout x in
    let mask = owned_cells (objects_in x) x.unit in
    let here = o.world.nodes in
    let e = end_built here o.exits results start.cells in
    let joined : (v : Valuation) → IsEndOf v l here o.exits e = λ v. ending v l here o.exits results start.cells run.kept.world.circuit q s.laid.of_cells (AreThere-later w.nodes here _ run.kept.grows u) (AreThere-later w.nodes here _ run.kept.grows s.there.cells) run.kept.exits in
    let some = joined (λ b. false) in
    let grows = Grows-trans w.nodes here e.nodes run.kept.grows some.grows in
    let from : (answers : Answers) (v : Valuation) → Holds (sees x answers v) (record { nodes = e.nodes; applied = o.world.applied }) → Holds (sees x answers v) o.world = λ answers v h. record { valued = (joined v).back h.valued; answer = h.answer } in
    record {
      grows = grows;
      world = world_later l o.world e.nodes run.kept.world some.circuit some.grows;
      end = record {
        traps = some.kept.traps;
        results = some.kept.results;
        cells = blend_laid l.cells mask before e.end.cells p some.kept.cells;
        results_there = some.kept.results_there;
        cells_there = blend_there e.nodes l.cells mask before e.end.cells p some.kept.cells (AreThere-later w.nodes e.nodes _ grows t) some.kept.cells_there;
      };
      calls = calls_later l here e.nodes some.grows o.calls run.kept.calls;
      back = λ answers v h. (run.is answers v).back (from answers v h);
      is = λ answers v args store h st f.
          let d = body_run x answers v args store o ends w start (run.is answers v) (from answers v h) st in
          record {
            end = owned_is v l.cells mask before store e.end d.end p some.kept.cells f ((joined v).is h.valued d.end d.one_exit) ∙ sym d.is_end;
            calls = d.calls;
          };
    }
