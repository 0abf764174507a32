-- A unit that is run by its steps.
use Rattle.std.proofs.Common.{◌≡◌, ◌/◌, ◌%◌, ℕ, zero, suc, Bool, true, false, List, [], ◌∷◌, length, refl, sym, ap, ◌∙◌, subst}
use Rattle.std.specs.Prelude.{◌==◌, map, pos}
use Rattle.std.specs.List.{AllByRecursion}
use Rattle.aig_build.specs.Circuits.{Node, IsCircuit}
use Rattle.bit_ops.specs.declared.values.SymValue.{SymValue}
use Rattle.bit_words.proofs.ConvertValues.{AreThere-append}
use Rattle.bit_words.proofs.RippleCarry.{AreThere-later}
use Rattle.bit_words.specs.Words.{AreThere}
use Rattle.aig_build.specs.declared.lits.Lit.{Lit}
use Rattle.core_ir.specs.Cells.{blend, store_shapes}
use Rattle.core_ir.specs.Joint.{table}
use Rattle.core_ir.specs.Meaning.{owned_cells}
use Rattle.core_ir.specs.Nodes.{goes_on}
use Rattle.core_ir.specs.declared.units.Shape.{Shape}
use Rattle.core_ir.specs.declared.units.Shape.TheVariants as shape
use Rattle.core_ir.specs.declared.units.Unit.{Unit}
use Rattle.rvt_num.specs.Kinds.{width}
use Rattle.rvt_num.specs.Wrapping.{bits_of}
use Rattle.rvt_num.specs.declared.kinds.Kind.TheVariants.{U32}
use Rattle.rvt_num.specs.declared.values.Trap.{Trap}
use Rattle.uf_abstraction.specs.Applications.{Application}
use Rattle.sym_constants.proofs.Bits.{zero_is}
use Rattle.sym_constants.specs.Constants.{number_lits, zero_value}
use Rattle.sym_exec.specs.Ends.{begun, AreOfOneLayout}
use Rattle.sym_exec.specs.Steps.{IsUnderWay}
use Rattle.sym_exec.specs.declared.ends.Values.{Values}
use Rattle.sym_paths.specs.Going.{world, GoesOn, done_by}
use Rattle.sym_paths.specs.Runs.{LitRun}
use Rattle.sym_store.specs.Stores.{LitStore}
use Rattle.sym_values.specs.Values.{lits_of, all_lits, AreLaid}
use Rattle.symbolic_runs.proofs.Joined.{ending}
use Rattle.symbolic_runs.proofs.Keeping.{lit_zero}
use Rattle.symbolic_runs.proofs.Units.{unit}
use Rattle.symbolic_runs.specs.Ending.{MadeEnd, IsUnitRun, end_built, with_owned}
use Rattle.symbolic_runs.specs.Keeping.{IsWorldKept, IsStoreKept, IsExitKept}
use Rattle.symbolic_runs.specs.Runs.{World, SymRun, Exit, GuardedCall}
use Rattle.symbolic_runs.specs.Simulation.{Subject, layout, objects_in}

-- ---- zeros

lits_there : (ns : List Node) (w n : ℕ) → IsCircuit ns → AreThere ns (number_lits w n)
lits_there ns zero n c = tt
lits_there ns (suc w) n c = (lit_zero ns (n % 2 == 1) c, lits_there ns w (n / 2) c)

zero_there : (ns : List Node) (s : Shape) → IsCircuit ns → AreThere ns (lits_of (zero_value s))
zero_there ns (shape.Word k) c = lits_there ns (width k) (bits_of (record { kind = k; value = pos 0 })) c
zero_there ns (shape.Pointer type to_const) c = AreThere-append ns (number_lits (width U32) 0) (number_lits (width U32) 0) (lits_there ns (width U32) 0 c) (lits_there ns (width U32) 0 c)

pub zeros_there : (ns : List Node) (shapes : List Shape) → IsCircuit ns → AreThere ns (all_lits (map zero_value shapes))
zeros_there ns [] c = tt
zeros_there ns (s ∷ ss) c = AreThere-append ns (lits_of (zero_value s)) (all_lits (map zero_value ss)) (zero_there ns s c) (zeros_there ns ss c)

pub zeros_laid : (shapes : List Shape) → AreLaid shapes (map zero_value shapes)
zeros_laid [] = tt
zeros_laid (s ∷ ss) = (zero_is.laid s, zeros_laid ss)

laid_long : (shapes : List Shape) (xs : List SymValue) → AreLaid shapes xs → length xs ≡ length shapes
laid_long [] [] h = refl
laid_long [] (x ∷ xs) h = absurd h
laid_long (s ∷ ss) [] h = absurd h
laid_long (s ∷ ss) (x ∷ xs) h = ap suc (laid_long ss xs h.1)

-- ---- the run of a unit

-- it is under way
pub begins : (x : Subject) (w : World) (start : LitStore) (from : LitRun) → from ≡ begun start → IsWorldKept (layout x) w → IsStoreKept (layout x) w.nodes start → IsUnderWay x w from
begins x w start from e k s =
    subst (λ (z : LitRun). IsUnderWay x w z) (sym e) (record { world = k; state = record { live = lit_zero w.nodes true k.circuit; store = s } })

-- the walk over the body, from its beginning
pub ran : (x : Subject) (w v : World) (start : LitStore) (from r : LitRun) (u : Unit) → u ≡ x.unit → from ≡ begun start → GoesOn x (done_by x u.body) w from v r → GoesOn x (done_by x x.unit.body) w (begun start) v r
ran x w v start from r u e f h =
    subst (λ (z : LitRun). GoesOn x (done_by x x.unit.body) w z v r) f (subst (λ (y : Unit). GoesOn x (done_by x y.body) w from v r) e h)

module _ (x : Subject) (w v : World) (start : LitStore) (r : LitRun) (h : GoesOn x (done_by x x.unit.body) w (begun start) v r) where
  exits_kept : AllByRecursion (IsExitKept (layout x) v.nodes) r.exits
  exits_kept = subst (AllByRecursion (IsExitKept (layout x) v.nodes)) (sym h.exits_are) h.is.kept.exits

  -- its exits are of one layout with what stands where none is taken
  pub exits_laid : (values : Values) → IsWorldKept (layout x) w → IsStoreKept (layout x) w.nodes start → values.results.items ≡ map zero_value x.unit.results → values.cells.items ≡ start.cells → AreOfOneLayout v.nodes r.exits values
  exits_laid values k s e f = record {
    layout = layout x;
    circuit = h.is.kept.world.circuit;
    exits = exits_kept;
    results = subst (λ l. AreLaid x.unit.results l) (sym e) (zeros_laid x.unit.results);
    cells = subst (λ l. AreLaid (store_shapes (table x.joint)) l) (sym f) s.laid.of_cells;
    results_there = subst (λ l. AreThere v.nodes (all_lits l)) (sym e) (zeros_there v.nodes x.unit.results h.is.kept.world.circuit);
    cells_there = subst (λ l. AreThere v.nodes (all_lits l)) (sym f) (AreThere-later w.nodes v.nodes (all_lits start.cells) h.is.kept.grows s.there.cells);
  }

  module _ (before results cells : List SymValue) (made : MadeEnd) (k : IsWorldKept (layout x) w) (s : IsStoreKept (layout x) w.nodes start) (e : results ≡ map zero_value x.unit.results) (f : cells ≡ start.cells) (is : end_built v.nodes r.exits results cells ≡ made) where
    zeros_end : end_built v.nodes h.exits (map zero_value x.unit.results) start.cells ≡ made
    zeros_end =
        ap (λ (xs : List Exit). end_built v.nodes xs (map zero_value x.unit.results) start.cells) (sym h.exits_are)
        ∙ ap (λ l. end_built v.nodes r.exits l start.cells) (sym e)
        ∙ ap (λ l. end_built v.nodes r.exits results l) (sym f)
        ∙ is

    -- the cells of its end are as many as there were
    pub cells_long : AreLaid (store_shapes (table x.joint)) before → length made.end.cells ≡ length before
    cells_long b =
        let l = ending (λ _. false) (layout x) v.nodes h.exits (map zero_value x.unit.results) start.cells h.is.kept.world.circuit (zeros_laid x.unit.results) s.laid.of_cells (zeros_there v.nodes x.unit.results h.is.kept.world.circuit) (AreThere-later w.nodes v.nodes (all_lits start.cells) h.is.kept.grows s.there.cells) h.is.kept.exits in
        laid_long (store_shapes (table x.joint)) made.end.cells (subst (λ (m : MadeEnd). AreLaid (store_shapes (table x.joint)) m.end.cells) zeros_end l.kept.cells)
        ∙ sym (laid_long (store_shapes (table x.joint)) before b)

    pub unit_is_run : (owned : List Bool) → owned ≡ owned_cells (objects_in x) x.unit → goes_on x.unit.body ≡ false
        → AreLaid (store_shapes (table x.joint)) before → AreThere w.nodes (all_lits before)
        → IsUnitRun x w start before (record { world = world made.nodes v.applied; end = with_owned owned before made.end; calls = r.calls })
    unit_is_run owned o g b t =
        let run : SymRun = record { world = v; state = r.state; exits = h.exits; calls = h.calls } in
        let whole = unit x w start before (map zero_value x.unit.results) run g k s b t (zeros_laid x.unit.results) (zeros_there w.nodes x.unit.results k.circuit) h.is in
        let ended = subst (λ (m : MadeEnd). IsUnitRun x w start before (record { world = world m.nodes v.applied; end = with_owned (owned_cells (objects_in x) x.unit) before m.end; calls = h.calls })) zeros_end whole in
        let called = subst (λ (cs : List GuardedCall). IsUnitRun x w start before (record { world = world made.nodes v.applied; end = with_owned (owned_cells (objects_in x) x.unit) before made.end; calls = cs })) (sym h.calls_are) ended in
        subst (λ (m : List Bool). IsUnitRun x w start before (record { world = world made.nodes v.applied; end = with_owned m before made.end; calls = r.calls })) (sym o) called

-- the end after the owned cells are put back
pub finished : (x : Subject) (w : World) (start : LitStore) (before : List SymValue) (ns : List Node) (applied : List Application) (owned : List Bool) (traps : List (Trap × Lit)) (results left cells : List SymValue) (calls now : List GuardedCall)
    → cells ≡ blend owned before left → now ≡ calls
    → IsUnitRun x w start before (record { world = world ns applied; end = with_owned owned before (record { traps = traps; results = results; cells = left }); calls = calls })
    → IsUnitRun x w start before (record { world = world ns applied; end = record { traps = traps; results = results; cells = cells }; calls = now })
finished x w start before ns applied owned traps results left cells calls now e f h =
    subst (λ (cs : List GuardedCall). IsUnitRun x w start before (record { world = world ns applied; end = record { traps = traps; results = results; cells = cells }; calls = cs })) (sym f)
    (subst (λ (l : List SymValue). IsUnitRun x w start before (record { world = world ns applied; end = record { traps = traps; results = results; cells = l }; calls = calls })) (sym e) h)
