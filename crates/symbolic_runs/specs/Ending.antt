-- The end that exits make together: a literal for each trap, and the results and the cells of the exit that is taken.
use Rattle.std.specs.Prelude.{◌≡◌, Bool, true, false, List, [], ◌∷◌, map, Option, Some, None}
use Rattle.std.specs.List.{AllByRecursion}
use Rattle.aig_build.specs.Circuits.{Node, IsCircuit, Grows, constant}
use Rattle.aig_build.specs.declared.lits.Lit.{Lit}
use Rattle.bit_ops.specs.declared.values.SymValue.{SymValue}
use Rattle.bit_words.specs.Words.{AreThere}
use Rattle.core_ir.specs.Cells.{store_shapes, blend}
use Rattle.core_ir.specs.Joint.{table}
use Rattle.core_ir.specs.Meaning.{End, Trapped, Answers, does, setting_of, entered, unit_run, unit_end, owned_cells}
use Rattle.core_ir.specs.Nodes.{goes_on}
use Rattle.rvt_num.specs.declared.values.Trap.{Trap}
use Rattle.rvt_num.specs.declared.values.Value.{Value}
use Rattle.sym_store.specs.Merging.{merged_values}
use Rattle.sym_store.specs.Stores.{LitStore}
use Rattle.sym_values.specs.Valuations.{Valuation, IsValuation}
use Rattle.sym_values.specs.Values.{values_under, all_lits, AreLaid}
use Rattle.uf_abstraction.specs.Applications.{first_trap}
use Rattle.symbolic_runs.specs.Keeping.{Layout, IsLitThere, IsWorldKept, IsStoreKept, IsExitKept, IsCallKept}
use Rattle.symbolic_runs.specs.Runs.{World, SymState, How, Traps, Stops, Exit, GuardedCall, SymRun}
use Rattle.symbolic_runs.specs.Simulation.{Seen, objects_of, Holds, Stand, end_if, exits_under, calls_under, as_made, Subject, layout, sees, objects_in, IsRunOf}

-- an end made of literals: it is the first trap whose literal is true, and where there is none it returns the results and the cells
pub record LitEnd : Type 0 where
  pub traps : List (Trap × Lit)
  pub results : List SymValue
  pub cells : List SymValue

abbrev pub trap_end : Option Trap → Option End → Option End
trap_end None e = e
trap_end (Some t) e = Some (Trapped t)

abbrev pub end_under : Valuation → LitEnd → Option End
end_under v e = trap_end (first_trap v e.traps) (end_if (values_under v e.results) (values_under v e.cells))

-- ---- all exits together

pub record MadeEnd : Type 0 where
  pub nodes : List Node
  pub end : LitEnd

-- these results and cells where the guard is true, else those of the end
abbrev pub with_stop : Lit → List SymValue → List SymValue → MadeEnd → MadeEnd
with_stop guard results cells m =
    let r = merged_values m.nodes guard results m.end.results in
    let s = merged_values r.nodes guard cells m.end.cells in
    record { nodes = s.nodes; end = record { traps = m.end.traps; results = r.values; cells = s.values } }

abbrev pub with_trap : Trap → Lit → MadeEnd → MadeEnd
with_trap t guard m =
    record { nodes = m.nodes; end = record { traps = (t, guard) ∷ m.end.traps; results = m.end.results; cells = m.end.cells } }

abbrev pub with_exit : Lit → How → MadeEnd → MadeEnd
with_exit guard (Traps t) m = with_trap t guard m
with_exit guard (Stops results cells) m = with_stop guard results cells m

-- from values that stand where no exit is taken; the last exit first
abbrev pub end_built : List Node → List Exit → List SymValue → List SymValue → MadeEnd
end_built ns [] results cells = record { nodes = ns; end = record { traps = []; results = results; cells = cells } }
end_built ns (x ∷ xs) results cells = with_exit x.guard x.how (end_built ns xs results cells)

pub record IsEndKept (l : Layout) (ns : List Node) (e : LitEnd) : Type 0 where
  pub traps : AllByRecursion (λ t. IsLitThere ns t.1) e.traps
  pub results : AreLaid l.results e.results
  pub cells : AreLaid l.cells e.cells
  pub results_there : AreThere ns (all_lits e.results)
  pub cells_there : AreThere ns (all_lits e.cells)

-- wherever one exit is taken, it is the end
pub record IsEndOf (v : Valuation) (l : Layout) (ns : List Node) (exits : List Exit) (m : MadeEnd) : Type 0 where
  pub circuit : IsCircuit m.nodes
  pub grows : Grows ns m.nodes
  pub kept : IsEndKept l m.nodes m.end
  pub back : IsValuation m.nodes v → IsValuation ns v
  pub is : IsValuation m.nodes v → (x : End) → exits_under v exits ≡ Some x ∷ [] → end_under v m.end ≡ Some x

abbrev pub EndLaw : Type 0
EndLaw = (v : Valuation) (l : Layout) (ns : List Node) (exits : List Exit) (results cells : List SymValue)
    → IsCircuit ns → AreLaid l.results results → AreLaid l.cells cells → AreThere ns (all_lits results) → AreThere ns (all_lits cells)
    → AllByRecursion (IsExitKept l ns) exits
    → IsEndOf v l ns exits (end_built ns exits results cells)

-- ---- a unit

-- the cells that a unit owns are as they were before it
abbrev pub with_owned : List Bool → List SymValue → LitEnd → LitEnd
with_owned owned before e = record { traps = e.traps; results = e.results; cells = blend owned before e.cells }

pub record Executed : Type 0 where
  pub world : World
  pub end : LitEnd
  pub calls : List GuardedCall

-- from the run of a unit's body: the cells that it started with stand where it doesn't end, and so do these results
abbrev pub executed : List Bool → SymRun → LitStore → List SymValue → List SymValue → Executed
executed owned o start before results =
    let e = end_built o.world.nodes o.exits results start.cells in
    record {
      world = record { nodes = e.nodes; applied = o.world.applied };
      end = with_owned owned before e.end;
      calls = o.calls;
    }

-- the beginning of a run, which goes on whatever the assignment
abbrev pub at_start : LitStore → SymState
at_start s = record { live = constant true; store = s }

-- its end and its calls are those of the unit's run
pub record IsSymEnd (seen : Seen) (args store : List Value) (m : Executed) : Type 0 where
  pub end : end_under seen.v m.end ≡ unit_end (objects_of seen) seen.answers (Some seen.unit) args store
  pub calls : calls_under seen.v m.calls ≡ map (as_made seen) (unit_run (objects_of seen) seen.answers (Some seen.unit) args store).calls

pub record IsUnitRun (x : Subject) (w : World) (start : LitStore) (before : List SymValue) (m : Executed) : Type 0 where
  pub grows : Grows w.nodes m.world.nodes
  pub world : IsWorldKept (layout x) m.world
  pub end : IsEndKept (layout x) m.world.nodes m.end
  pub calls : AllByRecursion (IsCallKept (layout x) m.world.nodes) m.calls
  pub back : (answers : Answers) (v : Valuation) → Holds (sees x answers v) m.world → Holds (sees x answers v) w
  pub is : (answers : Answers) (v : Valuation) (args store : List Value) → Holds (sees x answers v) m.world → Stand (sees x answers v) start (entered (objects_in x) x.unit args store) → values_under v before ≡ Some store → IsSymEnd (sees x answers v) args store m

-- a run of a unit's body from its entry, with the mutable cells that there were before it
abbrev pub UnitRule : Type 0
UnitRule = (x : Subject) (w : World) (start : LitStore) (before results : List SymValue) (o : SymRun)
    → goes_on x.unit.body ≡ false
    → IsWorldKept (layout x) w → IsStoreKept (layout x) w.nodes start
    → AreLaid (store_shapes (table x.joint)) before → AreThere w.nodes (all_lits before)
    → AreLaid x.unit.results results → AreThere w.nodes (all_lits results)
    → IsRunOf x w (at_start start) (λ answers. does (setting_of (objects_in x) x.unit) answers x.unit.body) o
    → IsUnitRun x w start before (executed (owned_cells (objects_in x) x.unit) o start before results)
