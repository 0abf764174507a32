-- The end of a unit, as contracts see it, and how it is made of exits one by one.
use Rattle.std.specs.Prelude.{List, [], ◌∷◌, ◌++◌, map}
use Rattle.std.specs.List.{AllByRecursion}
use Rattle.aig_build.specs.Circuits.{Node, IsCircuit}
use Rattle.aig_build.specs.declared.lits.Lit.{Lit}
use Rattle.bit_words.specs.Words.{AreThere}
use Rattle.rvt_num.specs.declared.values.Trap.{Trap}
use Rattle.sym_exec.specs.declared.ends.Values.{Values}
use Rattle.sym_exec.specs.declared.ends.SymEnd.{SymEnd}
use Rattle.sym_store.specs.Stores.{LitStore}
use Rattle.sym_values.specs.Values.{all_lits, AreLaid}
use Rattle.sym_paths.specs.Going.{world}
use Rattle.sym_paths.specs.Runs.{LitRun, call_of}
use Rattle.symbolic_runs.specs.Ending.{LitEnd, MadeEnd, Executed, at_start}
use Rattle.symbolic_runs.specs.Keeping.{Layout, IsExitKept}
use Rattle.symbolic_runs.specs.Runs.{How, Traps, Stops, Exit}
use Rattle.uf_abstraction.specs.Applications.{Application}

abbrev pub end_of : SymEnd → LitEnd
end_of e = record { traps = e.traps.items; results = e.values.results.items; cells = e.values.cells.items }

-- a run at its beginning
abbrev pub begun : LitStore → LitRun
begun start = record { state = at_start start; exits = []; calls = [] }

-- a unit that was run, as a contract sees it
abbrev pub executed_as : List Node → List Application → SymEnd → Executed
executed_as ns applied e = record { world = world ns applied; end = end_of e; calls = map call_of e.calls.items }

-- the trap of an exit, if it is one
abbrev pub trap_of : Lit → How → List (Trap × Lit)
trap_of guard (Traps t) = (t, guard) ∷ []
trap_of guard (Stops results cells) = []

abbrev pub traps_in : List Exit → List (Trap × Lit)
traps_in [] = []
traps_in (x ∷ xs) = trap_of x.guard x.how ++ traps_in xs

abbrev pub ended_so : List Node → List (Trap × Lit) → Values → MadeEnd
ended_so ns traps values = record { nodes = ns; end = record { traps = traps; results = values.results.items; cells = values.cells.items } }

-- exits, and values that stand where none of them is taken, of one layout
pub record AreOfOneLayout (ns : List Node) (xs : List Exit) (values : Values) : Type 0 where
  pub layout : Layout
  pub circuit : IsCircuit ns
  pub exits : AllByRecursion (IsExitKept layout ns) xs
  pub results : AreLaid layout.results values.results.items
  pub cells : AreLaid layout.cells values.cells.items
  pub results_there : AreThere ns (all_lits values.results.items)
  pub cells_there : AreThere ns (all_lits values.cells.items)
