-- What a symbolic run keeps, whatever the assignment: each value has the layout of its shape, and each literal stands in the circuit.
use Rattle.std.specs.Prelude.{◌<◌, List, length}
use Rattle.std.specs.List.{AllByRecursion}
use Rattle.aig_build.specs.Circuits.{Node, IsCircuit, Grows}
use Rattle.aig_build.specs.declared.lits.Lit.{Lit}
use Rattle.bit_words.specs.Words.{AreThere}
use Rattle.core_ir.specs.Tables.{EntryName}
use Rattle.core_ir.specs.declared.units.Shape.{Shape}
use Rattle.sym_store.specs.Stores.{LitStore, IsStoreThere, IsStoreLaid}
use Rattle.sym_values.specs.Values.{all_lits, AreLaid}
use Rattle.uf_abstraction.specs.Applications.{LitShape}
use Rattle.uf_abstraction.specs.Applying.{IsThere}
use Rattle.uf_abstraction.specs.Congruence.{IsLaidOut}
use Rattle.symbolic_runs.specs.Runs.{World, SymState, How, Traps, Stops, Exit, GuardedCall, SymRun, Stepped, Called, MadeLit}

-- the shapes of a unit's registers and results, of the mutable cells, and of the answers and the keys of each name
pub record Layout : Type 0 where
  pub registers : List Shape
  pub results : List Shape
  pub cells : List Shape
  pub answers : EntryName → LitShape
  pub keys : EntryName → List Shape

-- ---- one thing

abbrev pub IsLitThere : List Node → Lit → Type 0
IsLitThere ns l = l.node < length ns

pub record IsWorldKept (l : Layout) (w : World) : Type 0 where
  pub circuit : IsCircuit w.nodes
  pub laid_out : AllByRecursion (IsLaidOut l.answers l.keys) w.applied
  pub there : AllByRecursion (IsThere w.nodes) w.applied

pub record IsStoreKept (l : Layout) (ns : List Node) (s : LitStore) : Type 0 where
  pub laid : IsStoreLaid l.registers l.cells s
  pub there : IsStoreThere ns s

pub record IsStateKept (l : Layout) (ns : List Node) (s : SymState) : Type 0 where
  pub live : IsLitThere ns s.live
  pub store : IsStoreKept l ns s.store

abbrev pub HowIsKept : Layout → List Node → How → Type 0
HowIsKept l ns (Traps t) = Prim.Unit {0}
HowIsKept l ns (Stops results cells) = (AreLaid l.results results × AreThere ns (all_lits results)) × (AreLaid l.cells cells × AreThere ns (all_lits cells))

pub record IsExitKept (l : Layout) (ns : List Node) (x : Exit) : Type 0 where
  pub guard : IsLitThere ns x.guard
  pub how : HowIsKept l ns x.how

pub record IsCallKept (l : Layout) (ns : List Node) (c : GuardedCall) : Type 0 where
  pub guard : IsLitThere ns c.guard
  pub laid : AreLaid (l.keys c.name) c.key
  pub there : AreThere ns (all_lits c.key)

-- ---- a run

pub record IsRunKept (l : Layout) (w : World) (o : SymRun) : Type 0 where
  pub grows : Grows w.nodes o.world.nodes
  pub world : IsWorldKept l o.world
  pub state : IsStateKept l o.world.nodes o.state
  pub exits : AllByRecursion (IsExitKept l o.world.nodes) o.exits
  pub calls : AllByRecursion (IsCallKept l o.world.nodes) o.calls

-- ---- steps of a run

pub record IsStepKept (l : Layout) (w : World) (p : Stepped) : Type 0 where
  pub grows : Grows w.nodes p.world.nodes
  pub world : IsWorldKept l p.world
  pub store : IsStoreKept l p.world.nodes p.store
  pub traps : AllByRecursion (λ t. IsLitThere p.world.nodes t.1) p.traps

pub record IsCalledKept (l : Layout) (w : World) (c : Called) : Type 0 where
  pub step : IsStepKept l w c.step
  pub laid : AreLaid (l.keys c.name) c.key
  pub there : AreThere w.nodes (all_lits c.key)

pub record IsTestKept (l : Layout) (w : World) (m : MadeLit) : Type 0 where
  pub grows : Grows w.nodes m.world.nodes
  pub world : IsWorldKept l m.world
  pub lit : IsLitThere m.world.nodes m.lit
