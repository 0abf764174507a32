-- The steps of a unit, made of literals one by one, and a run that goes on with code.
use Rattle.std.specs.Prelude.{◌≡◌, ℕ, Bool, List, [], ◌∷◌}
use Rattle.std.specs.List.{AllByRecursion}
use Rattle.aig_build.specs.Circuits.{Node}
use Rattle.aig_build.specs.declared.lits.Lit.{Lit}
use Rattle.core_ir.specs.Fits.{NodeFits}
use Rattle.core_ir.specs.Meaning.{Answers, Flow, Step, choice, quiet, is_true, set_register, loaded, stored, answered, request_of}
use Rattle.core_ir.specs.Nodes.{CodeNode, nodes_in}
use Rattle.core_ir.specs.Operations.{value_of}
use Rattle.core_ir.specs.Places.{State, register, place_of}
use Rattle.core_ir.specs.declared.units.Code.{Code}
use Rattle.core_ir.specs.declared.units.CoreOp.{CoreOp}
use Rattle.core_ir.specs.declared.units.Spot.{Spot}
use Rattle.rvt_num.specs.declared.values.Trap.{Trap}
use Rattle.sym_paths.specs.Going.{world, GoesOn, done_by}
use Rattle.sym_paths.specs.Runs.{LitRun, with_live, Branches}
use Rattle.sym_store.specs.Stores.{LitStore}
use Rattle.symbolic_runs.specs.Keeping.{IsWorldKept, IsStateKept}
use Rattle.symbolic_runs.specs.Runs.{World, SymState}
use Rattle.symbolic_runs.specs.Simulation.{Subject, layout, objects_in, anywhere, IsStepOf, IsTestOf}
use Rattle.uf_abstraction.specs.Applications.{Application}

-- ---- the unit's code

-- a node of the body fits, whatever objects it names
abbrev pub NodeIsFit : Subject → CodeNode → Type 0
NodeIsFit x node = NodeFits x.joint x.side anywhere x.unit node

abbrev pub CodeIsFit : Subject → Code → Type 0
CodeIsFit x code = AllByRecursion (NodeIsFit x) (nodes_in code)

abbrev pub AllFit : Subject → List Code → Type 0
AllFit x codes = AllByRecursion (CodeIsFit x) codes

-- what a step of the meaning does: a register takes the value of an operation
abbrev pub sets : Subject → ℕ → CoreOp → Answers → State → Flow
sets x r op answers c = set_register c r (value_of (objects_in x) c.registers op)

-- a register takes what a place holds
abbrev pub loads : Subject → ℕ → Spot → Answers → State → Flow
loads x r spot answers c = loaded (objects_in x) c r (place_of (objects_in x) x.unit.registers c.registers spot)

-- a place takes what a register holds
abbrev pub stores : Subject → Spot → ℕ → Answers → State → Flow
stores x spot r answers c = stored (objects_in x) c (register c.registers r) (place_of (objects_in x) x.unit.registers c.registers spot)

-- registers take the results of a call
abbrev pub calls : ℕ → List ℕ → List ℕ → Answers → State → Flow
calls u ins outs answers c = answered c outs (answers (request_of c u ins))

-- a step without a call
abbrev pub quietly : (Answers → State → Flow) → Answers → Step
quietly f answers c = quiet (f answers c)

-- a call, with what it leads to
abbrev pub called_by : ℕ → List ℕ → List ℕ → Answers → Step
called_by u ins outs answers c = record { calls = request_of c u ins ∷ []; flow = calls u ins outs answers c }

-- a register isn't zero
abbrev pub is_set : ℕ → State → Bool
is_set r c = is_true (register c.registers r)

-- one of two pieces of code, by whether a register isn't zero
abbrev pub chooses : Subject → ℕ → Code → Code → Answers → Step
chooses x r first second answers c = choice (is_set r c) (done_by x first answers) (done_by x second answers) c

-- ---- steps made of literals, whatever the applications so far

abbrev pub MakesStep : Subject → (Answers → State → Flow) → List Node → LitStore → List Node → LitStore → List (Trap × Lit) → Type 0
MakesStep x f old s new t traps = (applied : List Application) → IsWorldKept (layout x) (world old applied)
    → IsStepOf x (world old applied) s f (record { world = world new applied; store = t; traps = traps })

abbrev pub MakesTest : Subject → (State → Bool) → List Node → LitStore → List Node → Lit → Type 0
MakesTest x f old s new lit = (applied : List Application) → IsWorldKept (layout x) (world old applied)
    → IsTestOf x (world old applied) s f (record { world = world new applied; lit = lit })

-- two branches begin, by whether a register isn't zero
pub record Parts (x : Subject) (r : ℕ) (old : List Node) (run : LitRun) (new : List Node) (first : LitRun) (second : SymState) : Type 0 where
  pub tested : List Node
  pub test : Lit
  pub tests : MakesTest x (is_set r) old run.state.store tested test
  pub branches : Branches tested run.state.live test new first.state.live second.live
  pub first_is : first ≡ with_live run first.state.live
  pub second_is : second.store ≡ run.state.store

-- ---- a run that goes on

-- whatever the assignment, the run may go on from here
pub record IsUnderWay (x : Subject) (w : World) (r : LitRun) : Type 0 where
  pub world : IsWorldKept (layout x) w
  pub state : IsStateKept (layout x) w.nodes r.state

-- it goes on, whatever the applications so far
abbrev pub GoesOnQuietly : Subject → (Answers → Step) → List Node → LitRun → List Node → LitRun → Type 0
GoesOnQuietly x g old r new t = (applied : List Application) → IsWorldKept (layout x) (world old applied) → GoesOn x g (world old applied) r (world new applied) t
