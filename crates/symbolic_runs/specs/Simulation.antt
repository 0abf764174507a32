-- What a symbolic run stands for under an assignment.
use Rattle.std.specs.Prelude.{◌≡◌, ℕ, Bool, true, false, cond, List, [], ◌∷◌, map, Option, Some, None}
use Rattle.core_ir.specs.Cells.{store_shapes}
use Rattle.core_ir.specs.Inputs.{HaveShapes}
use Rattle.core_ir.specs.Joint.{Side, core_of, table}
use Rattle.core_ir.specs.Meaning.{End, Trapped, Returned, Request, Answers, Flow, Goes, Over, Waits, Run, Step, Setting, setting_of}
use Rattle.core_ir.specs.Places.{State}
use Rattle.core_ir.specs.Tables.{EntryName, Effects, keyed, name_of}
use Rattle.core_ir.specs.declared.cores.CoreObject.{CoreObject}
use Rattle.core_ir.specs.declared.cores.JointCore.{JointCore}
use Rattle.core_ir.specs.declared.units.Shape.{Shape}
use Rattle.core_ir.specs.declared.units.Unit.{Unit}
use Rattle.rvt_num.specs.declared.values.Trap.{Trap}
use Rattle.rvt_num.specs.declared.values.Value.{Value}
use Rattle.sym_store.specs.Stores.{LitStore, StandsFor}
use Rattle.sym_values.specs.Valuations.{Valuation, IsValuation}
use Rattle.sym_values.specs.Values.{values_under}
use Rattle.uf_abstraction.specs.Applications.{LitShape, first_trap, flat_key, AnswerAll}
use Rattle.symbolic_runs.specs.Keeping.{Layout, IsRunKept, IsStepKept, IsCalledKept, IsTestKept}
use Rattle.symbolic_runs.specs.Runs.{World, SymState, How, Traps, Stops, Exit, GuardedCall, SymRun, Stepped, Called, MadeLit}

-- the run that is looked at: a unit, an assignment, and how calls are answered
pub record Seen : Type 0 where
  pub joint : JointCore
  pub effects : Effects
  pub shared : ℕ → Bool
  pub side : Side
  pub unit : Unit
  pub answers : Answers
  pub v : Valuation

abbrev pub objects_of : Seen → List CoreObject
objects_of seen = (core_of seen.joint seen.side).objects

abbrev pub at_unit : Seen → Setting
at_unit seen = setting_of (objects_of seen) seen.unit

-- the literals have the values of the circuit, and calls are answered as the applications say
pub record Holds (seen : Seen) (w : World) : Type 0 where
  pub valued : IsValuation w.nodes seen.v
  pub answer : AnswerAll seen.joint seen.effects seen.shared seen.side seen.v seen.answers w.applied

abbrev pub anywhere : ℕ → Type 0
anywhere o = Prim.Unit {0}

-- a state of the unit: each value has its shape
pub record IsProper (joint : JointCore) (unit : Unit) (c : State) : Type 0 where
  pub registers : HaveShapes (table joint) anywhere unit.registers c.registers
  pub store : HaveShapes (table joint) anywhere (store_shapes (table joint)) c.store

-- registers and cells stand for a state of the unit
pub record Stand (seen : Seen) (s : LitStore) (c : State) : Type 0 where
  pub stands : StandsFor seen.v s c
  pub proper : IsProper seen.joint seen.unit c

-- ---- exits and calls

abbrev pub end_if : Option (List Value) → Option (List Value) → Option End
end_if None store = None
end_if (Some results) None = None
end_if (Some results) (Some store) = Some (Returned results store)

abbrev pub how_under : Valuation → How → Option End
how_under v (Traps t) = Some (Trapped t)
how_under v (Stops results cells) = end_if (values_under v results) (values_under v cells)

-- the exits whose guards are true
abbrev pub exits_under : Valuation → List Exit → List (Option End)
exits_under v [] = []
exits_under v (x ∷ xs) = cond (v x.guard) (how_under v x.how ∷ exits_under v xs) (exits_under v xs)

pub record NamedKey : Type 0 where
  pub name : EntryName
  pub key : Option (List Value)

-- the calls whose guards are true
abbrev pub calls_under : Valuation → List GuardedCall → List NamedKey
calls_under v [] = []
calls_under v (x ∷ xs) = cond (v x.guard) (record { name = x.name; key = values_under v x.key } ∷ calls_under v xs) (calls_under v xs)

-- a call of a run, by its name and its key
abbrev pub as_made : Seen → Request → NamedKey
as_made seen q =
    record {
      name = name_of seen.joint seen.shared seen.side q.unit;
      key = Some (flat_key (keyed seen.joint seen.effects seen.shared seen.side q));
    }

-- ---- what a stretch of code stands for

-- where the run goes on, no exit is taken and the state is that of the run; where it has ended, one exit is taken, and it is the end
abbrev pub FlowIs : Seen → SymRun → Flow → Type 0
FlowIs seen o (Goes c) = (seen.v o.state.live ≡ true) × (exits_under seen.v o.exits ≡ []) × Stand seen o.state.store c
FlowIs seen o (Over e) = (seen.v o.state.live ≡ false) × (exits_under seen.v o.exits ≡ Some e ∷ [])
FlowIs seen o Waits = ⊥

pub record Matches (seen : Seen) (o : SymRun) (r : Run) : Type 0 where
  pub calls : calls_under seen.v o.calls ≡ map (as_made seen) r.calls
  pub flow : FlowIs seen o r.flow

-- where the run doesn't come here, nothing is taken and nothing goes on
pub record IsDead (v : Valuation) (o : SymRun) : Type 0 where
  pub not_live : v o.state.live ≡ false
  pub no_exit : exits_under v o.exits ≡ []
  pub no_call : calls_under v o.calls ≡ []

pub record Simulates (seen : Seen) (w : World) (s : SymState) (o : SymRun) (g : Step) : Type 0 where
  pub back : Holds seen o.world → Holds seen w
  pub dead : Holds seen o.world → seen.v s.live ≡ false → IsDead seen.v o
  pub alive : Holds seen o.world → (c : State) → seen.v s.live ≡ true → Stand seen s.store c → Matches seen o (g c)

-- ---- steps of a run

abbrev pub StepFlow : Seen → Stepped → Flow → Type 0
StepFlow seen p (Goes c) = (first_trap seen.v p.traps ≡ None) × Stand seen p.store c
StepFlow seen p (Over e) = (t : Trap) × (first_trap seen.v p.traps ≡ Some t) × (e ≡ Trapped t)
StepFlow seen p Waits = ⊥

-- a step does what the unit's step does
pub record StepIs (seen : Seen) (w : World) (s : LitStore) (p : Stepped) (f : State → Flow) : Type 0 where
  pub back : Holds seen p.world → Holds seen w
  pub is : Holds seen p.world → (c : State) → Stand seen s c → StepFlow seen p (f c)

-- and a call is the one that the unit makes
pub record CallIs (seen : Seen) (w : World) (s : LitStore) (p : Called) (f : State → Flow) (q : State → Request) : Type 0 where
  pub step : StepIs seen w s p.step f
  pub made : (c : State) → Stand seen s c → ◌≡◌ {A = NamedKey} (record { name = p.name; key = values_under seen.v p.key }) (as_made seen (q c))

pub record TestIs (seen : Seen) (w : World) (s : LitStore) (m : MadeLit) (f : State → Bool) : Type 0 where
  pub back : Holds seen m.world → Holds seen w
  pub is : Holds seen m.world → (c : State) → Stand seen s c → seen.v m.lit ≡ f c

-- ---- whatever the assignment

-- what is run: a unit of a version, the effects of units and the shared pairs by which its calls are named, and the shapes of the
-- answers and of the keys of each name
pub record Subject : Type 0 where
  pub joint : JointCore
  pub effects : Effects
  pub shared : ℕ → Bool
  pub side : Side
  pub unit : Unit
  pub given : EntryName → LitShape
  pub keys : EntryName → List Shape

abbrev pub layout : Subject → Layout
layout x =
    record { registers = x.unit.registers; results = x.unit.results; cells = store_shapes (table x.joint); answers = x.given; keys = x.keys }

abbrev pub sees : Subject → Answers → Valuation → Seen
sees x answers v =
    record { joint = x.joint; effects = x.effects; shared = x.shared; side = x.side; unit = x.unit; answers = answers; v = v }

abbrev pub objects_in : Subject → List CoreObject
objects_in x = (core_of x.joint x.side).objects

-- a symbolic run of a stretch of code that does this
pub record IsRunOf (x : Subject) (w : World) (s : SymState) (g : Answers → Step) (o : SymRun) : Type 0 where
  pub kept : IsRunKept (layout x) w o
  pub is : (answers : Answers) (v : Valuation) → Simulates (sees x answers v) w s o (g answers)

-- a symbolic step
pub record IsStepOf (x : Subject) (w : World) (s : LitStore) (f : Answers → State → Flow) (p : Stepped) : Type 0 where
  pub kept : IsStepKept (layout x) w p
  pub is : (answers : Answers) (v : Valuation) → StepIs (sees x answers v) w s p (f answers)

-- a call with its answer
pub record IsCallOf (x : Subject) (w : World) (s : LitStore) (f : Answers → State → Flow) (q : State → Request) (p : Called) : Type 0 where
  pub kept : IsCalledKept (layout x) w p
  pub is : (answers : Answers) (v : Valuation) → CallIs (sees x answers v) w s p (f answers) q

-- a test
pub record IsTestOf (x : Subject) (w : World) (s : LitStore) (f : State → Bool) (m : MadeLit) : Type 0 where
  pub kept : IsTestKept (layout x) w m
  pub is : (answers : Answers) (v : Valuation) → TestIs (sees x answers v) w s m f
