-- A run so far goes on with a stretch of code.
use Rattle.std.specs.Prelude.{◌≡◌, ℕ, Bool, List, [], ◌∷◌, ◌++◌, map}
use Rattle.aig_build.specs.Circuits.{Node}
use Rattle.aig_build.specs.declared.lits.Lit.{Lit}
use Rattle.core_ir.specs.Fits.{AllGive}
use Rattle.core_ir.specs.Meaning.{Answers, Flow, Over, Trapped, Returned, Request, Step, quiet, in_order, choice, does, setting_of}
use Rattle.core_ir.specs.Places.{State, register}
use Rattle.core_ir.specs.declared.units.Code.{Code}
use Rattle.rvt_num.specs.declared.values.Trap.{Trap}
use Rattle.sym_paths.specs.Runs.{LitRun, with_call, with_live, with_state, with_traps, ended_run, joined_state, Branches}
use Rattle.sym_store.specs.Stores.{LitStore}
use Rattle.symbolic_runs.specs.Keeping.{IsWorldKept, IsStateKept}
use Rattle.symbolic_runs.specs.Runs.{World, Traps, Stops, Exit, GuardedCall, Stepped, chosen}
use Rattle.symbolic_runs.specs.Simulation.{Subject, layout, objects_in, IsRunOf, IsStepOf, IsCallOf, IsTestOf}
use Rattle.uf_abstraction.specs.Applications.{Application}

abbrev pub world : List Node → List Application → World
world ns applied = record { nodes = ns; applied = applied }

-- its exits and its calls are added to those that there were
pub record GoesOn (x : Subject) (g : Answers → Step) (w : World) (r : LitRun) (new : World) (t : LitRun) : Type 0 where
  pub exits : List Exit
  pub calls : List GuardedCall
  pub exits_are : t.exits ≡ r.exits ++ exits
  pub calls_are : t.calls ≡ r.calls ++ calls
  pub is : IsRunOf x w r.state g (record { world = new; state = t.state; exits = exits; calls = calls })

-- the same run, from another store
abbrev pub with_store : LitRun → LitStore → LitRun
with_store r store = with_state r (record { live = r.state.live; store = store })

-- ---- the forms of code

-- a step, whose traps may end the run
abbrev pub StepLaw : Type 0
StepLaw = (x : Subject) (w : World) (r : LitRun) (f : Answers → State → Flow) (p : Stepped) (last : List Node) (t : LitRun)
    → IsStateKept (layout x) w.nodes r.state → IsStepOf x w r.state.store f p
    → with_traps (record { nodes = p.world.nodes; run = with_store r p.store }) p.traps ≡ record { nodes = last; run = t }
    → GoesOn x (λ answers c. quiet (f answers c)) w r (world last p.world.applied) t

-- a call, whose traps may end the run
abbrev pub CallLaw : Type 0
CallLaw = (x : Subject) (w : World) (r : LitRun) (f : Answers → State → Flow) (q : State → Request) (call : GuardedCall) (p : Stepped) (last : List Node) (t : LitRun)
    → IsStateKept (layout x) w.nodes r.state → call.guard ≡ r.state.live
    → IsCallOf x w r.state.store f q (record { step = p; name = call.name; key = call.key })
    → with_traps (record { nodes = p.world.nodes; run = with_call (with_store r p.store) call }) p.traps ≡ record { nodes = last; run = t }
    → GoesOn x (λ answers c. record { calls = q c ∷ []; flow = f answers c }) w r (world last p.world.applied) t

-- two branches behind a test, which are joined
abbrev pub ChoiceLaw : Type 0
ChoiceLaw = (x : Subject) (w : World) (r : LitRun) (f : State → Bool) (tested : List Node) (test : Lit) (branched : List Node) (yes no : Lit) (ga gb : Answers → Step) (w1 w2 : World) (last : List Node) (r1 r2 t : LitRun)
    → IsStateKept (layout x) w.nodes r.state
    → IsTestOf x w r.state.store f (record { world = world tested w.applied; lit = test })
    → Branches tested r.state.live test branched yes no
    → GoesOn x ga (world branched w.applied) (with_live r yes) w1 r1
    → GoesOn x gb w1 (with_state r1 (record { live = no; store = r.state.store })) w2 r2
    → joined_state w2.nodes r1.state r2.state ≡ record { nodes = last; state = t.state }
    → t ≡ with_state r2 t.state
    → GoesOn x (λ answers c. choice (f c) (ga answers) (gb answers) c) w r (world last w2.applied) t

abbrev pub StopLaw : Type 0
StopLaw = (x : Subject) (w : World) (r : LitRun) (rs : List ℕ) (t : LitRun)
    → IsWorldKept (layout x) w → IsStateKept (layout x) w.nodes r.state → AllGive x.unit.registers rs x.unit.results
    → t ≡ ended_run r (Stops (chosen r.state.store.registers rs) r.state.store.cells)
    → GoesOn x (λ answers c. quiet (Over (Returned (map (register c.registers) rs) c.store))) w r w t

abbrev pub FailLaw : Type 0
FailLaw = (x : Subject) (w : World) (r : LitRun) (trap : Trap) (t : LitRun)
    → IsWorldKept (layout x) w → IsStateKept (layout x) w.nodes r.state
    → t ≡ ended_run r (Traps trap)
    → GoesOn x (λ answers c. quiet (Over (Trapped trap))) w r w t

-- ---- sequences

-- what code does
abbrev pub done_by : Subject → Code → Answers → Step
done_by x code answers = does (setting_of (objects_in x) x.unit) answers code

abbrev pub done_by_all : Subject → List Code → Answers → Step
done_by_all x codes answers = in_order (map (λ code. done_by x code answers) codes)

abbrev pub BeginLaw : Type 0
BeginLaw = (x : Subject) (w : World) (r : LitRun) → IsWorldKept (layout x) w → IsStateKept (layout x) w.nodes r.state → GoesOn x (done_by_all x []) w r w r

-- the first pieces of code, and then one more
abbrev pub MoreLaw : Type 0
MoreLaw = (x : Subject) (codes : List Code) (code : Code) (w w1 w2 : World) (r r1 r2 : LitRun)
    → GoesOn x (done_by_all x codes) w r w1 r1 → GoesOn x (done_by x code) w1 r1 w2 r2
    → GoesOn x (done_by_all x (codes ++ code ∷ [])) w r w2 r2
