-- How symbolic runs are put together: a rule for each form of code.
use Rattle.std.specs.Prelude.{ℕ, Bool, List, [], ◌∷◌, map}
use Rattle.core_ir.specs.Fits.{AllGive}
use Rattle.core_ir.specs.Meaning.{Trapped, Returned, Request, Answers, Flow, Over, Step, quiet, followed, in_order, choice}
use Rattle.core_ir.specs.Places.{State, register}
use Rattle.rvt_num.specs.declared.values.Trap.{Trap}
use Rattle.symbolic_runs.specs.Keeping.{IsWorldKept, IsStateKept, IsTestKept}
use Rattle.symbolic_runs.specs.Runs.{World, SymState, Traps, Stops, SymRun, Stepped, Called, MadeLit, stepped, called, after, stays, with_live, joined_at, yes_of, no_of, ended, chosen}
use Rattle.symbolic_runs.specs.Simulation.{Subject, layout, IsRunOf, IsStepOf, IsCallOf, IsTestOf}

-- what a sequence of nothing does
abbrev pub NothingRule : Type 0
NothingRule = (x : Subject) (w : World) (s : SymState) → IsWorldKept (layout x) w → IsStateKept (layout x) w.nodes s → IsRunOf x w s (λ answers. in_order []) (stays w s)

-- one stretch after another
abbrev pub SequenceRule : Type 0
SequenceRule = (x : Subject) (w : World) (s : SymState) (g h : Answers → Step) (first second : SymRun)
    → IsRunOf x w s g first → IsRunOf x first.world first.state h second
    → IsRunOf x w s (λ answers c. followed (g answers c).calls (g answers c).flow (h answers)) (after first second)

-- a step, with its traps
abbrev pub StepRule : Type 0
StepRule = (x : Subject) (w : World) (s : SymState) (f : Answers → State → Flow) (p : Stepped)
    → IsStateKept (layout x) w.nodes s → IsStepOf x w s.store f p
    → IsRunOf x w s (λ answers c. quiet (f answers c)) (stepped s.live p [])

abbrev pub CallRule : Type 0
CallRule = (x : Subject) (w : World) (s : SymState) (f : Answers → State → Flow) (q : State → Request) (p : Called)
    → IsStateKept (layout x) w.nodes s → IsCallOf x w s.store f q p
    → IsRunOf x w s (λ answers c. record { calls = q c ∷ []; flow = f answers c }) (called s.live p)

-- the beginnings of two branches
pub record AreBeginnings (x : Subject) (w : World) (s : SymState) (test : MadeLit) : Type 0 where
  pub yes : IsTestKept (layout x) test.world (yes_of test s)
  pub no : IsTestKept (layout x) (yes_of test s).world (no_of test s)
  pub first : IsStateKept (layout x) (no_of test s).world.nodes (with_live s (yes_of test s).lit)
  pub second : IsStateKept (layout x) (no_of test s).world.nodes (with_live s (no_of test s).lit)

abbrev pub BranchesRule : Type 0
BranchesRule = (x : Subject) (w : World) (s : SymState) (test : MadeLit) → IsStateKept (layout x) w.nodes s → IsTestKept (layout x) w test → AreBeginnings x w s test

-- two branches, the second made after the first
abbrev pub ChoiceRule : Type 0
ChoiceRule = (x : Subject) (w : World) (s : SymState) (f : State → Bool) (test : MadeLit) (ga gb : Answers → Step) (left right : SymRun)
    → IsStateKept (layout x) w.nodes s → IsTestOf x w s.store f test
    → IsRunOf x (no_of test s).world (with_live s (yes_of test s).lit) ga left
    → IsRunOf x left.world (with_live s (no_of test s).lit) gb right
    → IsRunOf x w s (λ answers c. choice (f c) (ga answers) (gb answers) c) (joined_at left right)

abbrev pub StopRule : Type 0
StopRule = (x : Subject) (w : World) (s : SymState) (rs : List ℕ)
    → IsWorldKept (layout x) w → IsStateKept (layout x) w.nodes s → AllGive x.unit.registers rs x.unit.results
    → IsRunOf x w s (λ answers c. quiet (Over (Returned (map (register c.registers) rs) c.store))) (ended w s (Stops (chosen s.store.registers rs) s.store.cells))

abbrev pub FailRule : Type 0
FailRule = (x : Subject) (w : World) (s : SymState) (t : Trap)
    → IsWorldKept (layout x) w → IsStateKept (layout x) w.nodes s
    → IsRunOf x w s (λ answers c. quiet (Over (Trapped t))) (ended w s (Traps t))
