-- What stands in code: from a place on, what is to come of what waits.
use Rattle.std.specs.Prelude.{◌≡◌, ◌≢◌, ℕ, suc, ◌+◌, List, [], ◌∷◌, ◌++◌, length, slice_get, Some, None, Bool, true, false, if◌then◌else◌}
use Rattle.rvt_tree.specs.declared.expressions.Variable.{Variable}
use Rattle.rvt_tree.specs.declared.programs.Program.{Program}
use Rattle.rvt_tree.specs.Syntax.{Statement, while_loop, do_loop, for_loop, Groups}
use Rattle.c_meaning.specs.Outcomes.{State, Done, Manner, Normally, Broke, Continued, leave}
use Rattle.c_meaning.specs.Stores.{number_of, holds, cells_of}
use Rattle.c_meaning.specs.Statements.{after_round, after_group}
use Rattle.c_tasks.specs.Operands.{Operands, top_value, without_value, with_manner}
use Rattle.c_tasks.specs.Tasks.{Rest, ending, tested, selecting}
use Rattle.c_code.specs.Expressions.{passing}
use Rattle.c_code.specs.Acts.{acts_code}
use Rattle.c_code.specs.Initializers.{Counts, count_of}
use Rattle.c_code.specs.Statements.{statement_code, test_code, looping, groups_code}
use Rattle.c_code.specs.declared.instructions.When.{When}
use Rattle.c_code.specs.declared.instructions.When.TheVariants as W
use Rattle.c_code.specs.declared.instructions.Instruction.{Instruction}
use Rattle.c_code.specs.declared.instructions.Instruction.TheVariants as I
use Rattle.code_laws.specs.Effects.{effect, Heights}

-- these instructions stand in the code from one place to another
abbrev pub Spans : List Instruction → ℕ → ℕ → List Instruction → Type 0
Spans code from to [] = from ≡ to
Spans code from to (i ∷ rest) = (slice_get code from ≡ Some i) × Spans code (suc from) to rest

-- ---- jumps

abbrev pub is_abrupt : Manner → Bool
is_abrupt Normally = false
is_abrupt Broke = true
is_abrupt Continued = true

abbrev pub is_break : Manner → Bool
is_break Broke = true
is_break Normally = false
is_break Continued = false

-- what follows where a jump is not made, and where it is
abbrev pub jumping : When → Rest → Rest → Rest
jumping W.Always next far on = far on
jumping (W.Unless slot) next far on = if holds (top_value on) then next (without_value on) else far (without_value on)
jumping W.Abrupt next far on = if is_abrupt on.manner then far on else next on
jumping W.Broke next far on = if is_break on.manner then far on else next on

abbrev pub JumpHeights : When → ℕ → ℕ → Type 0
JumpHeights W.Always h h' = h' ≡ h
JumpHeights (W.Unless slot) h h' = (h ≡ suc slot) × (h' ≡ slot)
JumpHeights W.Abrupt h h' = h' ≡ h
JumpHeights W.Broke h h' = h' ≡ h

-- ---- loops

-- a loop from its test on; what is no loop has no such code
abbrev pub loop_code : Counts → Statement → List Instruction
loop_code counts (while_loop number test body) = looping (test_code (Some test)) (statement_code counts body)
loop_code counts (do_loop number body test) = looping (test_code (Some test)) (statement_code counts body)
loop_code counts (for_loop number first test last body) = looping (test_code test) (statement_code counts body ++ passing W.Broke (acts_code last))
loop_code counts other = []

-- ---- the end of an activation

abbrev pub ending_by : Instruction → Rest → Type 0
ending_by (I.Return slot) k = (on : Operands) (s : State ℕ) → k on s ≡ leave (Some (number_of (top_value on))) s
ending_by I.ReturnNothing k = (on : Operands) (s : State ℕ) → k on s ≡ leave None s
ending_by I.Finish k = (on : Operands) (s : State ℕ) → k on s ≡ Done (top_value on) s
ending_by other k = ⊥

-- from a place on, with so many values and places that wait, there is to come ..
pub data Stands (program : Program) (d : ℕ) (counts : Counts) (code : List Instruction) : ℕ → ℕ → ℕ → Rest → Type 0 where
  -- what an instruction does, and then what stands behind it
  goes : {pc h p : ℕ} {k : Rest} (h' p' : ℕ) (next : Rest) (i : Instruction) → slice_get code pc ≡ Some i → Heights i h p h' p' →
      ((on : Operands) (s : State ℕ) → k on s ≡ effect program d i next on s) → Stands program d counts code (suc pc) h' p' next → Stands program d counts code pc h p k
  -- the zeros of a variable that has an initializer, where it has the cells that are counted for it
  begins : {pc p : ℕ} {k : Rest} (next : Rest) (variable : Variable) → slice_get code pc ≡ Some (I.Begin variable (count_of counts variable)) →
      ((on : Operands) (s : State ℕ) → length (cells_of program variable s.locals s.store) ≡ count_of counts variable → k on s ≡ effect program d (I.Begin variable (count_of counts variable)) next on s) →
      Stands program d counts code (suc pc) (count_of counts variable) p next → Stands program d counts code pc 0 p k
  -- what stands behind a jump, or further on
  jumps : {pc h p : ℕ} {k : Rest} (h' : ℕ) (next far : Rest) (when : When) (n : ℕ) → slice_get code pc ≡ Some (I.Jump when n) → JumpHeights when h h' →
      ((on : Operands) (s : State ℕ) → k on s ≡ jumping when next far on s) → (when ≢ W.Always → Stands program d counts code (suc pc) h' p next) → Stands program d counts code (pc + n) h' p far → Stands program d counts code pc h p k
  -- a group that is passed over
  skips : {pc h p : ℕ} {k : Rest} (next : Rest) (labels n : ℕ) → slice_get code pc ≡ Some (I.Group labels n) →
      ((on : Operands) (s : State ℕ) → k on s ≡ next on s) → Stands program d counts code (pc + n) h p next → Stands program d counts code pc h p k
  -- the other rounds of a loop, whose code begins so many instructions before
  turns : {pc : ℕ} {k : Rest} (n head fin : ℕ) (next : Rest) (st : Statement) → slice_get code pc ≡ Some (I.Again n) → head + n ≡ pc → Spans code head fin (loop_code counts st) → suc (suc pc) ≡ fin →
      ((on : Operands) (s : State ℕ) → k on s ≡ ending program d (after_round (tested program d st) on.manner) next on s) →
      Stands program d counts code (suc pc) 0 0 (λ on. next (with_manner Normally on)) → Stands program d counts code pc 0 0 k
  -- one of the groups that follow
  selects : {pc : ℕ} {k : Rest} (fin : ℕ) (next : Rest) (groups : Groups) → slice_get code pc ≡ Some (I.Select 0) → Spans code (suc pc) fin (groups_code counts groups) → slice_get code fin ≡ Some I.LeaveSwitch →
      ((on : Operands) (s : State ℕ) → k on s ≡ selecting program d groups next on s) →
      Stands program d counts code fin 0 0 (λ on. ending program d (after_group on.manner) next on) → Stands program d counts code pc 1 0 k
  -- the end of the activation
  ends : {pc h p : ℕ} {k : Rest} (i : Instruction) → slice_get code pc ≡ Some i → ending_by i k → Stands program d counts code pc h p k
