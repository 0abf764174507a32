-- What code does. How its calls are answered is a parameter: under running calls by a run of the called unit, under a table by
-- the table.
use Rattle.std.specs.Prelude.{◌≡◌, ◌≤◌, sum_by, ℕ, zero, suc, ◌+◌, Bool, true, false, not, List, [], ◌∷◌, ◌++◌, length, map, drop, Option, Some, None, Result, Ok, Err, ℤ, pos, slice_get, slice_set}
use Rattle.core_ir.specs.Cells.{zero_of, store_shapes, cells_of, blend, has}
use Rattle.core_ir.specs.Operations.{value_of}
use Rattle.core_ir.specs.Places.{State, register, Place, place_of, held, written}
use Rattle.core_ir.specs.declared.cores.Core.{Core}
use Rattle.core_ir.specs.declared.cores.CoreObject.{CoreObject}
use Rattle.core_ir.specs.declared.units.Code.{Code}
use Rattle.core_ir.specs.declared.units.Code.TheFolds.{fold-Code}
use Rattle.core_ir.specs.declared.units.Code.TheOpen.{Code-F}
use Rattle.core_ir.specs.declared.units.Shape.{Shape}
use Rattle.core_ir.specs.declared.units.Unit.{Unit}
use Rattle.rvt_num.specs.declared.values.Trap.{Trap}
use Rattle.rvt_num.specs.declared.values.Value.{Value}
use Rattle.rvt_num.specs.declared.values.Value.TheVariants.{Num}

-- how a unit ends
pub data End : Type 0 where
  Trapped : Trap → End
  Returned : (results store : List Value) → End

-- a call that code makes
pub record Request : Type 0 where
  pub unit : ℕ
  pub args : List Value
  pub store : List Value

-- how calls are answered; none: the call has no end within the bound
abbrev pub Answers : Type 0
Answers = Request → Option End

-- where a stretch of code leads
pub data Flow : Type 0 where
  Goes : State → Flow
  Over : End → Flow
  Waits : Flow

-- what a stretch of code does: the calls that it makes, in order, and where it leads. Where it waits, the last call has no answer
pub record Run : Type 0 where
  pub calls : List Request
  pub flow : Flow

abbrev pub Step : Type 0
Step = State → Run

abbrev pub quiet : Flow → Run
quiet f = record { calls = []; flow = f }

-- one stretch, and what follows where it goes on
abbrev pub followed : List Request → Flow → Step → Run
followed calls (Goes s) next = record { calls = calls ++ (next s).calls; flow = (next s).flow }
followed calls (Over e) next = record { calls = calls; flow = Over e }
followed calls Waits next = record { calls = calls; flow = Waits }

abbrev pub in_order : List Step → Step
in_order [] s = quiet (Goes s)
in_order (m ∷ ms) s = followed (m s).calls (m s).flow (in_order ms)

abbrev pub with_register : State → ℕ → Value → State
with_register s r v = record { registers = slice_set s.registers r v; store = s.store }

abbrev pub set_register : State → ℕ → Result Value Trap → Flow
set_register s r (Ok v) = Goes (with_register s r v)
set_register s r (Err t) = Over (Trapped t)

abbrev pub loaded : List CoreObject → State → ℕ → Result Place Trap → Flow
loaded objects s r (Ok p) = Goes (with_register s r (held objects s p))
loaded objects s r (Err t) = Over (Trapped t)

abbrev pub stored : List CoreObject → State → Value → Result Place Trap → Flow
stored objects s v (Ok p) = Goes (written objects s p v)
stored objects s v (Err t) = Over (Trapped t)

-- these registers take these values, one by one
abbrev pub set_all : List ℕ → List Value → List Value → List Value
set_all [] vs registers = registers
set_all (r ∷ rs) [] registers = registers
set_all (r ∷ rs) (v ∷ vs) registers = set_all rs vs (slice_set registers r v)

abbrev pub answered : State → List ℕ → Option End → Flow
answered s outs None = Waits
answered s outs (Some (Trapped t)) = Over (Trapped t)
answered s outs (Some (Returned results store)) = Goes (record { registers = set_all outs results s.registers; store = store })

abbrev pub request_of : State → ℕ → List ℕ → Request
request_of s u ins = record { unit = u; args = map (register s.registers) ins; store = s.store }

abbrev pub is_zero_number : ℤ → Bool
is_zero_number (pos zero) = true
is_zero_number _ = false

abbrev pub is_true : Value → Bool
is_true (Num n) = not (is_zero_number n.value)
is_true _ = false

abbrev pub choice : Bool → Step → Step → Step
choice true a b = a
choice false a b = b

-- what the objects and the shapes of the registers are
pub record Setting : Type 0 where
  pub objects : List CoreObject
  pub shapes : List Shape

-- one node, with what each child does in its place
abbrev pub node : Setting → Answers → Code-F Step → Step
node at answers (Code-F.Seq parts) s = in_order parts s
node at answers (Code-F.Set r op) s = quiet (set_register s r (value_of at.objects s.registers op))
node at answers (Code-F.Load r spot) s = quiet (loaded at.objects s r (place_of at.objects at.shapes s.registers spot))
node at answers (Code-F.Store spot r) s = quiet (stored at.objects s (register s.registers r) (place_of at.objects at.shapes s.registers spot))
node at answers (Code-F.Call u ins outs) s =
    record { calls = request_of s u ins ∷ []; flow = answered s outs (answers (request_of s u ins)) }
node at answers (Code-F.If r a b) s = choice (is_true (register s.registers r)) a b s
node at answers (Code-F.Stop rs) s = quiet (Over (Returned (map (register s.registers) rs) s.store))
node at answers (Code-F.Fail t) s = quiet (Over (Trapped t))

-- what code does from a state
abbrev pub does : Setting → Answers → Code → Step
does at answers = fold-Code Step (node at answers)

-- ---- units

-- the cells of the objects that a unit owns
abbrev pub owned_cells : List CoreObject → Unit → List Bool
owned_cells objects u = cells_of objects (λ o. has o u.owned)

-- at its entry a unit's first registers hold the arguments, all others are zero or null, and so are the cells that it owns
abbrev pub entered : List CoreObject → Unit → List Value → List Value → State
entered objects u args store =
    record {
      registers = args ++ drop (length args) (map zero_of u.registers);
      store = blend (owned_cells objects u) (map zero_of (store_shapes objects)) store;
    }

abbrev pub setting_of : List CoreObject → Unit → Setting
setting_of objects u = record { objects = objects; shapes = u.registers }

abbrev pub body_run : List CoreObject → Answers → Unit → List Value → List Value → Run
body_run objects answers u args store = does (setting_of objects u) answers u.body (entered objects u args store)

-- at its return a unit's own cells are as they were at its entry
abbrev pub put_back : List Bool → List Value → End → End
put_back owned before (Trapped t) = Trapped t
put_back owned before (Returned results store) = Returned results (blend owned before store)

-- a body that is left at its end, which no fitting unit's is, returns nothing
abbrev pub flow_end : Flow → Option End
flow_end (Goes s) = Some (Returned [] s.store)
flow_end (Over e) = Some e
flow_end Waits = None

abbrev pub option_end : (End → End) → Option End → Option End
option_end f None = None
option_end f (Some e) = Some (f e)

-- the run of a unit's body; of no unit there is none
abbrev pub unit_run : List CoreObject → Answers → Option Unit → List Value → List Value → Run
unit_run objects answers None args store = quiet Waits
unit_run objects answers (Some u) args store = body_run objects answers u args store

abbrev pub owned_of : List CoreObject → Option Unit → List Bool
owned_of objects None = []
owned_of objects (Some u) = owned_cells objects u

-- the end of a unit whose calls are so answered
abbrev pub unit_end : List CoreObject → Answers → Option Unit → List Value → List Value → Option End
unit_end objects answers u args store =
    option_end (put_back (owned_of objects u) store) (flow_end (unit_run objects answers u args store).flow)

-- ---- running calls

-- the end of a call, with at most d entries of units within one another
abbrev pub run : Core → ℕ → Answers
run core zero call = None
run core (suc d) call = unit_end core.objects (run core d) (slice_get core.units call.unit) call.args call.store

-- the calls that a unit's body makes in such a run
abbrev pub run_calls : Core → ℕ → Request → List Request
run_calls core d call = (unit_run core.objects (run core d) (slice_get core.units call.unit) call.args call.store).calls

-- the steps that a run spends: one for each entry of a unit
abbrev pub steps : Core → ℕ → Request → ℕ
steps core zero call = 0
steps core (suc d) call = 1 + sum_by (steps core d) (run_calls core d call)

-- a run has this end and spends at most n steps
pub record EndsWithin (core : Core) (n : ℕ) (call : Request) (e : End) : Type 0 where
  pub depth : ℕ
  pub ends : run core depth call ≡ Some e
  pub bound : steps core depth call ≤ n

-- a run has this end, in however many steps
pub record Ends (core : Core) (call : Request) (e : End) : Type 0 where
  pub depth : ℕ
  pub ends : run core depth call ≡ Some e
