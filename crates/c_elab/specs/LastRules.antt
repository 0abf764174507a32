-- What is sought when all items of a file are typed: nothing of it is found, or a rule is broken.
use Rattle.std.specs.Prelude.{◌≡◌, List, Some, None, Result, Ok, Err}
use Rattle.rvt_tree.specs.declared.places.Place.{Place}
use Rattle.expression_typing.specs.Outcomes.{Cause, no_body, address_on_a_call_cycle}
use Rattle.expression_typing.specs.Progress.{Call}
use Rattle.file_typing.specs.CallCycles.{first_without_body, IsFirstAddressOnCycle, HasNoAddressOnCycle}
use Rattle.file_typing.specs.FileScope.{FunctionEntry}
use Rattle.typing_base.specs.declared.faults.Fault.{Fault}
use Rattle.typing_base.specs.declared.faults.Fault.TheVariants as F
use Rattle.typing_base.specs.Views.{cause_view}

-- the first call of a function without a body, and then the first address of a local on a call cycle
pub data BreaksLastRule (functions : List FunctionEntry) : Cause → Place → Type 0 where
  calls_no_body : (call : Call) → first_without_body functions ≡ Some call → BreaksLastRule functions (no_body call.name) call.place
  takes_address_on_cycle : (at : Place)
      → first_without_body functions ≡ None
      → IsFirstAddressOnCycle functions at
      → BreaksLastRule functions address_on_a_call_cycle at

abbrev pub IsSought : List FunctionEntry → Result (Unit {0}) Fault → Type 0
IsSought functions (Ok _) = (first_without_body functions ≡ None) × HasNoAddressOnCycle functions
IsSought functions (Err (F.Broken broken)) = BreaksLastRule functions (cause_view broken.cause) broken.place
IsSought functions (Err F.Memory) = Unit {0}
