-- What is said of the run of a function.
use Rattle.std.specs.Prelude.{◌≡◌, ◌≢◌, ℕ, ◌+◌, List, ◌++◌, codes, length, slice_get, Some, None, true}
use Rattle.std.specs.Fmt.{decimal, signed_decimal}
use Rattle.std.specs.Option.{is_some}
use Rattle.rvt_num.specs.declared.values.End.{End}
use Rattle.rvt_num.specs.declared.values.End.TheVariants.{Trapped, Returned}
use Rattle.rvt_num.specs.declared.values.Trap.{Trap}
use Rattle.rvt_num.specs.declared.values.Trap.TheVariants as T
use Rattle.rvt_num.specs.declared.values.Value.{Value}
use Rattle.rvt_tree.specs.declared.programs.Function.{Function}
use Rattle.rvt_tree.specs.declared.programs.Program.{Program}
use Rattle.c_meaning.specs.Promises.{mutable_cells}
use Rattle.c_meaning.specs.Runs.{run}
use Rattle.c_meaning.specs.Stores.{objects_of}
use Rattle.c_interp.specs.declared.machine.Stop.{Stop}
use Rattle.c_interp.specs.declared.machine.Stop.TheVariants.{Ended, Cut, Deep}
use Rattle.c_interp.specs.Stops.{stop_with}
use Rattle.call_arguments.specs.Arguments.{AreArguments, IsFirstBad}
use Rattle.one_table.specs.Names.{function_number}

-- how many calls may be active at once
abbrev pub most_calls : ℕ
most_calls = 10000

-- ---- the line of a run

abbrev pub trap_word : Trap → List ℕ
trap_word T.Divide = codes "divide"
trap_word T.Quotient = codes "quotient"
trap_word T.Shift = codes "shift"
trap_word T.Index = codes "index"
trap_word T.Null = codes "null"
trap_word T.Range = codes "range"
trap_word T.Place = codes "place"
trap_word T.NoReturn = codes "noreturn"

-- how a run ended
abbrev pub end_text : End → List ℕ
end_text (Trapped why) = codes "traps " ++ trap_word why
end_text (Returned None) = codes "returns"
end_text (Returned (Some result)) = codes "returns " ++ signed_decimal result.value

-- how a run stopped that could have so many steps
abbrev pub stop_text : ℕ → Stop → List ℕ
stop_text bound (Ended end steps) = end_text end ++ (codes " after " ++ (decimal steps ++ codes " steps"))
stop_text bound Cut = codes "cut at " ++ (decimal bound ++ codes " steps")
stop_text bound Deep = codes "deep at 10000 calls"

-- the status of a run that stopped so: 0 where it returned
abbrev pub stop_status : Stop → ℕ
stop_status (Ended (Returned result) steps) = 0
stop_status _ = 7

-- ---- what is said

-- the function of this name, which has a body
pub record IsFunction (program : Program) (name : List ℕ) (number : ℕ) (function : Function) : Type 0 where
  pub named : function_number program.functions name ≡ Some number
  pub there : slice_get program.functions number ≡ Some function
  pub body : is_some function.body ≡ true

-- a run from these contents of the mutable cells stops so
pub record MachineStops (program : Program) (number : ℕ) (values contents : List Value) (bound : ℕ) (stop : Stop) : Type 0 where
  pub store : List Value
  pub run : run program number values contents bound most_calls ≡ stop_with stop store

-- the run of a function on these arguments from the file's first contents stops so
abbrev pub StopsSo : Program → ℕ → List Value → ℕ → Stop → Type 0
StopsSo program number values bound stop = MachineStops program number values (mutable_cells (objects_of program)) bound stop

-- The status and the text for the run of the function of this name on these words, with at most so many steps.
pub data IsRunAnswer (program : Program) (file name : List ℕ) (words : List (List ℕ)) (bound : ℕ) : ℕ → List ℕ → Type 0 where
  no_function : ((number : ℕ) (function : Function) → IsFunction program name number function → ⊥)
      → IsRunAnswer program file name words bound 3 (file ++ (codes ": no function " ++ name))
  other_number : (number : ℕ) (function : Function) → IsFunction program name number function
      → length words ≢ length function.params
      → IsRunAnswer program file name words bound 3 (codes "wanted " ++ (decimal (length function.params) ++ codes " arguments"))
  bad_argument : (number : ℕ) (function : Function) (before : ℕ) → IsFunction program name number function
      → length words ≡ length function.params
      → IsFirstBad program function.params words before
      → IsRunAnswer program file name words bound 3 (codes "argument " ++ (decimal (before + 1) ++ codes ": not a value of its type"))
  stopped : (number : ℕ) (function : Function) (values : List Value) (stop : Stop) → IsFunction program name number function
      → AreArguments program function.params words values
      → StopsSo program number values bound stop
      → IsRunAnswer program file name words bound (stop_status stop) (stop_text bound stop)
