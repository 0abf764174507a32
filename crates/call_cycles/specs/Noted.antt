-- What is noted of the functions of a file, beside its entries.
use Rattle.std.specs.Prelude.{◌≡◌, ℕ, List, [], map, Bool, false, Option, Some, None, is_some, slice_get}
use Rattle.expression_typing.specs.Progress.{Call as CallRecord, Taken as TakenRecord}
use Rattle.file_typing.specs.CallCycles.{calls_in}
use Rattle.file_typing.specs.FileScope.{FunctionEntry, Body}
use Rattle.typing_base.specs.NoteViews.{call_view, taken_view}
use Rattle.call_cycles.specs.declared.notes.FunctionNotes.{FunctionNotes}

-- of a function: whether it has a body, and the calls in that and the addresses that it takes
pub record Noted : Type 0 where
  pub defined : Bool
  pub calls : List CallRecord
  pub taken : List TakenRecord

abbrev pub taken_in : Option Body → List TakenRecord
taken_in None = []
taken_in (Some body) = body.taken

-- what is to be noted of an entry
abbrev pub noted : FunctionEntry → Noted
noted entry = record { defined = is_some entry.body; calls = calls_in entry.body; taken = taken_in entry.body }

abbrev pub notes_view : FunctionNotes → Noted
notes_view notes = record { defined = notes.defined; calls = map call_view notes.calls.now; taken = map taken_view notes.taken.now }

-- the notes are those of the entries, in their order
abbrev pub AreNotesOf : List FunctionNotes → List FunctionEntry → Type 0
AreNotesOf notes entries = map notes_view notes ≡ map noted entries

-- the functions that each function calls
abbrev pub calls_between : List FunctionNotes → List (List ℕ)
calls_between functions = map (λ notes. map (λ call. call.function) notes.calls.now) functions

abbrev pub defined_there : Option FunctionNotes → Bool
defined_there None = false
defined_there (Some notes) = notes.defined

-- the function of this number has a body
abbrev pub is_defined : List FunctionNotes → ℕ → Bool
is_defined functions number = defined_there (slice_get functions number)
