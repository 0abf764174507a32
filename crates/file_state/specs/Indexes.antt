-- Indexes of what a file has: the number of the first struct of a tag, and that of the first function of a name.
use Rattle.std.specs.Prelude.{◌≡◌, ℕ, List, ◌∷◌, map, cond, Option, is_some, if◌then◌else◌}
use Rattle.name_scopes.specs.Names.{Named, named_in}
use Rattle.file_typing.specs.FileScope.{struct_number, function_number}
use Rattle.file_typing.specs.FunctionDeclarators.{functions_declared}
use Rattle.file_state.specs.declared.entries.FunctionEntry.{FunctionEntry}
use Rattle.file_state.specs.declared.states.FileState.{FileState}
use Rattle.file_state.specs.Views.{struct_entry_view, function_entry_view}

-- an index gives these numbers
abbrev pub IsNumbered : List (Named ℕ) → (List ℕ → Option ℕ) → Type 0
IsNumbered index number = (name : List ℕ) → named_in index name ≡ number name

-- the index, with this number of the name if it has none
abbrev pub with_first : List ℕ → ℕ → List (Named ℕ) → List (Named ℕ)
with_first name number index = if is_some (named_in index name) then index else record { name = name; value = number } ∷ index

-- the indexes of a file's state, and the count of the functions declared, are those of its structs and functions
pub record IsIndexed (state : FileState) : Type 0 where
  pub structs : IsNumbered state.struct_numbers (struct_number (map struct_entry_view state.environment.structs.items))
  pub functions : IsNumbered state.function_numbers (function_number (map function_entry_view state.functions.items))
  pub declared : state.declared ≡ functions_declared (map function_entry_view state.functions.items)

-- what a function adds to the count of those that are declared
abbrev pub times_declared : FunctionEntry → ℕ
times_declared entry = cond (is_some (function_entry_view entry).interface) 1 0
