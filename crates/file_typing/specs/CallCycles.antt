-- What is sought when all items of a file are typed: calls of functions without a body, and then addresses of locals
-- in functions on a call cycle.
use Rattle.std.specs.Prelude.{◌≡◌, ℕ, ◌<◌, ◌≤◌, ◌⊎◌, List, [], map, flat_map, find, Bool, false, not, Option, Some, None, is_some, slice_get}
use Rattle.rvt_tree.specs.declared.places.Place.{Place}
use Rattle.rvt_tree.specs.declared.expressions.Variable.TheVariants as V
use Rattle.call_graph.specs.Graphs.{At, Edge, Reaches}
use Rattle.expression_typing.specs.Progress.{Call}
use Rattle.file_typing.specs.FileScope.{FunctionEntry, Body}

-- ---- calls

abbrev pub calls_in : Option Body → List Call
calls_in None = []
calls_in (Some body) = body.calls

abbrev pub has_body : List FunctionEntry → ℕ → Bool
has_body functions number = body_there (slice_get functions number) where
  body_there : Option FunctionEntry → Bool
  body_there None = false
  body_there (Some entry) = is_some entry.body

-- the first call, in the order of the source, of a function that has no body at the end of the file
abbrev pub first_without_body : List FunctionEntry → Option Call
first_without_body functions = find (λ call. not (has_body functions call.function)) (flat_map (λ entry. calls_in entry.body) functions)

-- ---- call cycles

-- the functions that each function calls
abbrev pub call_graph : List FunctionEntry → List (List ℕ)
call_graph functions = map (λ entry. map (λ call. call.function) (calls_in entry.body)) functions

-- a function that calls itself, or a function from which calls lead back to it
abbrev pub IsOnCycle : List (List ℕ) → ℕ → Type 0
IsOnCycle graph f = (g : ℕ) × Edge graph f g × Reaches graph g f

-- the function of this number takes the address of one of its locals at a place
pub record TakesLocal (functions : List FunctionEntry) (number : ℕ) (at : Place) : Type 0 where
  pub entry : FunctionEntry
  pub is_there : At functions number entry
  pub body : Body
  pub its_body : entry.body ≡ Some body
  pub local : ℕ
  pub k : ℕ
  pub taken : At body.taken k (record { variable = V.Local local; place = at })

-- the address of a local is taken at this place, in a function on a call cycle
abbrev pub IsAddressOnCycle : List FunctionEntry → Place → Type 0
IsAddressOnCycle functions at = (number : ℕ) × TakesLocal functions number at × IsOnCycle (call_graph functions) number

-- a place is not behind another
abbrev pub IsNotBehind : Place → Place → Type 0
IsNotBehind a b = (a.line < b.line) ⊎ ((a.line ≡ b.line) × (a.column ≤ b.column))

-- the first such place in the source
pub record IsFirstAddressOnCycle (functions : List FunctionEntry) (at : Place) : Type 0 where
  pub there : IsAddressOnCycle functions at
  pub first : (other : Place) → IsAddressOnCycle functions other → IsNotBehind at other

abbrev pub HasNoAddressOnCycle : List FunctionEntry → Type 0
HasNoAddressOnCycle functions = (at : Place) → IsAddressOnCycle functions at → ⊥
