-- Owners of objects that lie on a cycle of calls.
use Rattle.std.specs.Prelude.{◌≡◌, ℕ, ◌<◌, Bool, true, List, [], ◌∷◌, Option, Some, None, slice_get}
use Rattle.std.specs.Option.{option_or}
use Rattle.call_graph.specs.Graphs.{At}
use Rattle.graph_marks.specs.Cycles.{IsOnCycle}

-- none of the owners is on a cycle
abbrev pub HasNoOwnerOnCycle : List (List ℕ) → List (Option ℕ) → Type 0
HasNoOwnerOnCycle graph owners = (place owner : ℕ) → At owners place (Some owner) → IsOnCycle graph owner → ⊥

-- the first of the owners that is on a cycle
pub record IsFirstOwnerOnCycle (graph : List (List ℕ)) (owners : List (Option ℕ)) (owner : ℕ) : Type 0 where
  pub place : ℕ
  pub is_there : At owners place (Some owner)
  pub on_cycle : IsOnCycle graph owner
  pub first : (earlier other : ℕ) → earlier < place → At owners earlier (Some other) → IsOnCycle graph other → ⊥

-- ---- by flags

abbrev pub owner_if : Option Bool → ℕ → Option ℕ
owner_if (Some true) node = Some node
owner_if _ node = None

-- the owner, if its flag is set
abbrev pub if_set : List Bool → Option ℕ → Option ℕ
if_set flags None = None
if_set flags (Some node) = owner_if (slice_get flags node) node

-- the first owner whose flag is set
abbrev pub first_among : List Bool → List (Option ℕ) → Option ℕ
first_among flags [] = None
first_among flags (owner ∷ rest) = option_or (if_set flags owner) (first_among flags rest)
