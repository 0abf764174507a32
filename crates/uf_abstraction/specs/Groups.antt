-- The places of applications by their names.
use Rattle.std.specs.Prelude.{◌≡◌, ◌<◌, ℕ, cond, List, [], ◌∷◌, ◌++◌, Vec, filter_map, length, take, slice_get, Option, Some, None}
use Rattle.std.specs.Global.{Global}
use Rattle.std.specs.List.{AllByRecursion}
use Rattle.std.specs.Map.{lookup}
use Rattle.core_ir.specs.Tables.{same_name}
use Rattle.uf_abstraction.specs.Applications.{Application}
use Rattle.uf_abstraction.specs.Names.{meant}
use Rattle.uf_abstraction.specs.Testing.{named}
use Rattle.uf_abstraction.specs.declared.names.EntryName.{EntryName}

-- the applications at these places
abbrev pub at_places : List Application → List ℕ → List Application
at_places applied places = filter_map (slice_get applied) places

abbrev pub or_none : Option (Vec ℕ Global) → List ℕ
or_none None = []
or_none (Some places) = places.items

-- the places that stand at this name, if there are any
abbrev pub places_of : List (EntryName × Vec ℕ Global) → EntryName → List ℕ
places_of entries name = or_none (lookup (λ (other : EntryName). same_name (meant name) (meant other)) entries)

-- each name has the places of its applications among the first of all
pub record AreGroups (applied : List Application) (count : ℕ) (places : EntryName → List ℕ) : Type 0 where
  pub within : (name : EntryName) → AllByRecursion (λ place. place < length applied) (places name)
  pub are : (name : EntryName) → at_places applied (places name) ≡ named (meant name) (take count applied)

-- this name has one more place
abbrev pub IsNoted : EntryName → ℕ → (EntryName → List ℕ) → (EntryName → List ℕ) → Type 0
IsNoted name place old new = (other : EntryName) → new other ≡ cond (same_name (meant other) (meant name)) (old other ++ place ∷ []) (old other)
