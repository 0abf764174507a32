-- What holds of every map.
use Rattle.std.specs.Prelude.{◌≡◌, ℕ, ◌<◌, ◌≤◌, false, List, [], ◌∷◌, map, All, Ok}
use Rattle.version_map.specs.declared.map.Listed.{Listed}
use Rattle.version_map.specs.declared.map.Added.{Added}
use Rattle.version_map.specs.Maps.{Entries, stands_among, old_names, new_names, object_names, map_of}

-- each number is larger than the one before
abbrev pub Rise : ℕ → List ℕ → Type 0
Rise before [] = Unit {0}
Rise before (number ∷ numbers) = (before < number) × Rise number numbers

-- no name stands twice
abbrev pub Differ : List (List ℕ) → Type 0
Differ [] = Unit {0}
Differ (name ∷ names) = (stands_among name names ≡ false) × Differ names

pub record PairsFit (entries : List Listed) : Type 0 where
  pub lines : Rise 0 (map (λ (entry : Listed). entry.line) entries)
  pub olds : Differ (old_names entries)
  pub news : Differ (new_names entries)

pub record ObjectsFit (entries : List Added) : Type 0 where
  pub lines : Rise 0 (map (λ (entry : Added). entry.line) entries)
  pub names : Differ (object_names entries)
  pub counts : All (λ (entry : Added). (1 ≤ entry.count) × (entry.count ≤ 4096)) entries

-- lines rise, no name stands twice on its side, and each count is one of an array
pub record Fits (said : Entries) : Type 0 where
  pub functions : PairsFit said.functions
  pub globals : PairsFit said.globals
  pub objects : ObjectsFit said.objects

-- what a map says fits
abbrev pub MapsFit : Type 0
MapsFit = (bytes : List ℕ) (said : Entries) → map_of bytes ≡ Ok said → Fits said
