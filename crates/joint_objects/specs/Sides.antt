-- Two files, each as the other one sees it.
use Rattle.std.specs.Prelude.{ℕ, List, map, Option}
use Rattle.version_map.specs.declared.map.Listed.{Listed}

-- for each thing of the old file the partner in the new one, if it has one, and the other way round
pub record Partners : Type 0 where
  pub of_old : List (Option ℕ)
  pub of_new : List (Option ℕ)

-- the globals that the map matches, each by its name in the old file and by its name in the new one
abbrev pub from_old : List Listed → List (List ℕ × List ℕ)
from_old = map (λ (entry : Listed). (entry.old, entry.new))

-- the same, by the name in the new file and by that in the old one
abbrev pub from_new : List Listed → List (List ℕ × List ℕ)
from_new = map (λ (entry : Listed). (entry.new, entry.old))
