-- Lines of a map that name a function that isn't there.
use Rattle.std.specs.Prelude.{ℕ, Bool, not, ◌&&◌, List, Option, option_map}
use Rattle.std.specs.Borrow.{Bor}
use Rattle.std.specs.List.{find}
use Rattle.std.specs.Option.{is_some}
use Rattle.indexmap.specs.IndexMap.{IndexMap}
use Rattle.rvt_tree.specs.declared.programs.Function.{Function}
use Rattle.version_map.specs.declared.map.Listed.{Listed}
use Rattle.function_pairs.specs.Defined.{defined_number, number_in}

-- a line names a function with a body of each file
abbrev pub is_known : List Function → List Function → Listed → Bool
is_known old new line = is_some (defined_number old line.old) && is_some (defined_number new line.new)

-- the number of the first line that doesn't
abbrev pub first_unknown : List Listed → List Function → List Function → Option ℕ
first_unknown lines old new = option_map (λ (line : Listed). line.line) (find (λ line. not (is_known old new line)) lines)

-- the same by the tables of both files
abbrev pub known_by : {S T : Type 0} → IndexMap (Bor (List ℕ)) ℕ S → IndexMap (Bor (List ℕ)) ℕ T → Listed → Bool
known_by old new line = is_some (number_in line.old old) && is_some (number_in line.new new)
