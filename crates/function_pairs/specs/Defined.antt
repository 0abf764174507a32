-- Functions with a body, by their names.
use Rattle.std.specs.Prelude.{◌≡◌, ℕ, Bool, ◌&&◌, List, Option}
use Rattle.std.specs.Borrow.{Bor}
use Rattle.std.specs.List.{position_from}
use Rattle.std.specs.Option.{is_some}
use Rattle.std.specs.Str.{bytes_eq}
use Rattle.indexmap.specs.IndexMap.{IndexMap, get_by}
use Rattle.rvt_tree.specs.declared.programs.Function.{Function}

-- a function of this name that has a body
abbrev pub defines : List ℕ → Function → Bool
defines name f = is_some f.body && bytes_eq f.name name

-- the number of the first of them
abbrev pub defined_number : List Function → List ℕ → Option ℕ
defined_number functions name = position_from (defines name) 0 functions

-- ---- tables

-- the number that stands in a table under this name
abbrev pub number_in : {S : Type 0} → List ℕ → IndexMap (Bor (List ℕ)) ℕ S → Option ℕ
number_in name table = get_by (λ key. bytes_eq name key.now) table

-- the table has the number of each function with a body under its name
abbrev pub AreNumbers : {S : Type 0} → IndexMap (Bor (List ℕ)) ℕ S → List Function → Type 0
AreNumbers table functions = (name : List ℕ) → number_in name table ≡ defined_number functions name
