-- What a name of one file is called in the other, by the lines of a map.
use Rattle.std.specs.Prelude.{◌≡◌, ℕ, List, Option, Some, None}
use Rattle.std.specs.Borrow.{Bor}
use Rattle.std.specs.List.{find}
use Rattle.std.specs.Str.{bytes_eq}
use Rattle.indexmap.specs.IndexMap.{IndexMap, get_by}
use Rattle.version_map.specs.declared.map.Listed.{Listed}

abbrev pub new_side : List ℕ → Option Listed → List ℕ
new_side name (Some line) = line.new
new_side name None = name

abbrev pub old_side : List ℕ → Option Listed → List ℕ
old_side name (Some line) = line.old
old_side name None = name

-- what a name of the old file is called in the new one: as the first line with it says, and else the same
abbrev pub new_name : List Listed → List ℕ → List ℕ
new_name lines name = new_side name (find (λ (line : Listed). bytes_eq line.old name) lines)

-- what a name of the new file is called in the old one
abbrev pub old_name : List Listed → List ℕ → List ℕ
old_name lines name = old_side name (find (λ (line : Listed). bytes_eq line.new name) lines)

-- ---- tables

abbrev pub text_or : List ℕ → Option (Bor (List ℕ)) → List ℕ
text_or name (Some text) = text.now
text_or name None = name

abbrev pub text_in : {S : Type 0} → List ℕ → IndexMap (Bor (List ℕ)) (Bor (List ℕ)) S → Option (Bor (List ℕ))
text_in name table = get_by (λ key. bytes_eq name key.now) table

-- the name that stands in a table under this one, or this one itself
abbrev pub name_in : {S : Type 0} → List ℕ → IndexMap (Bor (List ℕ)) (Bor (List ℕ)) S → List ℕ
name_in name table = text_or name (text_in name table)

abbrev pub AreNames : {S : Type 0} → IndexMap (Bor (List ℕ)) (Bor (List ℕ)) S → (List ℕ → List ℕ) → Type 0
AreNames table called = (name : List ℕ) → name_in name table ≡ called name
