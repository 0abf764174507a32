-- Tables of numbers by names.
use Rattle.std.specs.Prelude.{◌≡◌, ℕ, Bool, false, ◌&&◌, nat_eq, List, [], ◌∷◌, map, Option, Some, None, option_map}
use Rattle.std.specs.List.{position_from}
use Rattle.std.specs.Str.{bytes_eq}
use Rattle.indexmap.specs.IndexMap.{IndexMap, get_by}
use Rattle.joint_objects.specs.declared.keys.Key.{Key}

-- a name, and which of the things of this name
abbrev pub key_view : Key → List ℕ × ℕ
key_view key = (key.name.now, key.which)

abbrev pub is_key : List ℕ × ℕ → Option (List ℕ × ℕ) → Bool
is_key wanted None = false
is_key wanted (Some key) = bytes_eq key.0 wanted.0 && nat_eq key.1 wanted.1

abbrev pub keys_view : List (Option Key) → List (Option (List ℕ × ℕ))
keys_view = map (option_map key_view)

-- the number that stands in a table under a name
abbrev pub numbered_as : {S : Type 0} → List ℕ × ℕ → IndexMap Key ℕ S → Option ℕ
numbered_as wanted table = get_by (λ (key : Key). bytes_eq wanted.0 key.name.now && nat_eq wanted.1 key.which) table

-- the table has the number of the first of the keys that is equal to a wanted one
abbrev pub AreNumbers : {S : Type 0} → IndexMap Key ℕ S → List (Option (List ℕ × ℕ)) → Type 0
AreNumbers table keys = (wanted : List ℕ × ℕ) → numbered_as wanted table ≡ position_from (is_key wanted) 0 keys
