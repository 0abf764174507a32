-- Globals that are matched: by the map, else by their names; and only where types and `const` are equal.
use Rattle.std.specs.Prelude.{ℕ, ◌+◌, Bool, false, ◌&&◌, not, if◌then◌else◌, is_none, is_some, List, [], ◌∷◌, ◌++◌, map, Option, Some, None, option_and_then}
use Rattle.std.specs.List.{list_any}
use Rattle.std.specs.Str.{bytes_eq}
use Rattle.version_map.specs.declared.map.Listed.{Listed}
use Rattle.c_types.specs.Layout.{shape_of, both_or_neither}
use Rattle.rvt_tree.specs.declared.programs.Object.{Object}
use Rattle.joint_objects.specs.declared.found.Found.{Found}
use Rattle.joint_objects.specs.Sought.{sought}
use Rattle.joint_objects.specs.StructTypes.{same_type}

-- an object of the file, and no function's local, has this name
abbrev pub is_global_of : List ℕ → Object → Bool
is_global_of name object = is_none object.owner && bytes_eq object.name name

-- ---- the name in the other file

abbrev pub unless_taken : Bool → List ℕ → Option (List ℕ)
unless_taken taken name = if taken then None else Some name

abbrev pub listed_or : Option (List ℕ) → Option (List ℕ) → Option (List ℕ)
listed_or (Some name) other = Some name
listed_or None other = other

-- the name that the map says
abbrev pub listed_name : List (List ℕ × List ℕ) → List ℕ → Option (List ℕ)
listed_name listed name = sought (λ names. bytes_eq names.0 name) (λ _ names. Some names.1) listed

-- the name in their file of our global of this name: what the map says; else the same, unless the map gives that to another one
abbrev pub other_name : List (List ℕ × List ℕ) → List ℕ → Option (List ℕ)
other_name listed name = listed_or (listed_name listed name) (unless_taken (list_any (λ names. bytes_eq names.1 name) listed) name)

-- ---- the partner

abbrev pub are_alike : List (Option ℕ) → Object → Object → Bool
are_alike structs a b = same_type structs (shape_of a.ty) (shape_of b.ty) && both_or_neither a.constant b.constant

-- the global of theirs that has this name, if it is of the same type and `const`
abbrev pub alike_global : List (Option ℕ) → List Object → Object → List ℕ → Option ℕ
alike_global structs theirs a name = sought (is_global_of name) (λ number b. if are_alike structs a b then Some number else None) theirs

abbrev pub global_partner : List (Option ℕ) → List (List ℕ × List ℕ) → List Object → Object → Option ℕ
global_partner structs listed theirs a =
    option_and_then (alike_global structs theirs a) (other_name listed a.name)

-- an object that is no function's local
abbrev pub found_global : Option ℕ → ℕ → Option ℕ → List Found
found_global None number partner = record { object = number; partner = partner; declaration = 0 } ∷ []
found_global (Some owner) number partner = []

-- our globals from this number on, each with its partner
abbrev pub globals_from : List (Option ℕ) → List (List ℕ × List ℕ) → List Object → ℕ → List Object → List Found
globals_from structs listed theirs number [] = []
globals_from structs listed theirs number (a ∷ rest) =
    found_global a.owner number (global_partner structs listed theirs a) ++ globals_from structs listed theirs (number + 1) rest

-- ---- lines of the map that are refused

abbrev pub global_named : List Object → List ℕ → Option Object
global_named objects name = sought (is_global_of name) (λ _ object. Some object) objects

abbrev pub both_there : Option Object → Option Object → Bool
both_there a b = is_some a && is_some b

-- the first line that names no global of its file
abbrev pub line_without_global : List Object → List Object → List Listed → Option ℕ
line_without_global old new [] = None
line_without_global old new (entry ∷ rest) =
    if both_there (global_named old entry.old) (global_named new entry.new) then line_without_global old new rest else Some entry.line

abbrev pub unlike : List (Option ℕ) → Option Object → Option Object → Bool
unlike structs (Some a) (Some b) = not (are_alike structs a b)
unlike structs _ _ = false

-- the first line of two globals of unequal type or `const`
abbrev pub line_of_unlike : List (Option ℕ) → List Object → List Object → List Listed → Option ℕ
line_of_unlike structs old new [] = None
line_of_unlike structs old new (entry ∷ rest) =
    if unlike structs (global_named old entry.old) (global_named new entry.new) then Some entry.line else line_of_unlike structs old new rest

-- ---- a global by its name

abbrev pub key_unless_owned : Option ℕ → List ℕ → Option (List ℕ × ℕ)
key_unless_owned None name = Some (name, 0)
key_unless_owned (Some owner) name = None

abbrev pub global_key : Object → Option (List ℕ × ℕ)
global_key object = key_unless_owned object.owner object.name

abbrev pub global_keys : List Object → List (Option (List ℕ × ℕ))
global_keys = map global_key
