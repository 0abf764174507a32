-- Locals that are objects, and which are matched: in paired functions, by name, by number among the declarations of the name, and by type.
use Rattle.std.specs.Prelude.{ℕ, ◌+◌, Bool, ◌&&◌, nat_eq, if◌then◌else◌, List, [], ◌∷◌, ◌++◌, get_or, slice_get, Option, Some, None, option_and_then}
use Rattle.std.specs.Str.{bytes_eq}
use Rattle.rvt_tree.specs.declared.programs.Local.{Local}
use Rattle.rvt_tree.specs.declared.programs.Function.{Function}
use Rattle.c_types.specs.Layout.{shape_of}
use Rattle.joint_objects.specs.declared.found.Found.{Found}
use Rattle.joint_objects.specs.Sought.{sought}
use Rattle.joint_objects.specs.StructTypes.{same_type}

-- a declaration in a function, and how many declarations of its name stand before it
pub record Declaration : Type 0 where
  pub local : Local
  pub before : ℕ

abbrev pub count_of : List ℕ → List Local → ℕ
count_of name [] = 0
count_of name (local ∷ rest) = (if bytes_eq local.name name then 1 else 0) + count_of name rest

-- the declarations that follow these
abbrev pub declared_after : List Local → List Local → List Declaration
declared_after before [] = []
declared_after before (local ∷ rest) = record { local = local; before = count_of local.name before } ∷ declared_after (before ++ local ∷ []) rest

-- the parameters and then the locals of a function
abbrev pub declarations_in : Option Function → List Declaration
declarations_in None = []
declarations_in (Some function) = declared_after [] (function.params ++ function.locals)

-- the same name, and the same number among the declarations of the name
abbrev pub is_same_declaration : Declaration → Declaration → Bool
is_same_declaration a b = bytes_eq b.local.name a.local.name && nat_eq b.before a.before

-- the object that the same declaration in the partner of the function is, if it is one, and of the same type
abbrev pub local_partner : List (Option ℕ) → List Declaration → Declaration → Option ℕ
local_partner structs theirs a =
    sought (is_same_declaration a) (λ _ b. if same_type structs (shape_of a.local.ty) (shape_of b.local.ty) then b.local.object else None) theirs

abbrev pub found_local : Option ℕ → Option ℕ → ℕ → List Found
found_local None partner before = []
found_local (Some object) partner before = record { object = object; partner = partner; declaration = before } ∷ []

-- the objects among declarations, each with its partner
abbrev pub locals_among : List (Option ℕ) → List Declaration → List Declaration → List Found
locals_among structs theirs [] = []
locals_among structs theirs (a ∷ rest) = found_local a.local.object (local_partner structs theirs a) a.before ++ locals_among structs theirs rest

-- the function that is paired with the one of this number
abbrev pub paired_function : List (Option ℕ) → List Function → ℕ → Option Function
paired_function pairs theirs number = option_and_then (slice_get theirs) (get_or pairs number None)

-- the objects among the locals of our functions from this number on, in the order of the source, each with its partner
abbrev pub locals_from : List (Option ℕ) → List (Option ℕ) → List Function → ℕ → List Function → List Found
locals_from structs pairs theirs number [] = []
locals_from structs pairs theirs number (f ∷ rest) =
    locals_among structs (declarations_in (paired_function pairs theirs number)) (declarations_in (Some f)) ++ locals_from structs pairs theirs (number + 1) rest
