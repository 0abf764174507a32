-- Types of two files that are equal: structs by tag, and by the names and the types of their fields.
use Rattle.std.specs.Prelude.{ℕ, Bool, false, true, ◌&&◌, nat_eq, if◌then◌else◌, List, [], ◌∷◌, ◌++◌, map, get_or, Option, Some, None}
use Rattle.std.specs.Str.{bytes_eq}
use Rattle.rvt_tree.specs.declared.types.Pointee.{Pointee}
use Rattle.rvt_tree.specs.declared.types.Pointee.TheVariants as P
use Rattle.c_types.specs.Layout.{Shape, AWord, APointer, AnArray, AStruct, shape_of, same_kind, both_or_neither}
use Rattle.rvt_tree.specs.declared.types.CType.{CType}
use Rattle.rvt_tree.specs.declared.programs.StructDef.{StructDef}
use Rattle.joint_objects.specs.Sought.{sought}

abbrev pub is_number : ℕ → Option ℕ → Bool
is_number number (Some n) = nat_eq number n
is_number number None = false

-- their thing is the partner of ours
abbrev pub are_partners : List (Option ℕ) → ℕ → ℕ → Bool
are_partners partners a b = is_number b (get_or partners a None)

-- ---- types, where the partner of each struct is known

abbrev pub same_pointee : List (Option ℕ) → Pointee → Pointee → Bool
same_pointee structs (P.Word a) (P.Word b) = same_kind a b
same_pointee structs (P.Struct a) (P.Struct b) = are_partners structs a b
same_pointee structs _ _ = false

abbrev pub same_type : List (Option ℕ) → Shape → Shape → Bool
same_type structs (AWord a) (AWord b) = same_kind a b
same_type structs (APointer a to_constant) (APointer b to_constant') = same_pointee structs a b && both_or_neither to_constant to_constant'
same_type structs (AnArray a n) (AnArray b m) = same_type structs a b && nat_eq n m
same_type structs (AStruct a) (AStruct b) = are_partners structs a b
same_type structs _ _ = false

-- ---- structs

abbrev pub same_field : List (Option ℕ) → List ℕ × CType → List ℕ × CType → Bool
same_field structs a b = bytes_eq a.0 b.0 && same_type structs (shape_of a.1) (shape_of b.1)

abbrev pub same_fields : List (Option ℕ) → List (List ℕ × CType) → List (List ℕ × CType) → Bool
same_fields structs [] [] = true
same_fields structs (a ∷ fields) (b ∷ fields') = same_field structs a b && same_fields structs fields fields'
same_fields structs _ _ = false

-- two structs of one tag, or named by one typedef
abbrev pub have_one_name : StructDef → StructDef → Bool
have_one_name a b = bytes_eq b.tag a.tag && both_or_neither b.tagged a.tagged

-- an incomplete type is equal to an incomplete one alone
abbrev pub have_same_fields : List (Option ℕ) → StructDef → StructDef → Bool
have_same_fields structs a b = both_or_neither a.complete b.complete && same_fields structs a.fields b.fields

-- the struct of theirs that is equal to one of ours: the one of its name, if the fields are the same
abbrev pub equal_struct : List (Option ℕ) → List StructDef → StructDef → Option ℕ
equal_struct structs theirs a = sought (have_one_name a) (λ number b. if have_same_fields structs a b then Some number else None) theirs

-- the partners of further structs, after those that are known: a struct holds only structs that stand before it
abbrev pub struct_partners_from : List StructDef → List (Option ℕ) → List StructDef → List (Option ℕ)
struct_partners_from theirs known [] = known
struct_partners_from theirs known (a ∷ rest) = struct_partners_from theirs (known ++ equal_struct known theirs a ∷ []) rest

-- for each of our structs the equal one of theirs, if there is one
abbrev pub struct_partners : List StructDef → List StructDef → List (Option ℕ)
struct_partners ours theirs = struct_partners_from theirs [] ours

-- ---- a struct by its name, and whether that is a tag

abbrev pub struct_key : StructDef → List ℕ × ℕ
struct_key s = (s.tag, if s.tagged then 1 else 0)

abbrev pub struct_keys : List StructDef → List (Option (List ℕ × ℕ))
struct_keys = map (λ (s : StructDef). Some (struct_key s))
