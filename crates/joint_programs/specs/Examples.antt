-- The joint programs of small files.
use Rattle.std.specs.Prelude.{◌≡◌, ℕ, true, false, List, [], ◌∷◌, map, codes, Option, Some, None, pos}
use Rattle.rvt_num.specs.declared.kinds.Kind.TheVariants.{I32, U8}
use Rattle.rvt_num.specs.declared.values.Value.{Value}
use Rattle.rvt_num.specs.declared.values.Value.TheVariants.{Num}
use Rattle.rvt_tree.specs.declared.programs.Object.{Object}
use Rattle.rvt_tree.specs.declared.programs.Program.{Program}
use Rattle.c_types.specs.Layout.{Shape, AWord, AnArray, AStruct}
use Rattle.version_map.specs.Maps.{nothing_said}
use Rattle.joint_objects.specs.Sides.{Partners}
use Rattle.joint_objects.specs.Examples.{int, a_local, a_function, a_program, globals_only, with_pointers, with_other_pointers}
use Rattle.joint_programs.specs.Parts.{ObjectParts, StructParts, object_parts}
use Rattle.joint_programs.specs.Numbers.{numbers_in}
use Rattle.joint_programs.specs.JointPrograms.{table_of_old, table_of_new, joint_old, joint_new}

abbrev pub number : ℕ → Value
number n = Num (record { kind = I32; value = pos n })

abbrev pub no_pairs : Partners
no_pairs = record { of_old = []; of_new = [] }

-- ---- `const int K = 3;` and `const int K = 4;`: one object, and in each version it has what that version gives it

abbrev pub k : ℕ → Object
k value = record { name = codes "K"; ty = int; constant = true; addressable = false; owner = None; initial = number value ∷ [] }

abbrev pub three : Program
three = globals_only (k 3 ∷ [])

abbrev pub four : Program
four = globals_only (k 4 ∷ [])

abbrev pub ConstantsOfVersions : Type 0
ConstantsOfVersions =
    ((joint_old three four no_pairs nothing_said).objects ≡ object_parts (k 3) ∷ [])
    × ((joint_new three four no_pairs nothing_said).objects ≡ object_parts (k 4) ∷ [])

-- ---- `void f(void) { int x; .. &x .. }`, and behind a further function and a global `void f(void) { }`

abbrev pub x : Object
x = record { name = codes "x"; ty = int; constant = false; addressable = true; owner = Some 0; initial = number 0 ∷ [] }

abbrev pub g : Object
g = record { name = codes "G"; ty = int; constant = false; addressable = false; owner = None; initial = number 7 ∷ [] }

abbrev pub with_local : Program
with_local = a_program [] (a_function (codes "f") [] (a_local (codes "x") int (Some 0) ∷ []) ∷ []) (x ∷ [])

abbrev pub without_local : Program
without_local = a_program [] (a_function (codes "h") [] [] ∷ a_function (codes "f") [] [] ∷ []) (g ∷ [])

abbrev pub f_with_f : Partners
f_with_f = record { of_old = Some 1 ∷ []; of_new = None ∷ Some 0 ∷ [] }

abbrev pub owned_by : Option ℕ → ObjectParts
owned_by owner = record { name = codes "x"; shape = AWord I32; constant = false; addressable = true; owner = owner; initial = number 0 ∷ [] }

-- the global stands first, and x is owned by the `f` of each file
abbrev pub OwnersOfVersions : Type 0
OwnersOfVersions =
    ((joint_old with_local without_local f_with_f nothing_said).objects ≡ object_parts g ∷ owned_by (Some 0) ∷ [])
    × ((joint_new with_local without_local f_with_f nothing_said).objects ≡ object_parts g ∷ owned_by (Some 1) ∷ [])
    × (numbers_in (table_of_old with_local without_local f_with_f nothing_said) 1 ≡ 1 ∷ [])
    × (numbers_in (table_of_new with_local without_local f_with_f nothing_said) 1 ≡ 0 ∷ [])

-- ---- structs of one file alone, and arrays for the pointers to them

abbrev pub a_record : List ℕ → List (List ℕ × Shape) → StructParts
a_record tag fields = record { tag = tag; tagged = true; complete = true; fields = fields }

-- the new file's `struct T` holds its `struct S`, which the old file has too
abbrev pub StructsOfBoth : Type 0
StructsOfBoth =
    (joint_old with_pointers with_other_pointers (record { of_old = Some 0 ∷ []; of_new = Some 0 ∷ None ∷ [] }) nothing_said).structs
    ≡ a_record (codes "S") ((codes "x", AWord I32) ∷ []) ∷ a_record (codes "R") [] ∷ a_record (codes "S") ((codes "x", AWord I32) ∷ [])
    ∷ a_record (codes "T") ((codes "s", AStruct 0) ∷ (codes "y", AWord I32) ∷ []) ∷ []

abbrev pub shapes : List ObjectParts → List Shape
shapes = map (λ (o : ObjectParts). o.shape)

abbrev pub ArraysOfBoth : Type 0
ArraysOfBoth =
    shapes (joint_old with_pointers with_other_pointers (record { of_old = Some 0 ∷ []; of_new = Some 0 ∷ None ∷ [] }) nothing_said).objects
    ≡ AnArray (AWord U8) 8 ∷ AnArray (AWord I32) 8 ∷ AnArray (AWord I32) 8 ∷ AnArray (AStruct 0) 8 ∷ AnArray (AStruct 3) 8 ∷ AnArray (AStruct 3) 8 ∷ []

pub record AreWorked : Type 0 where
  pub constants : ConstantsOfVersions
  pub owners : OwnersOfVersions
  pub structs : StructsOfBoth
  pub arrays : ArraysOfBoth
