-- Tables of small files.
use Rattle.std.specs.Prelude.{◌≡◌, ℕ, Bool, true, false, List, [], ◌∷◌, ◌++◌, codes, Option, Some, None}
use Rattle.rvt_num.specs.declared.kinds.Kind.{Kind}
use Rattle.rvt_num.specs.declared.kinds.Kind.TheVariants.{I32, U8}
use Rattle.rvt_tree.specs.declared.types.CType.{CType}
use Rattle.rvt_tree.specs.declared.types.CType.TheVariants as C
use Rattle.rvt_tree.specs.declared.types.Pointee.TheVariants as P
use Rattle.rvt_tree.specs.declared.programs.Object.{Object}
use Rattle.rvt_tree.specs.declared.programs.Local.{Local}
use Rattle.rvt_tree.specs.declared.programs.Function.{Function}
use Rattle.rvt_tree.specs.declared.programs.StructDef.{StructDef}
use Rattle.rvt_tree.specs.declared.programs.Program.{Program}
use Rattle.version_map.specs.declared.map.Listed.{Listed}
use Rattle.version_map.specs.Maps.{Entries, nothing_said}
use Rattle.joint_objects.specs.declared.objects.Origin.TheVariants.{Both, Old, New}
use Rattle.joint_objects.specs.declared.objects.Element.TheVariants as e
use Rattle.joint_objects.specs.declared.objects.JointObject.TheVariants.{Global, Local as AsLocal, Extra, Mapped}
use Rattle.joint_objects.specs.StructTypes.{struct_partners}
use Rattle.joint_objects.specs.Globals.{line_without_global, line_of_unlike}
use Rattle.joint_objects.specs.JointObjects.{joint_table}

abbrev pub int : CType
int = C.Word I32

-- `int NAME;` or `const int NAME;`
abbrev pub an_object : List ℕ → Bool → Object
an_object name constant = record { name = name; ty = int; constant = constant; addressable = false; owner = None; initial = [] }

abbrev pub a_local : List ℕ → CType → Option ℕ → Local
a_local name ty object = record { name = name; ty = ty; constant = false; object = object }

abbrev pub a_function : List ℕ → List Local → List Local → Function
a_function name params locals = record { name = name; params = params; result = None; locals = locals; body = None }

abbrev pub a_struct : List ℕ → List (List ℕ × CType) → StructDef
a_struct tag fields = record { tag = tag; tagged = true; complete = true; fields = fields }

abbrev pub a_program : List StructDef → List Function → List Object → Program
a_program structs functions objects = record { structs = record { list = structs }; functions = functions; table = record { objects = objects } }

abbrev pub globals_only : List Object → Program
globals_only objects = a_program [] [] objects

-- `int A; int B;` and `int B; int A;`
abbrev pub Swapped : Type 0
Swapped =
    joint_table (globals_only (an_object (codes "A") false ∷ an_object (codes "B") false ∷ [])) (globals_only (an_object (codes "B") false ∷ an_object (codes "A") false ∷ [])) [] [] nothing_said
    ≡ Global (Both 0 1) ∷ Global (Both 1 0) ∷ []

-- `int A; int B;` and `int B; int C;`
abbrev pub OneFileAlone : Type 0
OneFileAlone =
    joint_table (globals_only (an_object (codes "A") false ∷ an_object (codes "B") false ∷ [])) (globals_only (an_object (codes "B") false ∷ an_object (codes "C") false ∷ [])) [] [] nothing_said
    ≡ Global (Old 0) ∷ Global (Both 1 0) ∷ Global (New 1) ∷ []

-- `int K;` and `const int K;`
abbrev pub BecameConst : Type 0
BecameConst = joint_table (globals_only (an_object (codes "K") false ∷ [])) (globals_only (an_object (codes "K") true ∷ [])) [] [] nothing_said ≡ Global (Old 0) ∷ Global (New 0) ∷ []

abbrev pub said_globals : List ℕ → List ℕ → Entries
said_globals old new = record { functions = []; globals = record { line = 1; old = old; new = new } ∷ []; objects = [] }

-- the same two files as above with the line `global A B`: the old B isn't matched with the new one
abbrev pub Renamed : Type 0
Renamed =
    joint_table (globals_only (an_object (codes "A") false ∷ an_object (codes "B") false ∷ [])) (globals_only (an_object (codes "B") false ∷ an_object (codes "C") false ∷ [])) [] []
    (said_globals (codes "A") (codes "B"))
    ≡ Global (Both 0 0) ∷ Global (Old 1) ∷ Global (New 1) ∷ []

abbrev pub lines : List Listed
lines = record { line = 3; old = codes "A"; new = codes "B" } ∷ record { line = 4; old = codes "B"; new = codes "D" } ∷ []

-- the second line names no global of the new file; and where it does, one that is `const`
abbrev pub RefusedLines : Type 0
RefusedLines =
    (line_without_global (an_object (codes "A") false ∷ an_object (codes "B") false ∷ []) (an_object (codes "B") false ∷ []) lines ≡ Some 4)
    × (line_of_unlike [] (an_object (codes "A") false ∷ an_object (codes "B") false ∷ []) (an_object (codes "B") false ∷ an_object (codes "D") true ∷ []) lines ≡ Some 4)

-- In the old `f` both locals `x` are objects; in the new one only the second is, behind a parameter of its name in another function.
abbrev pub two_of_one_name : Program
two_of_one_name = a_program [] (a_function (codes "f") [] (a_local (codes "x") int (Some 0) ∷ a_local (codes "x") int (Some 1) ∷ []) ∷ []) []

abbrev pub the_second_alone : Program
the_second_alone =
    a_program []
    (a_function (codes "g") (a_local (codes "x") int (Some 0) ∷ []) [] ∷ a_function (codes "f") [] (a_local (codes "x") int None ∷ a_local (codes "x") int (Some 1) ∷ []) ∷ []) []

abbrev pub TwoOfOneName : Type 0
TwoOfOneName =
    joint_table two_of_one_name the_second_alone (Some 1 ∷ []) (None ∷ Some 0 ∷ []) nothing_said
    ≡ AsLocal (Old 0) 0 ∷ AsLocal (Both 1 1) 1 ∷ AsLocal (New 0) 0 ∷ []

abbrev pub pointer_to : ℕ → Bool → CType
pointer_to number constant = C.Pointer (P.Struct number) constant

-- Both files have `struct S { int x; };`, and the new one `struct R` and `struct T { struct S s; int y; };` too.
-- Old: `void f(int *p, const int *q, const struct S *s)`. New: `void f(int *p); void g(struct T *a, struct T *b, uint8_t *c)`.
abbrev pub with_pointers : Program
with_pointers =
    a_program (a_struct (codes "S") ((codes "x", int) ∷ []) ∷ [])
    (a_function (codes "f") (a_local (codes "p") (C.Pointer (P.Word I32) false) None ∷ a_local (codes "q") (C.Pointer (P.Word I32) true) None ∷ a_local (codes "s") (pointer_to 0 true) None ∷ []) [] ∷ [])
    []

abbrev pub with_other_pointers : Program
with_other_pointers =
    a_program (a_struct (codes "R") [] ∷ a_struct (codes "S") ((codes "x", int) ∷ []) ∷ a_struct (codes "T") ((codes "s", C.Struct 1) ∷ (codes "y", int) ∷ []) ∷ [])
    (a_function (codes "f") (a_local (codes "p") (C.Pointer (P.Word I32) false) None ∷ []) []
    ∷ a_function (codes "g") (a_local (codes "a") (pointer_to 2 false) None ∷ a_local (codes "b") (pointer_to 2 false) None ∷ a_local (codes "c") (C.Pointer (P.Word U8) false) None ∷ []) [] ∷ [])
    []

abbrev pub ExtraArrays : Type 0
ExtraArrays =
    joint_table with_pointers with_other_pointers (Some 0 ∷ []) (Some 0 ∷ None ∷ []) nothing_said
    ≡ Extra (e.Word U8) 0 ∷ Extra (e.Word I32) 0 ∷ Extra (e.Word I32) 1 ∷ Extra (e.Struct (Both 0 1)) 0 ∷ Extra (e.Struct (New 2)) 0 ∷ Extra (e.Struct (New 2)) 1 ∷ []

-- structs are equal where tags and fields are: those in them too
abbrev pub EqualStructs : Type 0
EqualStructs =
    (struct_partners with_pointers.structs.list with_other_pointers.structs.list ≡ Some 1 ∷ [])
    × (struct_partners with_other_pointers.structs.list with_pointers.structs.list ≡ None ∷ Some 0 ∷ None ∷ [])
    × (struct_partners (a_struct (codes "S") ((codes "x", int) ∷ []) ∷ a_struct (codes "T") ((codes "s", C.Struct 0) ∷ []) ∷ [])
    (a_struct (codes "S") ((codes "y", int) ∷ []) ∷ a_struct (codes "T") ((codes "s", C.Struct 0) ∷ []) ∷ [])
    ≡ None ∷ None ∷ [])

pub record AreWorked : Type 0 where
  pub swapped : Swapped
  pub one_file_alone : OneFileAlone
  pub became_const : BecameConst
  pub renamed : Renamed
  pub refused_lines : RefusedLines
  pub two_of_one_name : TwoOfOneName
  pub extra_arrays : ExtraArrays
  pub equal_structs : EqualStructs
