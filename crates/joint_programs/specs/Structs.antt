-- The structs of both files in one program: ours, and behind them theirs.
use Rattle.std.specs.Prelude.{ℕ, ◌+◌, List, map, ◌++◌, length, get_or, unwrap_or, None}
use Rattle.rvt_tree.specs.declared.types.Pointee.{Pointee}
use Rattle.rvt_tree.specs.declared.types.Pointee.TheVariants as P
use Rattle.c_types.specs.Layout.{Shape, AWord, APointer, AnArray, AStruct}
use Rattle.joint_programs.specs.Parts.{StructParts, struct_parts}
use Rattle.joint_programs.specs.Views.{View}

-- the number in our program of a struct of theirs: that of the equal one of ours, or else its own behind all of ours
abbrev pub number_across : View → ℕ → ℕ
number_across view number = unwrap_or (get_or view.structs number None) (length view.ours.structs.list + number)

-- ---- a type of theirs in our program, where each of their structs has this number

abbrev pub pointee_across : (ℕ → ℕ) → Pointee → Pointee
pointee_across number (P.Word kind) = P.Word kind
pointee_across number (P.Struct structure) = P.Struct (number structure)

abbrev pub shape_across : (ℕ → ℕ) → Shape → Shape
shape_across number (AWord kind) = AWord kind
shape_across number (APointer pointee to_constant) = APointer (pointee_across number pointee) to_constant
shape_across number (AnArray element count) = AnArray (shape_across number element) count
shape_across number (AStruct structure) = AStruct (number structure)

abbrev pub field_across : (ℕ → ℕ) → List ℕ × Shape → List ℕ × Shape
field_across number field = (field.0, shape_across number field.1)

abbrev pub struct_across : (ℕ → ℕ) → StructParts → StructParts
struct_across number s = record { tag = s.tag; tagged = s.tagged; complete = s.complete; fields = map (field_across number) s.fields }

-- No type names a struct of theirs that is equal to one of ours; it stands here all the same, so that both programs have as many structs.
abbrev pub joint_structs : View → List StructParts
joint_structs view =
    map struct_parts view.ours.structs.list ++ map (λ s. struct_across (number_across view) (struct_parts s)) view.theirs.structs.list
