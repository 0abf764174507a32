-- How much a type has of cells and bytes, where a count beyond all limits need not be exact.
use Rattle.std.specs.Prelude.{ℕ, ◌*◌, min, [], ◌∷◌, Option, Some, None, option_map, unsigned_abs}
use Rattle.rvt_num.specs.declared.kinds.Kind.{Kind}
use Rattle.rvt_tree.specs.declared.places.Place.{Place}
use Rattle.c_types.specs.Layout.{Shape, AWord, APointer, AnArray, AStruct}
use Rattle.expression_typing.specs.Operands.{Operand}
use Rattle.expression_typing.specs.Outcomes.{Checking, give, and_then, wanted, incomplete_type, not_in_profile}
use Rattle.expression_typing.specs.SizeofOperator.{bytes_of_kind, fits_a_type, size_value}
use Rattle.expression_typing.specs.TypeNames.{Lengths}

-- a count, or the greatest that is counted
abbrev pub capped : ℕ → ℕ
capped n = min 4294967295 n

-- the kind of what a type has in each cell, if it has integers of one kind alone
abbrev pub kind_within : Shape → Option Kind
kind_within (AWord kind) = Some kind
kind_within (AnArray item count) = kind_within item
kind_within (APointer pointee to_constant) = None
kind_within (AStruct number) = None

-- the innermost elements of an array of these lengths; none if a length is wanting
abbrev pub elements_of : Lengths → Option ℕ
elements_of [] = Some 1
elements_of (None ∷ inner) = None
elements_of (Some length ∷ inner) = option_map (λ n. unsigned_abs length * n) (elements_of inner)

-- the cells of so many elements
abbrev pub cells_of_array : Option ℕ → Option ℕ → Option ℕ
cells_of_array (Some count) (Some cells) = Some (count * cells)
cells_of_array _ _ = None

-- `sizeof` a type of these cells, each of this kind
abbrev pub size_of_cells : Place → Option ℕ → Option Kind → Checking Operand
size_of_cells at cells kind =
    and_then (wanted incomplete_type at cells) (λ n.
    and_then (fits_a_type at n) (λ _.
    and_then (wanted not_in_profile at (option_map (λ kind. n * bytes_of_kind kind) kind)) (λ bytes.
    give (size_value bytes))))
