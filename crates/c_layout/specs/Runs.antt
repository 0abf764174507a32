-- Values of types that are still to be listed, and their plan.
use Rattle.std.specs.Prelude.{ℕ, suc, List, [], ◌∷◌, length, slice_get, Option, Some, None, option_map, option_and_then}
use Rattle.rvt_num.specs.declared.kinds.Kind.{Kind}
use Rattle.rvt_tree.specs.declared.types.CType.{CType}
use Rattle.rvt_tree.specs.declared.types.CType.TheVariants.{Word, Pointer, Array', Struct}
use Rattle.rvt_tree.specs.declared.programs.Structs.{Structs}
use Rattle.c_types.specs.declared.layouts.Cells.{Cells}
use Rattle.c_types.specs.Layout.{Plan, empty, followed_by, repeated, plan_with, plan_of_struct, plan_of_definition, shape_of, starts_of}
use Rattle.c_layout.specs.declared.plans.Run.{Run}

-- what is listed so far
abbrev pub listed : Cells → Plan
listed cells = record { cells = cells.cells.items; starts = starts_of cells.starts.items }

abbrev pub known_plans : Structs → ℕ → Option Plan
known_plans structs = plan_of_struct structs (length structs.list)

abbrev pub both : Option Plan → Option Plan → Option Plan
both first second = option_and_then (λ plan. option_map (followed_by plan) second) first

abbrev pub several : (ℕ → Option Plan) → CType → ℕ → Option Plan
several known ty count = option_map (repeated count) (plan_with known ty)

-- the last run comes first
abbrev pub plan_of_runs : (ℕ → Option Plan) → List Run → Option Plan
plan_of_runs known [] = Some empty
plan_of_runs known (run ∷ runs) = both (plan_of_runs known runs) (several known run.ty.now (suc run.more))

-- that a value begins, with its cell where it has one of its own
abbrev pub own_cells : CType → List (Option Kind)
own_cells (Word kind) = Some kind ∷ []
own_cells (Pointer pointee constant) = None ∷ []
own_cells (Array' p element count) = []
own_cells (Struct number) = []

abbrev pub head : CType → Plan
head ty = record { cells = own_cells ty; starts = record { what = shape_of ty; cell = 0 } ∷ [] }

-- the elements or the fields of a value
abbrev pub inside : Structs → CType → Option Plan
inside structs (Word kind) = Some empty
inside structs (Pointer pointee constant) = Some empty
inside structs (Array' p element count) = several (known_plans structs) element count
inside structs (Struct number) = plan_of_definition (known_plans structs) (slice_get structs.list number)

abbrev pub starts_left : Option Plan → ℕ
starts_left None = 0
starts_left (Some plan) = length plan.starts
