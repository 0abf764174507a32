use Rattle.std.proofs.Common.{◌≡◌, ◌*◌, min, option_map}
use Rattle.c_types.specs.Layout.{shape_of}
use Rattle.expression_typing.specs.Entities.{cells_of}
use Rattle.typing_base.specs.Views.{structures_view}
use Rattle.typing_base.proofs.sizes.cells_of.Given as goal

abbrev pub invariant-items : goal.invariant-items
invariant-items l =
    option_map (min 4294967295) (cells_of (structures_view l.fn.structs) (shape_of l.fn.ty)) ≡ option_map (λ n. min 4294967295 (l.factor * n)) (cells_of (structures_view l.fn.structs) (shape_of l.rest))
