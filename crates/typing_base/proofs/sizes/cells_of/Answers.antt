use Rattle.std.proofs.Common.{◌*◌, min, option_map, ap, ◌∙◌}
use Rattle.rvt_tree.specs.declared.types.CType.{CType}
use Rattle.c_types.specs.Layout.{shape_of}
use Rattle.expression_typing.specs.Entities.{cells_of}
use Rattle.typing_base.specs.Views.{structures_view}
use Rattle.typing_base.proofs.Products.{cells_of_item}
use Rattle.typing_base.proofs.sizes.cells_of.Goals as goal

pub items-preserved : goal.items-preserved
items-preserved c =
    rw (c.times-factor.ensures, c.deref-rest.ensures) (c.items.invariant ∙ ap (λ (ty : CType). option_map (λ n. min 4294967295 (c.items.factor * n)) (cells_of (structures_view c.args.structs.now) (shape_of ty))) c.in-Array.is ∙ cells_of_item c.items.factor c.in-Array.count _)
