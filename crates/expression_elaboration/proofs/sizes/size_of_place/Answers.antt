use Rattle.std.proofs.Common.{subst, sym}
use Rattle.typing_base.specs.Follows.{GivesOperand}
use Rattle.typing_base.specs.Views.{structures_view, type_view}
use Rattle.expression_elaboration.proofs.Caps.{size_of_counted}
use Rattle.expression_elaboration.proofs.sizes.size_of_place.Goals as goal

pub returns : goal.returns
returns c = subst (λ r. GivesOperand r c.size_of_cells.result)
    (sym (size_of_counted (structures_view c.args.structs.now) c.args.at (type_view c.args.ty) c.cells_of_place-cells.result c.kind_within_place-kind.result
    c.cells_of_place-cells.ensures c.kind_within_place-kind.ensures))
    c.size_of_cells.ensures
