use Rattle.std.proofs.Common.{subst, sym}
use Rattle.typing_base.specs.Follows.{GivesOperand}
use Rattle.expression_elaboration.proofs.Caps.{size_of_both}
use Rattle.expression_elaboration.proofs.sizes.size_of_elements.Goals as goal

pub returns : goal.returns
returns c = subst (λ r. GivesOperand r c.size_of_cells.result)
    (sym (size_of_both c.args.at _ _ c.args.cells c.cells_of_array-all.result c.args.kind c.elements_of-elements.ensures c.cells_of_array-all.ensures))
    c.size_of_cells.ensures
