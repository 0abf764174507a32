use Rattle.std.proofs.Common.{Some, option_map, min, ◌*◌, ap, sym, ◌∙◌}
use Rattle.typing_base.proofs.Products.{cells_of_items}
use Rattle.typing_base.proofs.sizes.cells_of_items.Goals as goal

pub returns-in-Some : goal.returns-in-Some
returns-in-Some c = ap Some c.times.ensures ∙ ap (option_map (λ n. min 4294967295 (c.args.count * n))) c.in-Some.ensures ∙ sym (cells_of_items c.args.count _)
