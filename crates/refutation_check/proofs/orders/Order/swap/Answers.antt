use Rattle.std.proofs.Common.{length, ap, ◌∙◌}
use Rattle.std.proofs.lemmas.List.Edits.{length-swap}
use Rattle.refutation_check.proofs.Permuted.{swapped_same}
use Rattle.refutation_check.proofs.orders.Order.swap.Goals as goal

pub returns-clause-same : goal.returns-clause-same
returns-clause-same c =
    let s = c.swap.ensures in
    swapped_same c.args.self.now.literals.items c.swap.new.self.items c.args.first c.args.second c.requires.first c.requires.second (ap length s.items ∙ length-swap c.args.self.now.literals.items c.args.first c.args.second) s.by_index
