use Rattle.std.proofs.Common.{◌∙◌, ◌<◌, sym, ap, slice_set, swap_remove, length, subst}
use Rattle.unit_propagation.specs.Watching.{entries}
use Rattle.unit_propagation.proofs.Tables.{entries_at, entries_set, swap_remove_default}
use Rattle.unit_propagation.proofs.watches.leave.Goals as goal

pub returns : goal.returns
returns c =
    let at = entries_at c.args.lists.now.items c.args.code c.index_mut.result.now c.requires.within c.index_mut.ensures.value in
    entries_set c.args.lists.now.items c.args.code c.swap_remove.new.self ∙ ap (slice_set (entries c.args.lists.now.items) c.args.code) (c.swap_remove.ensures.items ∙ swap_remove_default c.index_mut.result.now.items c.args.place c.swap_remove.result 0 (subst (λ xs. c.args.place < length xs) at c.requires.in_list) ∙ ap (λ xs. swap_remove xs c.args.place 0) (sym at))
