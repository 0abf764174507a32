use Rattle.std.proofs.Common.{◌∙◌, ◌++◌, ◌∷◌, [], sym, ap, slice_set}
use Rattle.unit_propagation.specs.Watching.{entries}
use Rattle.unit_propagation.proofs.Tables.{entries_at, entries_set}
use Rattle.unit_propagation.proofs.watches.enter.Goals as goal

pub returns : goal.returns
returns c =
    entries_set c.args.lists.now.items c.args.code c.push.new.self ∙ ap (slice_set (entries c.args.lists.now.items) c.args.code) (c.in-Ok.ensures.items ∙ ap (λ xs. xs ++ c.args.clause ∷ []) (sym (entries_at c.args.lists.now.items c.args.code c.index_mut.result.now c.requires c.index_mut.ensures.value)))
