use Rattle.std.proofs.Common.{rules, ◌<◌, ◌∙◌}
use Rattle.file_state.proofs.Completed.{repeat_step}
use Rattle.file_state.proofs.structs.push_repeated.Goals as goal

pub items-preserved : goal.items-preserved
items-preserved c =
    let more : 0 < c.items.left = search rules in
    record { whole = rw c.in_ok-extend_from_slice.ensures.items (repeat_step c.items.kinds.items c.args.item.now c.items.left more ∙ c.items.invariant.whole) }
