use Rattle.std.proofs.Common.{◌≡◌, ◌++◌}
use Rattle.std.specs.List.{repeat}
use Rattle.file_state.proofs.structs.push_repeated.Given as goal

abbrev pub invariant-items : goal.invariant-items
invariant-items l = record {
  whole : l.kinds.items ++ repeat l.left l.item ≡ l.initial.kinds.items ++ repeat l.fn.count l.item;
}

abbrev pub decreases-items : goal.decreases-items
decreases-items l = l.left
