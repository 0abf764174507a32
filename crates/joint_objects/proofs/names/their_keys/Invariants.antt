use Rattle.std.proofs.Common.{◌≡◌, ◌++◌, drop}
use Rattle.joint_objects.specs.Indexes.{keys_view}
use Rattle.joint_objects.specs.Names.{pair_views, their_keys}
use Rattle.joint_objects.proofs.names.their_keys.Given as goal

abbrev pub invariant-loop-number : goal.invariant-loop-number
invariant-loop-number l = keys_view l.keys.items ++ their_keys (pair_views (drop l.number l.fn.pairs)) ≡ their_keys (pair_views l.fn.pairs)
