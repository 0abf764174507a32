use Rattle.std.proofs.Common.{◌≡◌, ◌++◌, drop}
use Rattle.joint_objects.specs.Indexes.{keys_view}
use Rattle.joint_objects.specs.Counts.{declaration_keys, declared_views}
use Rattle.joint_objects.proofs.declarations.declaration_keys_of.Given as goal

abbrev pub invariant-loop-number : goal.invariant-loop-number
invariant-loop-number l = keys_view l.keys.items ++ declaration_keys (declared_views (drop l.number l.fn.list)) ≡ declaration_keys (declared_views l.fn.list)
