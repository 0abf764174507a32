use Rattle.std.proofs.Common.{◌≡◌, ◌++◌, map, reverse, vec_len}
use Rattle.object_numbers.specs.NumberedObjects.{parts}
use Rattle.object_numbers.proofs.functions.renumbered.Given as goal

-- those that are done, and those that are left
abbrev pub invariant-turned : goal.invariant-turned
invariant-turned l = map parts l.done.items ++ reverse (map parts l.turned.items) ≡ reverse (map parts l.initial.turned.items)

abbrev pub decreases-turned : goal.decreases-turned
decreases-turned l = vec_len l.turned
