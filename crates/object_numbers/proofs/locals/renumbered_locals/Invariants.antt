use Rattle.std.proofs.Common.{◌≡◌, ◌++◌, reverse, vec_len}
use Rattle.object_numbers.proofs.locals.renumbered_locals.Given as goal

-- those that are done, and those that are left
abbrev pub invariant-turned : goal.invariant-turned
invariant-turned l = l.done.items ++ reverse l.turned.items ≡ reverse l.initial.turned.items

abbrev pub decreases-turned : goal.decreases-turned
decreases-turned l = vec_len l.turned
