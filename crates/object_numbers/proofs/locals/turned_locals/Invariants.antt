use Rattle.std.proofs.Common.{◌≡◌, ◌++◌, map, reverse, length}
use Rattle.object_numbers.specs.NumberedObjects.{local_renumbered}
use Rattle.object_numbers.proofs.locals.turned_locals.Given as goal

-- those that are left, and those that are done
abbrev pub invariant-rest : goal.invariant-rest
invariant-rest l = map (local_renumbered l.numbers) l.rest ++ reverse l.done.items ≡ map (local_renumbered l.numbers) l.initial.rest

abbrev pub decreases-rest : goal.decreases-rest
decreases-rest l = length l.rest
