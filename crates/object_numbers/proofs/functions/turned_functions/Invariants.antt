use Rattle.std.proofs.Common.{◌≡◌, ◌++◌, map, reverse, length}
use Rattle.object_numbers.specs.NumberedObjects.{parts, renumbered}
use Rattle.object_numbers.proofs.functions.turned_functions.Given as goal

-- those that are left, and those that are done
abbrev pub invariant-rest : goal.invariant-rest
invariant-rest l =
    map (λ one. renumbered l.numbers (parts one)) l.rest ++ reverse (map parts l.done.items) ≡ map (λ one. renumbered l.numbers (parts one)) l.initial.rest

abbrev pub decreases-rest : goal.decreases-rest
decreases-rest l = length l.rest
