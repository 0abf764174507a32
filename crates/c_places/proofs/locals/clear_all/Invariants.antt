use Rattle.std.proofs.Common.{◌≡◌, ◌++◌, drop, take, map}
use Rattle.c_meaning.specs.Stores.{cleared}
use Rattle.c_places.proofs.locals.clear_all.Given as goal

abbrev pub invariant-loop-at : goal.invariant-loop-at
invariant-loop-at l = l.cells ≡ map cleared (take l.at l.initial.cells) ++ drop l.at l.initial.cells
