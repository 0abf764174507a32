use Rattle.std.proofs.Common.{◌≡◌, ◌++◌, drop}
use Rattle.c_places.proofs.calls.push_others.Given as goal

abbrev pub invariant-loop-cells : goal.invariant-loop-cells
invariant-loop-cells l = l.locals.items ++ drop l.cells-index l.others ≡ l.initial.locals.items ++ l.others
