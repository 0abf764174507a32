use Rattle.std.proofs.Common.{◌≡◌, ◌++◌, drop}
use Rattle.c_meaning.specs.Runs.{parameter_cells}
use Rattle.c_places.proofs.calls.push_parameters.Given as goal

abbrev pub invariant-loop-local : goal.invariant-loop-local
invariant-loop-local l = l.locals.items ++ parameter_cells (drop l.local-index l.params) l.left ≡ l.initial.locals.items ++ parameter_cells l.params l.arguments
