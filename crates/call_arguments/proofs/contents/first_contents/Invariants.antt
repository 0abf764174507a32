use Rattle.std.proofs.Common.{◌≡◌, ◌++◌, drop}
use Rattle.c_meaning.specs.Promises.{mutable_cells}
use Rattle.call_arguments.proofs.contents.first_contents.Given as goal

abbrev pub invariant-loop-object : goal.invariant-loop-object
invariant-loop-object l = l.cells.items ++ mutable_cells (drop l.object-index l.object-items) ≡ mutable_cells l.object-items
