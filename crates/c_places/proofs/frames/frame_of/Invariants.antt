use Rattle.std.proofs.Common.{◌≡◌, ◌++◌, drop, map}
use Rattle.c_meaning.specs.Runs.{first_cells}
use Rattle.c_places.proofs.frames.frame_of.Given as goal

abbrev pub invariant-loop-local : goal.invariant-loop-local
invariant-loop-local l = l.out ++ map (first_cells l.structs) (drop l.local-index l.function.locals) ≡ map (first_cells l.structs) l.function.locals
