use Rattle.std.proofs.Common.{◌≡◌, ◌++◌, drop}
use Rattle.sym_spots.specs.Aims.{starts_in}
use Rattle.sym_spots.proofs.pointers.push_starts.Given as goal

abbrev pub invariant-of : goal.invariant-of
invariant-of l = l.starts.items ++ starts_in l.pointee l.number (drop l.start-index l.of) ≡ l.initial.starts.items ++ starts_in l.pointee l.number l.of
