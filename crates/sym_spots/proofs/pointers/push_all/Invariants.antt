use Rattle.std.proofs.Common.{◌≡◌, ◌++◌, drop}
use Rattle.sym_spots.specs.Aims.{starts_from}
use Rattle.sym_spots.proofs.pointers.push_all.Given as goal

abbrev pub invariant-objects : goal.invariant-objects
invariant-objects l = l.starts.items ++ starts_from l.pointee l.number (drop l.number l.objects) ≡ l.initial.starts.items ++ starts_from l.pointee 0 l.objects
