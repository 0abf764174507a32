use Rattle.std.proofs.Common.{◌≡◌, ◌++◌, drop}
use Rattle.sym_places.specs.Bases.{bases_from}
use Rattle.sym_places.proofs.bases.bases_of.Given as goal

abbrev pub invariant-objects : goal.invariant-objects
invariant-objects l = l.bases.items ++ bases_from l.next (drop l.object-index l.objects) ≡ bases_from 0 l.objects
