use Rattle.std.proofs.Common.{◌≡◌, drop}
use Rattle.c_places.specs.Starts.{is_among}
use Rattle.c_places.proofs.starts.is_among.Given as goal

abbrev pub invariant-loop-other : goal.invariant-loop-other
invariant-loop-other l = is_among l.pointee (drop l.other-index l.here) ≡ is_among l.pointee l.here
