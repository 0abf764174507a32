use Rattle.std.proofs.Common.{◌≡◌, ◌++◌, drop}
use Rattle.c_places.specs.Kept.{put_back}
use Rattle.c_places.proofs.calls.rebuilt.Given as goal

abbrev pub invariant-loop-object : goal.invariant-loop-object
invariant-loop-object l = l.out.items ++ put_back l.number (drop l.object-index l.objects) l.left l.rest ≡ put_back l.number l.objects l.cells l.store
