use Rattle.std.proofs.Common.{◌≡◌, ◌+◌, drop}
use Rattle.flat_memory.specs.Extents.{store_length}
use Rattle.flat_memory.proofs.objects.stored.Given as goal

abbrev pub invariant-loop-object : goal.invariant-loop-object
invariant-loop-object l = l.count + store_length (drop l.object-index l.objects) ≡ store_length l.objects
