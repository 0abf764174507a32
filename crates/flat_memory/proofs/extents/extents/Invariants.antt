use Rattle.std.proofs.Common.{◌≡◌, ◌++◌, drop}
use Rattle.flat_memory.specs.Extents.{extents_from}
use Rattle.flat_memory.proofs.extents.extents.Given as goal

-- the extents so far, and those of the objects that are left
abbrev pub invariant-loop-object : goal.invariant-loop-object
invariant-loop-object l = l.out.items ++ extents_from l.first l.constants (drop l.object-index l.objects) ≡ extents_from 0 0 l.objects
