use Rattle.std.proofs.Common.{◌≡◌, ◌++◌, drop}
use Rattle.flat_memory.specs.Extents.{constant_contents}
use Rattle.flat_memory.proofs.objects.constants.Given as goal

-- the contents so far, and those of the objects that are left
abbrev pub invariant-loop-object : goal.invariant-loop-object
invariant-loop-object l = l.out.items ++ constant_contents (drop l.object-index l.objects) ≡ constant_contents l.objects
