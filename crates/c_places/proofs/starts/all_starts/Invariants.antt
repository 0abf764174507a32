use Rattle.std.proofs.Common.{List, ◌++◌, drop}
use Rattle.rvt_tree.specs.declared.types.Pointee.{Pointee}
use Rattle.c_meaning.specs.Stores.{objects_of}
use Rattle.c_places.specs.Starts.{AreAllStarts}
use Rattle.c_places.proofs.starts.all_starts.Given as goal

-- together with what is right for the objects that are left
abbrev pub invariant-loop-object : goal.invariant-loop-object
invariant-loop-object l = (others : List (List (List Pointee))) → AreAllStarts l.program others (drop l.object-index (objects_of l.program)) →
    AreAllStarts l.program (l.out.items ++ others) (objects_of l.program)
