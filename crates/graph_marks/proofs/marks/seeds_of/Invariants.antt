use Rattle.std.proofs.Common.{take}
use Rattle.graph_marks.specs.Marks.{AreSeeds}
use Rattle.graph_marks.proofs.marks.seeds_of.Given as goal

abbrev pub invariant-seeds : goal.invariant-seeds
invariant-seeds l = AreSeeds (take l.vertex l.seeds) l.vertices.items
