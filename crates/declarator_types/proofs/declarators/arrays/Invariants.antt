use Rattle.std.proofs.Common.{◌≡◌, ◌≤◌, drop, length}
use Rattle.c_types.specs.Layout.{shape_of}
use Rattle.file_typing.specs.DeclaratorTypes.{arrays}
use Rattle.declarator_types.proofs.declarators.arrays.Given as goal

abbrev pub invariant-loop-left : goal.invariant-loop-left
invariant-loop-left l = record {
  few : l.left ≤ length l.lengths;
  built : shape_of l.made ≡ arrays (drop l.left l.lengths) (shape_of l.fn.item);
}

abbrev pub decreases-loop-left : goal.decreases-loop-left
decreases-loop-left l = l.left
