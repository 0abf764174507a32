use Rattle.std.proofs.Common.{◌≡◌, ◌++◌}
use Rattle.joint_programs.specs.Objects.{repeated_cells}
use Rattle.joint_programs.proofs.arrays.cells_repeated.Given as goal

-- the cells so far, and then those of the elements that are left
abbrev pub invariant-elements : goal.invariant-elements
invariant-elements l = l.all.items ++ repeated_cells l.left l.fn.cells ≡ repeated_cells l.fn.count l.fn.cells

abbrev pub decreases-elements : goal.decreases-elements
decreases-elements l = l.left
