use Rattle.std.proofs.Common.{◌≡◌}
use Rattle.c_types.specs.Layout.{shape_of}
use Rattle.file_typing.specs.DeclaratorTypes.{has_pointer}
use Rattle.rvt_tree.specs.declared.types.CType.{size-CType}
use Rattle.declarator_types.proofs.shapes.has_pointer.Given as goal

abbrev pub invariant-loop-rest : goal.invariant-loop-rest
invariant-loop-rest l = has_pointer (shape_of l.rest) ≡ has_pointer (shape_of l.fn.ty)

abbrev pub decreases-loop-rest : goal.decreases-loop-rest
decreases-loop-rest l = size-CType l.rest
