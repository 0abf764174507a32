use Rattle.std.proofs.Common.{◌≡◌, ◌+◌}
use Rattle.c_syntax.specs.Views.{values_view}
use Rattle.c_syntax.specs.declared.declarations.Values.{size-Values}
use Rattle.file_typing.specs.DeclaratorTypes.{count_values}
use Rattle.declarator_types.proofs.lengths.count_values.Given as goal

abbrev pub invariant-loop-rest : goal.invariant-loop-rest
invariant-loop-rest l = l.count + count_values (values_view l.rest) ≡ count_values (values_view l.fn.members)

abbrev pub decreases-loop-rest : goal.decreases-loop-rest
decreases-loop-rest l = size-Values l.rest
