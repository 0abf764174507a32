use Rattle.std.proofs.Common.{◌∙◌, arith}
use Rattle.std.proofs.lemmas.Int.{ints}
use Rattle.c_cells.proofs.Values.{of_wrapped}
use Rattle.c_cells.proofs.cells.Cell.of_number.Goals as goal

pub returns-then-is_short : goal.returns-then-is_short
returns-then-is_short c = c.wrapped.ensures ∙ of_wrapped c.args.number _ _ c.kind-then-is_short.ensures (omega (arith, ints, c.short_value.ensures.value)) c.short_value.ensures.range
