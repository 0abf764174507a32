use Rattle.std.proofs.Common.{◌≡◌, take}
use Rattle.std.specs.Prelude.{map}
use Rattle.sym_constants.specs.Constants.{zero_value}
use Rattle.sym_exec.proofs.units.zeros.Given as goal

abbrev pub invariant-shapes : goal.invariant-shapes
invariant-shapes l = l.zeros.items ≡ map zero_value (take l.shape-index l.shapes)
