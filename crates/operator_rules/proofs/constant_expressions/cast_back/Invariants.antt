use Rattle.std.proofs.Common.{◌≡◌, vec_len}
use Rattle.operator_rules.specs.CastChains.{cast_back}
use Rattle.operator_rules.proofs.constant_expressions.cast_back.Given as goal

abbrev pub invariant-kinds : goal.invariant-kinds
invariant-kinds l = cast_back l.kinds.items l.number ≡ cast_back l.fn.kinds.items l.fn.x

abbrev pub decreases-kinds : goal.decreases-kinds
decreases-kinds l = vec_len l.kinds
