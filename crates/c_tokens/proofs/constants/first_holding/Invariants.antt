use Rattle.std.proofs.Common.{◌≡◌, length}
use Rattle.c_tokens.specs.Constants.{first_holding}
use Rattle.c_tokens.proofs.constants.first_holding.Given as goal

abbrev pub invariant-loop-kinds : goal.invariant-loop-kinds
invariant-loop-kinds l = first_holding l.kinds l.value ≡ first_holding l.initial.kinds l.value

abbrev pub decreases-loop-kinds : goal.decreases-loop-kinds
decreases-loop-kinds l = length l.kinds
