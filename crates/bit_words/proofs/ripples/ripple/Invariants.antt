use Rattle.bit_words.specs.Rippling.{IsRippling}
use Rattle.bit_words.proofs.ripples.ripple.Given as goal

abbrev pub invariant-loop-at : goal.invariant-loop-at
invariant-loop-at l = IsRippling l.initial.circuit l.circuit l.which l.a l.b l.bits.items l.initial.carry l.carry l.at
