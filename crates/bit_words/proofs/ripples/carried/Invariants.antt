use Rattle.bit_words.specs.Rippling.{IsCarrying}
use Rattle.bit_words.proofs.ripples.carried.Given as goal

abbrev pub invariant-loop-at : goal.invariant-loop-at
invariant-loop-at l = IsCarrying l.initial.circuit l.circuit l.which l.a l.b l.initial.carry l.carry l.at
