use Rattle.std.proofs.Common.{◌≡◌, take}
use Rattle.std.specs.Prelude.{map}
use Rattle.aig_build.specs.Circuits.{opposite}
use Rattle.bit_words.proofs.ripples.opposites.Given as goal

abbrev pub invariant-loop-lit : goal.invariant-loop-lit
invariant-loop-lit l = l.others.items ≡ map opposite (take l.lit-index l.lits)
