use Rattle.std.proofs.Common.{◌≡◌, drop}
use Rattle.std.specs.Prelude.{fold}
use Rattle.uf_abstraction.proofs.Loops.{IsGrown, made}
use Rattle.uf_abstraction.specs.Testing.{or_target}
use Rattle.uf_abstraction.proofs.pointers.on_targets.Given as goal

abbrev pub invariant-targets : goal.invariant-targets
invariant-targets l =
    (fold (or_target l.to_const l.object l.cell) (made l.circuit l.lit) (drop l.at l.targets) ≡ fold (or_target l.to_const l.object l.cell) (made l.initial.circuit l.initial.lit) l.targets)
    × IsGrown l.initial.circuit l.circuit l.lit
