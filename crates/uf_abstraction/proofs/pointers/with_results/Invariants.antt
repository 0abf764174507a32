use Rattle.std.proofs.Common.{◌≡◌, drop}
use Rattle.uf_abstraction.proofs.Loops.{IsGrown, made}
use Rattle.uf_abstraction.specs.Testing.{with_results}
use Rattle.uf_abstraction.proofs.pointers.with_results.Given as goal

abbrev pub invariant-results : goal.invariant-results
invariant-results l =
    (with_results l.targets (made l.circuit l.lit) (drop l.at l.shapes) (drop l.at l.values) ≡ with_results l.targets (made l.initial.circuit l.initial.lit) l.shapes l.values)
    × IsGrown l.initial.circuit l.circuit l.lit
