use Rattle.std.proofs.Common.{◌<◌, ◌≢◌, length}
use Rattle.std.specs.Prelude.{IfSome}
use Rattle.unit_propagation.proofs.settling.latest_beside.Given as goal

abbrev pub invariant-loop-place : goal.invariant-loop-place
invariant-loop-place l = record {
  within : IfSome l.latest (λ p. p < length l.clause);
  apart : IfSome l.latest (λ p. p ≢ l.beside);
}
