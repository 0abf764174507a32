use Rattle.std.proofs.Common.{◌≡◌, ℕ, length}
use Rattle.joint_objects.specs.Tallies.{with_params, tally_in}
use Rattle.joint_objects.proofs.tallies.tally_params.Given as goal

abbrev pub invariant-params : goal.invariant-params
invariant-params l = (place : ℕ) → with_params place l.fn.function l.left (tally_in l.table place) ≡ with_params place l.fn.function l.initial.left (tally_in l.initial.table place)

abbrev pub decreases-params : goal.decreases-params
decreases-params l = length l.left
