use Rattle.std.proofs.Common.{◌≡◌, ℕ, length}
use Rattle.joint_objects.specs.Tallies.{with_functions, tally_in, nothing_met}
use Rattle.joint_objects.proofs.tallies.tallies.Given as goal

-- what was met so far, and then the functions that are left
abbrev pub invariant-functions : goal.invariant-functions
invariant-functions l = (place : ℕ) → with_functions place l.number l.left (tally_in l.table place) ≡ with_functions place 0 l.initial.left nothing_met

abbrev pub decreases-functions : goal.decreases-functions
decreases-functions l = length l.left
