use Rattle.std.proofs.Common.{◌≡◌, ℕ, ◌<◌, ◌≤◌, true, false, length, slice_get}
use Rattle.rvt_tree.specs.Same.{ArePaired}
use Rattle.c_meaning.specs.Twins.{AreTwins}
use Rattle.twin_check.specs.Sets.{IsWithin, HasEveryClosed, partners}
use Rattle.twin_check.proofs.sets.take_out_others.Given as goal

abbrev pub invariant-loop-f : goal.invariant-loop-f
invariant-loop-f l = record {
  as_long : length l.pairing.functions ≡ length l.initial.pairing.functions;
  within : IsWithin l.pairing l.initial.pairing;
  every : HasEveryClosed l.old l.other l.initial.pairing l.pairing;
  fewer : l.shrank ≡ true → partners l.pairing.functions < partners l.initial.pairing.functions;
  no_more : partners l.pairing.functions ≤ partners l.initial.pairing.functions;
  twins : l.shrank ≡ false → (k g : ℕ) → k < l.f → ArePaired l.pairing.functions k g → AreTwins l.pairing (slice_get l.old.functions k) (slice_get l.other.functions g);
}
