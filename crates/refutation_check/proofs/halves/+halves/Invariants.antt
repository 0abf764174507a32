use Rattle.std.proofs.Common.{◌+◌, ◌*◌, ◌-◌}
use Rattle.refutation_check.proofs.halves.+halves.Given as goal

abbrev pub decreases-is_new_among : goal.decreases-is_new_among
decreases-is_new_among l = 2 * (l.places.to - l.places.from)

abbrev pub decreases-is_new_without : goal.decreases-is_new_without
decreases-is_new_without l = 2 * (l.left_out.to - l.left_out.from) + 1
