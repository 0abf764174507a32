use Rattle.std.proofs.Common.{◌≡◌, ℕ, ◌+◌, ◌-◌, [], length, get_or}
use Rattle.c_places.proofs.rows.make_room.Given as goal

abbrev pub invariant-rows : goal.invariant-rows
invariant-rows g l = (k : ℕ) → get_or l.rows.items k [] ≡ get_or l.initial.rows.items k []

abbrev pub decreases-rows : goal.decreases-rows
decreases-rows g l = l.number + 1 - length l.rows.items
