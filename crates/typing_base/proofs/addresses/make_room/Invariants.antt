use Rattle.std.proofs.Common.{◌≡◌, ℕ, ◌+◌, ◌-◌, length, false, slice_index_or}
use Rattle.typing_base.proofs.addresses.make_room.Given as goal

abbrev pub invariant-loop-flags : goal.invariant-loop-flags
invariant-loop-flags l = (k : ℕ) → slice_index_or l.flags.items k false ≡ slice_index_or l.initial.flags.items k false

abbrev pub decreases-loop-flags : goal.decreases-loop-flags
decreases-loop-flags l = l.number + 1 - length l.flags.items
