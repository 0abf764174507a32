use Rattle.std.proofs.Common.{◌≡◌, ℕ, ◌+◌, ◌-◌, length}
use Rattle.local_objects.specs.ObjectTables.{is_flagged}
use Rattle.c_elab.proofs.flags.make_room.Given as goal

abbrev pub invariant-loop-flags : goal.invariant-loop-flags
invariant-loop-flags l = (k : ℕ) → is_flagged l.flags.items k ≡ is_flagged l.initial.flags.items k

abbrev pub decreases-loop-flags : goal.decreases-loop-flags
decreases-loop-flags l = l.number + 1 - length l.flags.items
