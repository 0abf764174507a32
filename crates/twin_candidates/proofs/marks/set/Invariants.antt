use Rattle.std.proofs.Common.{◌≡◌, ℕ, ◌-◌, ◌+◌, length, get_or, false}
use Rattle.twin_candidates.proofs.marks.set.Given as goal

-- what was pushed isn't set
abbrev pub invariant-longer : goal.invariant-longer
invariant-longer l = (n : ℕ) → get_or l.marks.items n false ≡ get_or l.initial.marks.items n false

abbrev pub decreases-longer : goal.decreases-longer
decreases-longer l = l.place + 1 - length l.marks.items
