use Rattle.std.proofs.Common.{◌≡◌, ◌≤◌, length, drop}
use Rattle.joint_programs.specs.Numbers.{places_from}
use Rattle.joint_programs.proofs.numbers.numbers_in.Given as goal

-- the places in the part of the table that is done
abbrev pub invariant-table : goal.invariant-table
invariant-table l = (l.left ≤ length l.fn.table) × (l.numbers.items ≡ places_from l.left (drop l.left l.fn.table) 0 l.fn.count)

abbrev pub decreases-table : goal.decreases-table
decreases-table l = l.left
