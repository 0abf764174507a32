use Rattle.std.proofs.Common.{◌≡◌, ◌≤◌, ℕ, List, drop, length}
use Rattle.function_pairs.specs.Counterparts.{name_in, old_name}
use Rattle.function_pairs.proofs.counterparts.old_names.Given as goal

-- the table has what the lines from here on say
abbrev pub invariant-lines : goal.invariant-lines
invariant-lines l = record {
  within : l.left ≤ length l.fn.lines;
  named : (name : List ℕ) → name_in name l.table ≡ old_name (drop l.left l.fn.lines) name;
}

abbrev pub decreases-lines : goal.decreases-lines
decreases-lines l = l.left
