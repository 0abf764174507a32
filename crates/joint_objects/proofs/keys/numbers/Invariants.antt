use Rattle.std.proofs.Common.{◌≡◌, ◌≤◌, ℕ, List, drop, length}
use Rattle.std.specs.List.{position_from}
use Rattle.joint_objects.specs.Indexes.{is_key, keys_view, numbered_as}
use Rattle.joint_objects.proofs.keys.numbers.Given as goal

-- those from here on have their numbers
abbrev pub invariant-keys : goal.invariant-keys
invariant-keys l = record {
  within : l.left ≤ length l.fn.keys;
  numbered : (wanted : List ℕ × ℕ) → numbered_as wanted l.table ≡ position_from (is_key wanted) l.left (drop l.left (keys_view l.fn.keys));
}

abbrev pub decreases-keys : goal.decreases-keys
decreases-keys l = l.left
