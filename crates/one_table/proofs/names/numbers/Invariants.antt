use Rattle.std.proofs.Common.{◌≡◌, ◌≤◌, ℕ, List, drop, length}
use Rattle.std.specs.List.{position_from}
use Rattle.std.specs.Str.{bytes_eq}
use Rattle.one_table.specs.Names.{named_number}
use Rattle.one_table.proofs.names.numbers.Given as goal

-- those from here on have their numbers
abbrev pub invariant-functions : goal.invariant-functions
invariant-functions l = record {
  within : l.left ≤ length l.functions;
  numbered : (name : List ℕ) → named_number name l.table ≡ position_from (λ f. bytes_eq f.name name) l.left (drop l.left l.functions);
}

abbrev pub decreases-functions : goal.decreases-functions
decreases-functions l = l.left
