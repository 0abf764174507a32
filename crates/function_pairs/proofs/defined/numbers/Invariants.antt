use Rattle.std.proofs.Common.{◌≡◌, ◌≤◌, ℕ, List, drop, length}
use Rattle.std.specs.List.{position_from}
use Rattle.function_pairs.specs.Defined.{defines, number_in}
use Rattle.function_pairs.proofs.defined.numbers.Given as goal

-- those from here on have their numbers
abbrev pub invariant-functions : goal.invariant-functions
invariant-functions l = record {
  within : l.left ≤ length l.functions;
  numbered : (name : List ℕ) → number_in name l.table ≡ position_from (defines name) l.left (drop l.left l.functions);
}

abbrev pub decreases-functions : goal.decreases-functions
decreases-functions l = l.left
