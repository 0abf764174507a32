use Rattle.std.proofs.Common.{length, ◌-◌, ◌≡◌, ◌≤◌, ℕ, Option}
use Rattle.c_layout.specs.Sizes.{Agrees, counted, types_of}
use Rattle.c_layout.proofs.sizes.count_fields.Given as goal

-- what was counted so far, with the rest, is what was to be counted
abbrev pub invariant-fields : goal.invariant-fields
invariant-fields l = record {
  same : l.frame.number ≡ l.initial.frame.number;
  few : l.frame.size ≤ 4097;
  counts : (known : ℕ → Option ℕ) → Agrees l.marks known → counted known l.frame (types_of l.fields) ≡ counted known l.initial.frame (types_of l.fields);
}

abbrev pub decreases-fields : goal.decreases-fields
decreases-fields l = length l.fields - l.frame.next
