use Rattle.std.proofs.Common.{◌≡◌, ◌++◌, None, take}
use Rattle.std.specs.Prelude.{slice_index_or}
use Rattle.call_groups.specs.Groups.{pairs_of}
use Rattle.call_groups.proofs.pairs.push_callees.Given as goal

abbrev pub invariant-calls : goal.invariant-calls
invariant-calls l = l.row.items ≡ l.initial.row.items ++ pairs_of (λ u. slice_index_or l.pairs u None) (take l.callee-index l.callee-items)
