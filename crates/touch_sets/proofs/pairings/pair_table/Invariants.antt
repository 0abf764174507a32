use Rattle.std.proofs.Common.{◌≡◌, ℕ, None, take}
use Rattle.std.specs.Prelude.{slice_index_or}
use Rattle.core_ir.specs.Joint.{pair_from}
use Rattle.touch_sets.specs.Touching.{side_of}
use Rattle.touch_sets.proofs.pairings.pair_table.Given as goal

abbrev pub invariant-pairs : goal.invariant-pairs
invariant-pairs l = (u : ℕ) → slice_index_or l.table.items u None ≡ pair_from (side_of l.old_side) u 0 (take l.place l.pairs)
