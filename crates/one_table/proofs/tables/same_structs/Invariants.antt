use Rattle.std.proofs.Common.{◌↔◌, length}
use Rattle.one_table.specs.Tables.{SameStructs}
use Rattle.one_table.proofs.tables.same_structs.Given as goal

-- what is left is the same exactly where the whole is
abbrev pub invariant-structs : goal.invariant-structs
invariant-structs l = SameStructs l.fn.pairing l.left l.right ↔ SameStructs l.fn.pairing l.initial.left l.initial.right

abbrev pub decreases-structs : goal.decreases-structs
decreases-structs l = length l.left
