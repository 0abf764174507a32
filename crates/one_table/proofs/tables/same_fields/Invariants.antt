use Rattle.std.proofs.Common.{◌↔◌, length}
use Rattle.one_table.specs.Tables.{SameFields}
use Rattle.one_table.proofs.tables.same_fields.Given as goal

-- what is left is the same exactly where the whole is
abbrev pub invariant-fields : goal.invariant-fields
invariant-fields l = SameFields l.fn.pairing l.left l.right ↔ SameFields l.fn.pairing l.initial.left l.initial.right

abbrev pub decreases-fields : goal.decreases-fields
decreases-fields l = length l.left
