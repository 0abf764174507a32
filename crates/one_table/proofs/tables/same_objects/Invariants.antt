use Rattle.std.proofs.Common.{◌↔◌, length}
use Rattle.one_table.specs.Tables.{AreOneTable}
use Rattle.one_table.proofs.tables.same_objects.Given as goal

-- what is left is the same exactly where the whole is
abbrev pub invariant-objects : goal.invariant-objects
invariant-objects l = AreOneTable l.fn.pairing l.left l.right ↔ AreOneTable l.fn.pairing l.initial.left l.initial.right

abbrev pub decreases-objects : goal.decreases-objects
decreases-objects l = length l.left
