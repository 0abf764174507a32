use Rattle.std.proofs.Common.{◌≡◌, ◌+◌}
use Rattle.file_typing.specs.LocalObjects.{objects_before}
use Rattle.local_objects.specs.ObjectTables.{is_flagged}
use Rattle.local_objects.proofs.tables.has_room.Given as goal

abbrev pub invariant-loop-flag : goal.invariant-loop-flag
invariant-loop-flag l = l.next ≡ l.first + objects_before (is_flagged l.is_object) l.flag-index
