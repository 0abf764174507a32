use Rattle.std.proofs.Common.{◌≡◌, ◌+◌, ◌<◌, ℕ, length}
use Rattle.file_typing.specs.LocalObjects.{objects_before, object_of_local}
use Rattle.local_objects.specs.ObjectTables.{object_at, is_flagged}
use Rattle.local_objects.proofs.tables.objects_of_locals.Given as goal

abbrev pub invariant-loop-flag : goal.invariant-loop-flag
invariant-loop-flag l = record {
  counted : length l.objects.items ≡ l.flag-index;
  numbered : l.next ≡ l.first + objects_before (is_flagged l.is_object) l.flag-index;
  entries : (number : ℕ) → number < l.flag-index → object_at l.objects.items number ≡ object_of_local (is_flagged l.is_object) l.first number;
}
