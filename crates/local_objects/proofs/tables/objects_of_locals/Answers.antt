use Rattle.std.proofs.Common.{rules, ◌≡◌, ◌+◌, ◌<◌, ℕ, arith, subst, sym}
use Rattle.file_typing.specs.LocalObjects.{object_of_local}
use Rattle.local_objects.specs.ObjectTables.{object_at, is_flagged}
use Rattle.local_objects.proofs.Numbering.{next_fits, next_after_object, entries_pushed, entry_of_object}
use Rattle.local_objects.proofs.tables.objects_of_locals.Goals as goal

pub overflow_add-next : goal.overflow_add-next
overflow_add-next c =
    let fits = next_fits (is_flagged c.args.is_object.now) _ _ _ _ c.if-not-flag.false c.loop-flag-test.true c.loop-flag.invariant.numbered c.requires.room in
    omega (arith, fits)

pub loop-flag-preserved : goal.loop-flag-preserved
loop-flag-preserved c =
    let flags = c.args.is_object.now in
    let numbered = c.loop-flag.invariant.numbered in
    let entry = entry_of_object (is_flagged flags) _ _ _ c.if-not-flag.false numbered in
    record {
      counted = search rules;
      numbered = next_after_object (is_flagged flags) _ _ _ c.if-not-flag.false numbered;
      entries = subst (λ xs. (number : ℕ) → number < c.loop-flag.flag-index + 1 → object_at xs number ≡ object_of_local (is_flagged flags) c.args.first number)
          (sym c.in_ok-push-2.ensures.items)
          (entries_pushed (object_of_local (is_flagged flags) c.args.first) _ _ _ c.loop-flag.invariant.counted c.loop-flag.invariant.entries entry);
    }
