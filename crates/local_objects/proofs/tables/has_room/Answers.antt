use Rattle.std.proofs.Common.{arith}
use Rattle.local_objects.specs.ObjectTables.{is_flagged}
use Rattle.local_objects.proofs.Numbering.{next_fits}
use Rattle.local_objects.proofs.tables.has_room.Goals as goal

-- the object after the last number would have none
pub returns-then-next : goal.returns-then-next
returns-then-next c =
    let last = c.if-next.true in (
      λ h. absurd (cc),
      λ room.
          let fits = next_fits (is_flagged c.args.is_object.now) _ _ _ _ c.if-not-flag.false c.loop-flag-test.true c.loop-flag.invariant room in
          absurd (let no : ⊥ = omega (arith, fits, last) in no),
    )
