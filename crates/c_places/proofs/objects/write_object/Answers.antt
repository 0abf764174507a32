use Rattle.std.proofs.Common.{◌∙◌, sym}
use Rattle.c_meaning.specs.Stores.{objects_of}
use Rattle.c_places.proofs.ObjectCells.{stored_written}
use Rattle.c_places.proofs.objects.write_object.Goals as goal

pub returns-then-not-extent : goal.returns-then-not-extent
returns-then-not-extent c =
    let h = c.if-not-extent.true in
    let e = c.in-Some.ensures in
    c.write_cell.ensures
    ∙ sym (stored_written (objects_of c.args.layouts.now) c.args.store.now c.args.number c.in-Some.extent e h c.args.cell c.args.value)
