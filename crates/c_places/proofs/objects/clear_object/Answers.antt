use Rattle.std.proofs.Common.{◌∙◌, sym}
use Rattle.c_meaning.specs.Stores.{objects_of}
use Rattle.c_places.proofs.ObjectCells.{stored_cleared}
use Rattle.c_places.proofs.objects.clear_object.Goals as goal

pub returns-then-not-extent : goal.returns-then-not-extent
returns-then-not-extent c =
    c.clear.ensures
    ∙ sym (stored_cleared (objects_of c.args.layouts.now) c.args.store.now c.args.number c.in-Some.extent c.in-Some.ensures c.if-not-extent.true)
