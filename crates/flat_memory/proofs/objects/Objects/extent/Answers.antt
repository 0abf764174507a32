use Rattle.std.proofs.Common.{◌≡◌, ◌∙◌, ap, subst, Some, None, slice_get}
use Rattle.c_meaning.specs.Stores.{objects_of}
use Rattle.flat_memory.specs.Extents.{extent_of}
use Rattle.flat_memory.specs.Memories.{Contents}
use Rattle.flat_memory.proofs.ObjectCells.{extent_is}
use Rattle.flat_memory.proofs.objects.Objects.extent.Goals as goal

pub returns-in-Some : goal.returns-in-Some
returns-in-Some c =
    subst (λ (it : Contents). Some c.in-Some.extent.now ≡ extent_of (objects_of it.program) c.args.number) c.self.view_is
    (c.in-Some.ensures
    ∙ ap (λ xs. slice_get xs c.args.number) (c.as_slice.ensures.value ∙ c.self.invariant.lie)
    ∙ extent_is (objects_of c.self.inside.program.now) c.args.number)

pub returns-in-None : goal.returns-in-None
returns-in-None c =
    subst (λ (it : Contents). None ≡ extent_of (objects_of it.program) c.args.number) c.self.view_is
    (c.in-None.ensures
    ∙ ap (λ xs. slice_get xs c.args.number) (c.as_slice.ensures.value ∙ c.self.invariant.lie)
    ∙ extent_is (objects_of c.self.inside.program.now) c.args.number)
