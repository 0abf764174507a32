use Rattle.std.proofs.Common.{◌≡◌, ◌∙◌, ap, subst, Option, Some, None, slice_get}
use Rattle.rvt_tree.specs.declared.programs.Program.{Program}
use Rattle.c_meaning.specs.Stores.{objects_of}
use Rattle.c_places.specs.declared.extents.Extent.{Extent}
use Rattle.c_places.specs.Extents.{extent_of}
use Rattle.c_places.proofs.ObjectCells.{extent_is}
use Rattle.c_places.proofs.layouts.Layouts.extent.Goals as goal

pub returns-in-Some : goal.returns-in-Some
returns-in-Some c =
    subst (λ (p : Program). Some c.in-Some.extent.now ≡ extent_of (objects_of p) c.args.number) c.self.view_is
    (c.in-Some.ensures
    ∙ ap (λ xs. slice_get xs c.args.number) (c.as_slice.ensures.value ∙ c.self.invariant.lie)
    ∙ extent_is (objects_of c.self.inside.program.now) c.args.number)

pub returns-in-None : goal.returns-in-None
returns-in-None c =
    subst (λ (p : Program). None ≡ extent_of (objects_of p) c.args.number) c.self.view_is
    (c.in-None.ensures
    ∙ ap (λ xs. slice_get xs c.args.number) (c.as_slice.ensures.value ∙ c.self.invariant.lie)
    ∙ extent_is (objects_of c.self.inside.program.now) c.args.number)
