use Rattle.std.proofs.Common.{◌∙◌, ap, slice_get}
use Rattle.flat_memory.specs.Entries.{spot_of}
use Rattle.flat_memory.proofs.Spots.{spot_in}
use Rattle.flat_memory.proofs.entries.EntryLocals.spot.Goals as goal

pub returns-in-Some : goal.returns-in-Some
returns-in-Some c =
    c.in-Some.ensures ∙ ap (λ xs. slice_get xs c.args.number) c.as_slice.ensures.value ∙ spot_in c.self.inside.spots.items c.self.inside.cells.items c.self.invariant c.args.number ∙ ap (λ locals. spot_of locals c.args.number) c.self.view_is

pub returns-in-None : goal.returns-in-None
returns-in-None c =
    c.in-None.ensures ∙ ap (λ xs. slice_get xs c.args.number) c.as_slice.ensures.value ∙ spot_in c.self.inside.spots.items c.self.inside.cells.items c.self.invariant c.args.number ∙ ap (λ locals. spot_of locals c.args.number) c.self.view_is
