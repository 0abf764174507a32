use Rattle.std.proofs.Common.{◌∙◌, ap}
use Rattle.flat_memory.specs.Cells.{joined}
use Rattle.flat_memory.proofs.Spots.{all_cells}
use Rattle.flat_memory.proofs.entries.EntryLocals.cells.Goals as goal

pub returns : goal.returns
returns c = c.as_slice.ensures.value ∙ all_cells c.self.inside.spots.items c.self.inside.cells.items c.self.invariant ∙ ap joined c.self.view_is
