use Rattle.std.proofs.Common.{Some, ap, sym, ◌∙◌}
use Rattle.sym_spots.proofs.Loops.{object_there, cell_there}
use Rattle.sym_spots.proofs.spots.behind.Goals as goal

pub behind_words-requires-clause-object_is_there : goal.behind_words-requires-clause-object_is_there
behind_words-requires-clause-object_is_there c = object_there _ c.args.registers.now c.args.pointer _ _ c.requires.registers_are_there (ap (λ x. Some x) (sym c.in-Some-Pointer.field-0-is) ∙ c.in-Some-Pointer.ensures)

pub behind_words-requires-clause-cell_is_there : goal.behind_words-requires-clause-cell_is_there
behind_words-requires-clause-cell_is_there c = cell_there _ c.args.registers.now c.args.pointer _ _ c.requires.registers_are_there (ap (λ x. Some x) (sym c.in-Some-Pointer.field-0-is) ∙ c.in-Some-Pointer.ensures)
