use Rattle.std.proofs.Common.{Some, ap, sym, ◌∙◌}
use Rattle.sym_spots.proofs.Loops.{word_there}
use Rattle.sym_spots.proofs.indexes.index_tests.Goals as goal

pub word_tests-requires : goal.word_tests-requires
word_tests-requires c = record { word_is_there = word_there _ c.args.registers.now c.args.index.register _ c.requires.registers_are_there (ap (λ x. Some x) (sym c.in-Some-Word.field-0-is) ∙ c.in-Some-Word.ensures) }
