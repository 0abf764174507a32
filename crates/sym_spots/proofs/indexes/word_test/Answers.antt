use Rattle.std.proofs.Common.{◌<◌, length, subst, sym}
use Rattle.bit_words.proofs.WordValues.{some_nodes}
use Rattle.sym_spots.proofs.Loops.{sign_there}
use Rattle.sym_spots.proofs.indexes.word_test.Goals as goal

pub test-requires-clause-also_is_there : goal.test-requires-clause-also_is_there
test-requires-clause-also_is_there c =
    subst (λ l. l.node < length c.args.circuit.now) (sym c.opposite.ensures)
    (subst (λ l. l.node < length c.args.circuit.now) (sym c.sign_of.ensures) (sign_there _ _ c.requires.word_is_there (some_nodes _ c.nodes-count.ensures.circuit)))
