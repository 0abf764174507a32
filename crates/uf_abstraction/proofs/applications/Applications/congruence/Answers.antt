use Rattle.std.proofs.Common.{◌∙◌, ap, sym, subst}
use Rattle.std.specs.List.{AllByRecursion}
use Rattle.bit_words.proofs.WordValues.{some_nodes}
use Rattle.uf_abstraction.specs.Applying.{IsThere}
use Rattle.uf_abstraction.specs.Testing.{AreLaidOut, congruence_built}
use Rattle.uf_abstraction.proofs.applications.Applications.congruence.Goals as goal

pub test_congruence-requires-clause-some : goal.test_congruence-requires-clause-some
test_congruence-requires-clause-some c = some_nodes _ c.nodes-count.ensures.circuit

pub test_congruence-requires-clause-asked : goal.test_congruence-requires-clause-asked
test_congruence-requires-clause-asked c = c.self.invariant

pub test_congruence-requires-clause-all_there : goal.test_congruence-requires-clause-all_there
test_congruence-requires-clause-all_there c = subst (AllByRecursion (IsThere c.args.circuit.now)) (sym c.self.view_is) c.requires.there

pub test_congruence-requires-clause-laid_out : goal.test_congruence-requires-clause-laid_out
test_congruence-requires-clause-laid_out c = subst AreLaidOut (sym c.self.view_is) c.requires.laid_out

pub returns-clause-built : goal.returns-clause-built
returns-clause-built c = ap (congruence_built c.args.circuit.now) (sym c.self.view_is) ∙ c.in_ok-lit.ensures.built
