use Rattle.std.specs.Prelude.{map}
use Rattle.uf_abstraction.proofs.Grouping.{all_got, application_built, got_mapped, is_there_later, one_a_shape}
use Rattle.uf_abstraction.specs.Applying.{IsThere}
use Rattle.uf_abstraction.specs.Names.{application_of}
use Rattle.uf_abstraction.proofs.congruence.with_application.Goals as goal

pub with_answer-requires-clause-answer_is_there : goal.with_answer-requires-clause-answer_is_there
with_answer-requires-clause-answer_is_there c =
    is_there_later _ _ c.in_ok-alike.ensures.grows _ (all_got (IsThere c.args.circuit.now) (map application_of c.args.made.now.entries) _ _ c.requires.all_there (got_mapped c.args.made.now.entries _ _ _ c.entry.ensures))

pub with_answer-requires-clause-one_a_shape : goal.with_answer-requires-clause-one_a_shape
with_answer-requires-clause-one_a_shape c = one_a_shape (map application_of c.args.made.now.entries) _ _ c.requires.laid_out (got_mapped c.args.made.now.entries _ _ _ c.entry.ensures)

pub returns-clause-built : goal.returns-clause-built
returns-clause-built c = λ b e.
    application_built (map application_of c.args.made.now.entries) c.args.place b _ _ _ _ e (got_mapped c.args.made.now.entries _ _ _ c.entry.ensures) (c.in_ok-alike.ensures.built b e) c.in_ok-lit.ensures.built
