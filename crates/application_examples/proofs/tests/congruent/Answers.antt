use Rattle.application_examples.proofs.Kept.{calls_later}
use Rattle.application_examples.proofs.tests.congruent.Goals as goal

pub apply-requires-2-clause-calls : goal.apply-requires-2-clause-calls
apply-requires-2-clause-calls g c = calls_later c.apply.new.circuit c.input-2.new.self c.apply.new.applications c.in_ok-y.ensures.made.grows c.in_ok-apply.ensures
