use Rattle.std.proofs.Common.{◌∙◌}
use Rattle.application_examples.proofs.Kept.{one_more}
use Rattle.uf_abstraction.specs.Names.{meant}
use Rattle.application_examples.proofs.tests.apply.Goals as goal

pub returns : goal.returns
returns c = one_more _ _ _ _ (meant c.args.name) _ _ c.args.lit _ (c.deref.ensures.value ∙ c.in_ok-key.ensures) c.in_ok-shape.ensures c.requires.there c.requires.calls c.in_ok-apply.ensures.built
