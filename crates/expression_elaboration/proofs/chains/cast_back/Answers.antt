use Rattle.std.proofs.Common.{◌∙◌, ◌∷◌, [], map, ap}
use Rattle.std.proofs.lemmas.List.{map-append}
use Rattle.typing_base.specs.Views.{operand_view}
use Rattle.expression_elaboration.specs.Views.{cast_view}
use Rattle.expression_elaboration.specs.Chains.{cast_back}
use Rattle.expression_elaboration.proofs.CastChains.{cast_step}
use Rattle.expression_elaboration.proofs.ChainFaults.{cast_fails_with}
use Rattle.expression_elaboration.proofs.chains.cast_back.Goals as goal

pub returns-in-Err : goal.returns-in-Err
returns-in-Err c = cast_fails_with (cast_back (map cast_view c.args.casts.items) (operand_view c.args.x)) (map cast_view c.casts.casts.items) (map cast_view c.pop.new.self.items) (cast_view c.in-Some.cast)
    (operand_view c.casts.x) c.in-Err.fault c.casts.invariant.same_rule
    (ap (map cast_view) c.in-Some.ensures.items ∙ map-append cast_view c.pop.new.self.items (c.in-Some.cast ∷ [])) c.in-Err.ensures

pub casts-preserved : goal.casts-preserved
casts-preserved c = record {
  same_rule = cast_step (cast_back (map cast_view c.args.casts.items) (operand_view c.args.x)) (map cast_view c.casts.casts.items) (map cast_view c.pop.new.self.items) (cast_view c.in-Some.cast)
      (operand_view c.casts.x) (operand_view c.in-Ok.made) c.casts.invariant.same_rule
      (ap (map cast_view) c.in-Some.ensures.items ∙ map-append cast_view c.pop.new.self.items (c.in-Some.cast ∷ [])) c.in-Ok.ensures;
}
