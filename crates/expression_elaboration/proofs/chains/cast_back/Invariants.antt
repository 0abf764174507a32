use Rattle.std.proofs.Common.{◌≡◌, map, vec_len}
use Rattle.typing_base.specs.Views.{operand_view}
use Rattle.expression_elaboration.specs.Views.{cast_view}
use Rattle.expression_elaboration.specs.Chains.{cast_back}
use Rattle.expression_elaboration.proofs.chains.cast_back.Given as goal

abbrev pub invariant-casts : goal.invariant-casts
invariant-casts l = record {
  same_rule : cast_back (map cast_view l.fn.casts.items) (operand_view l.fn.x) ≡ cast_back (map cast_view l.casts.items) (operand_view l.x);
}

abbrev pub decreases-casts : goal.decreases-casts
decreases-casts l = vec_len l.casts
