use Rattle.std.proofs.Common.{sym, arith}
use Rattle.typing_base.specs.Views.{qualified_view}
use Rattle.statement_elaboration.specs.Views.{block_view}
use Rattle.statement_elaboration.proofs.Declarators.{declarators_next}
use Rattle.statement_elaboration.proofs.Extensions.{extends_more, extends_within}
use Rattle.statement_elaboration.proofs.declarations.typed_declarators.Goals as goal

pub declarators-preserved : goal.declarators-preserved
declarators-preserved c = record {
  within = omega (arith, c.declarators.invariant.within, extends_within _ _ c.in_ok-s.ensures.declared);
  extends = extends_more _ _ _ c.declarators.invariant.extends c.in_ok-s.ensures.declared;
  same_outcome = rw c.in_ok-put.ensures
      (declarators_next _ (block_view c.declarators.environment c.args.block) (block_view c.typed_declarator.new.environment c.args.block) (qualified_view c.args.base.now)
      c.declarators.rest.now c.init-item.result c.declarators.made.items c.in_ok-s.s _ _ c.in-len1-up.len_at_least c.declarators.invariant.same_outcome
      (rw (sym c.init-item.is) c.in_ok-s.ensures.typed));
}
