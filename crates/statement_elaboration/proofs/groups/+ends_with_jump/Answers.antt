use Rattle.std.proofs.Common.{◌∙◌, arith, ap, sym}
use Rattle.c_syntax.specs.Views.{parts_view}
use Rattle.c_syntax.specs.declared.statements.Parts.{size-Parts}
use Rattle.statement_elaboration.proofs.Bodies.{further}
use Rattle.statement_elaboration.proofs.Depths.{parts_no_deeper}
use Rattle.statement_elaboration.proofs.groups.+ends_with_jump.Goals as goal

pub ends_with_jump-parts-preserved : goal.ends_with_jump-parts-preserved
ends_with_jump-parts-preserved t c = record {
  no_deeper = omega (arith, ap size-Parts c.deref-rest.ensures, parts_no_deeper _ _ _ c.in-More.is, c.parts.invariant.no_deeper);
  same = c.parts.invariant.same ∙ rw c.deref-rest.ensures
      (further _ _ _ (parts_view c.in-More.others.value) _ (ap parts_view c.in-More.is) (ap parts_view (sym c.deref.ensures ∙ c.in-More-deref.is)));
}
