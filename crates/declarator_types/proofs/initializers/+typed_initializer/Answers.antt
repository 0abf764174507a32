use Rattle.std.proofs.Common.{arith, ap}
use Rattle.c_types.specs.Layout.{shape_of}
use Rattle.c_syntax.specs.Views.{values_view}
use Rattle.c_syntax.specs.declared.declarations.Values.{size-Values}
use Rattle.typing_base.specs.Views.{scope_view}
use Rattle.declarator_types.specs.Views.{asked_view}
use Rattle.declarator_types.proofs.MemberSteps.{values_no_deeper, members_step, member_fault, err_of}
use Rattle.declarator_types.proofs.initializers.+typed_initializer.Goals as goal

pub typed_members-loop-rest-preserved : goal.typed_members-loop-rest-preserved
typed_members-loop-rest-preserved t c = record {
  no_deeper = omega (arith, ap size-Values c.deref-rest.ensures, values_no_deeper _ _ _ c.in-More.is, c.loop-rest.invariant.no_deeper);
  same_outcome = rw (c.in_ok-put.ensures, c.deref-rest.ensures)
      (members_step (scope_view c.args.scope) (asked_view c.args.asked) (shape_of c.args.ty.now) c.loop-rest.number _ _ _ _ _ c.loop-rest.made.items c.in_ok-member.member _
      c.loop-rest.invariant.same_outcome (ap values_view c.in-More.is) c.in_ok-member.ensures.outcome);
}

pub typed_members-returns-in_err-member : goal.typed_members-returns-in_err-member
typed_members-returns-in_err-member t c =
    rw (err_of c.in_err-member.field-0.0 c.from_residual.result c.from_residual.ensures.1)
    (member_fault (scope_view c.args.scope) (asked_view c.args.asked) (shape_of c.args.ty.now) c.loop-rest.number _ _ _ _ c.loop-rest.made.items c.in_err-member.field-0.0 _ _
    c.loop-rest.invariant.same_outcome (ap values_view c.in-More.is) c.in_err-member.ensures.outcome)
