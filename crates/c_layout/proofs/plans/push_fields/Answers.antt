use Rattle.std.proofs.Common.{◌<◌, ◌-◌, arith, ap, sym, ◌∙◌, refl, subst, length}
use Rattle.c_types.specs.Layout.{plan_in_order}
use Rattle.c_layout.specs.Sizes.{At, types_of}
use Rattle.c_layout.specs.Runs.{both, plan_of_runs}
use Rattle.c_layout.proofs.Sequences.{empty_both}
use Rattle.c_layout.proofs.Walks.{type_read}
use Rattle.c_layout.proofs.Listings.{dropped_all, pushed_field}
use Rattle.c_layout.proofs.plans.push_fields.Goals as goal

pub fields-init : goal.fields-init
fields-init c = record {
  within = omega arith;
  pushed = λ known. sym (ap (λ ts. both (plan_in_order known ts) (plan_of_runs known c.args.rest.now.items)) (dropped_all c.args.fields.now) ∙ empty_both (plan_of_runs known c.args.rest.now.items));
}

pub fields-preserved : goal.fields-preserved
fields-preserved c =
    let last = c.fields.left - 1 in
    let field = c.index-fields-left.result in
    let within : last < length c.args.fields.now = omega (arith, c.fields-test.true, c.fields.invariant.within) in
    let here = subst (λ f. At (types_of c.args.fields.now) last f.1) c.index-fields-left.is (type_read c.args.fields.now last field within c.index-fields-left.is) in
    record {
      within = omega (arith, within);
      pushed = λ known.
          ap (plan_of_runs known) c.in_ok-push.ensures.items
          ∙ pushed_field known (types_of c.args.fields.now) c.fields.rest.items c.args.rest.now.items _ last c.fields.left (omega (arith, c.fields-test.true)) refl here (c.fields.invariant.pushed known);
    }
