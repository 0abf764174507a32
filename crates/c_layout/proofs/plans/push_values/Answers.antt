use Rattle.std.proofs.Common.{◌≡◌, ◌-◌, ◌∙◌, ℕ, suc, arith, ap, sym, Some}
use Rattle.c_types.specs.Layout.{repeated}
use Rattle.c_layout.specs.Runs.{both, plan_of_runs}
use Rattle.c_layout.proofs.Sequences.{empty_both}
use Rattle.c_layout.proofs.Listings.{pushed_values}
use Rattle.c_layout.proofs.plans.push_values.Goals as goal

pub returns-then-count-eq0 : goal.returns-then-count-eq0
returns-then-count-eq0 c known plan h =
    let rest = plan_of_runs known c.args.rest.now.items in
    sym (ap (λ (n : ℕ). both (Some (repeated n plan)) rest) c.if-count-eq0.true ∙ empty_both rest)

pub returns : goal.returns
returns c known plan h =
    let more : suc (c.args.count - 1) ≡ c.args.count = omega (arith, c.if-count-eq0.false) in
    ap (plan_of_runs known) c.in_ok-push.ensures.items
    ∙ pushed_values known c.args.rest.now.items (record { ty = c.args.ty; more = c.args.count - 1 }) c.args.count more plan h
