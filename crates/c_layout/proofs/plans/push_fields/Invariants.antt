use Rattle.std.proofs.Common.{◌≡◌, ◌≤◌, ℕ, Option, length, drop}
use Rattle.c_types.specs.Layout.{Plan, plan_in_order}
use Rattle.c_layout.specs.Sizes.{types_of}
use Rattle.c_layout.specs.Runs.{both, plan_of_runs}
use Rattle.c_layout.proofs.plans.push_fields.Given as goal

-- the fields from the last one pushed on are to come
abbrev pub invariant-fields : goal.invariant-fields
invariant-fields l = record {
  within : l.left ≤ length l.fields;
  pushed : (known : ℕ → Option Plan) → plan_of_runs known l.rest.items ≡ both (plan_in_order known (drop l.left (types_of l.fields))) (plan_of_runs known l.initial.rest.items);
}

abbrev pub decreases-fields : goal.decreases-fields
decreases-fields l = l.left
