use Rattle.std.proofs.Common.{◌≡◌, Some}
use Rattle.c_types.specs.Layout.{plan_of}
use Rattle.c_layout.specs.Runs.{listed, known_plans, both, plan_of_runs, starts_left}
use Rattle.c_layout.proofs.plans.list_of.Given as goal

-- what is listed and what is to come are the plan
abbrev pub invariant-runs : goal.invariant-runs
invariant-runs l = both (Some (listed l.out)) (plan_of_runs (known_plans l.structs) l.rest.items) ≡ plan_of l.structs l.ty

abbrev pub decreases-runs : goal.decreases-runs
decreases-runs l = starts_left (plan_of_runs (known_plans l.structs) l.rest.items)
