use Rattle.std.proofs.Common.{ap}
use Rattle.c_types.specs.Layout.{starts_of}
use Rattle.c_layout.proofs.Sequences.{same_plan}
use Rattle.c_layout.proofs.Listings.{begun, is_inside, stepped, smaller}
use Rattle.c_layout.specs.Runs.{listed}
use Rattle.c_layout.proofs.plans.list_of.Goals as goal

pub runs-init : goal.runs-init
runs-init c =
    begun c.args.structs.now c.args.ty.now c.requires.few (listed (record { cells = c.new.result; starts = c.new-2.result }))
    (same_plan _ _ _ _ c.new.ensures.items (ap starts_of c.new-2.ensures.items)) c.new-rest.result.items c.push_values.new.rest.items c.new-rest.ensures.items c.in_ok-push_values.ensures

pub push_inside-requires : goal.push_inside-requires
push_inside-requires c = record {
  complete = is_inside c.args.structs.now c.args.ty.now c.requires.few (listed c.runs.out) c.runs.rest.items c.pop.new.self.items c.in-Some.run' c.in-Some.ensures.items c.runs.invariant;
}

pub runs-smaller : goal.runs-smaller
runs-smaller c =
    smaller c.args.structs.now c.args.ty.now c.requires.few (listed c.runs.out) c.runs.rest.items c.pop.new.self.items c.in-Some.run' c.in-Some.ensures.items c.runs.invariant
    c.push_values-in-Some.new.rest.items c.push_inside.new.rest.items c.in_ok-push_values-2.ensures c.in_ok-push_inside.ensures

pub runs-preserved : goal.runs-preserved
runs-preserved c =
    stepped c.args.structs.now c.args.ty.now c.requires.few (listed c.runs.out) c.runs.rest.items c.pop.new.self.items c.in-Some.run' c.in-Some.ensures.items c.runs.invariant
    c.push_values-in-Some.new.rest.items c.push_inside.new.rest.items c.in_ok-push_values-2.ensures c.in_ok-push_inside.ensures
    (listed c.list_head.new.out) c.in_ok-list_head.ensures
