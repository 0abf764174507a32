use Rattle.std.proofs.Common.{◌≡◌, ◌∙◌}
use Rattle.joint_objects.specs.Names.{pair_views}
use Rattle.joint_objects.proofs.LoopLemmas.{globals_step}
use Rattle.joint_objects.proofs.globals.globals_by.Goals as goal

pub objects-preserved : goal.objects-preserved
objects-preserved c =
    globals_step c.args.structs.now (pair_views c.args.listed.now) c.args.theirs.now c.objects.found.items c.add_global.new.found.items c.objects.left.now c.in-Some.rest.now c.in-Some.first.now
    c.objects.number c.in_ok-after.after c.global_partner-partner.result
    c.in-Some.ensures.cases.0 c.in_ok-after.ensures c.global_partner-partner.ensures c.in_ok-add_global.ensures
    ∙ c.objects.invariant
