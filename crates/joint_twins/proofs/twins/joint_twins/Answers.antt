use Rattle.std.proofs.Common.{List, length, subst, sym, ap, ◌∙◌}
use Rattle.rvt_tree.specs.declared.pairings.Pairing.{Pairing}
use Rattle.twin_laws.specs.Tables.{StandOverTheTable}
use Rattle.version_map.specs.Maps.{said_in}
use Rattle.joint_objects.specs.declared.objects.JointObject.{JointObject}
use Rattle.joint_programs.specs.Pairings.{joint_pairing}
use Rattle.joint_programs.specs.JointPrograms.{partners_in}
use Rattle.joint_twins.proofs.twins.joint_twins.Goals as goal

pub twins_over-requires : goal.twins_over-requires
twins_over-requires c =
    let joint = c.in_ok-joint.joint in
    let functions = partners_in c.args.functions.now in
    subst (λ (p : Pairing). StandOverTheTable p joint.old joint.new_side)
    (sym (c.in_ok-joint.ensures.pairing ∙ ap (λ (table : List JointObject). joint_pairing c.args.old c.args.new functions (length table)) c.in_ok-joint.ensures.table))
    (c.joint_programs_stand.ensures c.args.old c.args.new functions (said_in c.args.map.now)
    (c.in_ok-joinable.ensures.0 c.if-not-joinable.false)
    joint.old joint.new_side c.in_ok-joint.ensures.old_side c.in_ok-joint.ensures.new_side)
