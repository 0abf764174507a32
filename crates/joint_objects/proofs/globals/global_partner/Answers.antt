use Rattle.std.proofs.Common.{◌≡◌, ap, ◌∙◌, option_and_then}
use Rattle.joint_objects.specs.Names.{pair_views}
use Rattle.joint_objects.specs.Globals.{alike_global, other_name}
use Rattle.joint_objects.proofs.globals.global_partner.Goals as goal

pub returns : goal.returns
returns c =
    c.partner_named.ensures
    ∙ ap (option_and_then (alike_global c.args.structs.now c.args.theirs.now c.args.ours.now))
    (c.other_name_of-name.ensures ∙ ap (other_name (pair_views c.args.listed.now)) c.bytes.ensures)
