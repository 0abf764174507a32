use Rattle.std.proofs.Common.{◌∙◌}
use Rattle.joint_programs.proofs.Seen.{old_step}
use Rattle.joint_programs.proofs.pairings.push_old.Goals as goal

pub structs-preserved : goal.structs-preserved
structs-preserved c =
    old_step c.args.count c.structs.pairs.items c.push.new.self.items c.structs.left.now c.in-Some.rest.now c.in-Some.first.now c.structs.number c.in_ok-after.after c.in_ok-other.other
    c.in-Some.ensures.cases.0 c.in_ok-after.ensures c.in_ok-other.ensures c.in_ok-push.ensures.items
    ∙ c.structs.invariant
