use Rattle.std.proofs.Common.{◌∙◌}
use Rattle.joint_programs.proofs.Seen.{new_step}
use Rattle.joint_programs.proofs.pairings.push_new.Goals as goal

pub structs-preserved : goal.structs-preserved
structs-preserved c =
    new_step c.structs.pairs.items c.push.new.self.items c.structs.left.now c.in-Some.rest.now c.in-Some.first.now c.structs.number c.in_ok-after.after c.unless_equal-entry.result
    c.in-Some.ensures.cases.0 c.in_ok-after.ensures c.unless_equal-entry.ensures c.in_ok-push.ensures.items
    ∙ c.structs.invariant
