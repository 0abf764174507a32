use Rattle.std.proofs.Common.{rules, ◌<◌, ◌∙◌}
use Rattle.joint_programs.proofs.Seen.{repeated_step}
use Rattle.joint_programs.proofs.arrays.cells_repeated.Goals as goal

pub elements-preserved : goal.elements-preserved
elements-preserved c =
    let more : 0 < c.elements.left = search rules in
    rw c.in_ok-extend_from_slice.ensures.items (repeated_step c.elements.all.items c.args.cells.now c.elements.left more ∙ c.elements.invariant)
