use Rattle.version_map.specs.Maps.{said_in}
use Rattle.joint_programs.specs.Views.{seen_from_old, seen_from_new}
use Rattle.joint_programs.specs.JointPrograms.{partners_in, table_of_old, table_of_new}
use Rattle.joint_programs.proofs.Frames.{frame_program}
use Rattle.joint_programs.proofs.programs.joint_programs.Goals as goal

pub returns-clause-old_side : goal.returns-clause-old_side
returns-clause-old_side c =
    frame_program (seen_from_old c.args.old c.args.new (partners_in c.args.functions.now)) (said_in c.args.map.now) (table_of_old c.args.old c.args.new (partners_in c.args.functions.now) (said_in c.args.map.now))
    c.in_ok-frames.frames.old c.functions_of-old_functions.result c.in_ok-old_side.old_side c.in_ok-frames.ensures.old_side c.functions_of-old_functions.ensures c.in_ok-old_side.ensures

pub returns-clause-new_side : goal.returns-clause-new_side
returns-clause-new_side c =
    frame_program (seen_from_new c.args.old c.args.new (partners_in c.args.functions.now)) (said_in c.args.map.now) (table_of_new c.args.old c.args.new (partners_in c.args.functions.now) (said_in c.args.map.now))
    c.in_ok-frames.frames.new_side c.functions_of-new_functions.result c.in_ok-new_side.new_side c.in_ok-frames.ensures.new_side c.functions_of-new_functions.ensures c.in_ok-new_side.ensures
