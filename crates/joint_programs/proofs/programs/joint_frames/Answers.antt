use Rattle.std.proofs.Common.{ap, ap₂, ◌∙◌}
use Rattle.version_map.specs.Maps.{said_in}
use Rattle.joint_objects.specs.StructTypes.{struct_partners}
use Rattle.joint_programs.specs.Views.{table_turned}
use Rattle.joint_programs.specs.JointPrograms.{partners_in}
use Rattle.joint_programs.specs.Faults.{IsJointFault}
use Rattle.joint_programs.proofs.Residuals.{fault_kept}
use Rattle.joint_programs.proofs.Frames.{frame_over, fault_of_old, fault_of_new}
use Rattle.joint_programs.proofs.programs.joint_frames.Goals as goal

pub returns-in_err-old_frame-clause-fault : goal.returns-in_err-old_frame-clause-fault
returns-in_err-old_frame-clause-fault c =
    fault_kept (IsJointFault c.args.old.now c.args.new.now (partners_in c.args.functions.now) (said_in c.args.map.now)) c.in_err-old_frame.field-0.0 c.from_residual-in_err-old_frame.result c.from_residual-in_err-old_frame.ensures.1
    (fault_of_old c.args.old.now c.args.new.now (partners_in c.args.functions.now) (said_in c.args.map.now) c.in_err-old_frame.field-0.0
    (c.as_slice-8.ensures.value ∙ c.in_ok-of_new.ensures ∙ ap₂ struct_partners c.as_slice-3.ensures c.as_slice-4.ensures)
    c.as_slice-9.ensures c.as_slice-added.ensures.value (c.as_slice-13.ensures.value ∙ c.in_ok-table.ensures) c.in_err-old_frame.ensures.fault)

pub returns-in_err-new_frame-clause-fault : goal.returns-in_err-new_frame-clause-fault
returns-in_err-new_frame-clause-fault c =
    fault_kept (IsJointFault c.args.old.now c.args.new.now (partners_in c.args.functions.now) (said_in c.args.map.now)) c.in_err-new_frame.field-0.0 c.from_residual-in_err-new_frame.result c.from_residual-in_err-new_frame.ensures.1
    (fault_of_new c.args.old.now c.args.new.now (partners_in c.args.functions.now) (said_in c.args.map.now) c.in_err-new_frame.field-0.0
    (c.as_slice-10.ensures.value ∙ c.in_ok-of_old.ensures ∙ ap₂ struct_partners c.as_slice.ensures c.as_slice-2.ensures)
    c.as_slice-11.ensures c.as_slice-added.ensures.value (c.as_slice-14.ensures.value ∙ c.in_ok-turned.ensures ∙ ap table_turned (c.as_slice-12.ensures.value ∙ c.in_ok-table.ensures)) c.in_err-new_frame.ensures.fault)

pub returns-clause-old_side : goal.returns-clause-old_side
returns-clause-old_side c =
    frame_over (c.as_slice-8.ensures.value ∙ c.in_ok-of_new.ensures ∙ ap₂ struct_partners c.as_slice-3.ensures c.as_slice-4.ensures)
    c.as_slice-9.ensures c.as_slice-added.ensures.value (c.as_slice-13.ensures.value ∙ c.in_ok-table.ensures) c.in_ok-old_frame.ensures.frame

pub returns-clause-new_side : goal.returns-clause-new_side
returns-clause-new_side c =
    frame_over (c.as_slice-10.ensures.value ∙ c.in_ok-of_old.ensures ∙ ap₂ struct_partners c.as_slice.ensures c.as_slice-2.ensures)
    c.as_slice-11.ensures c.as_slice-added.ensures.value (c.as_slice-14.ensures.value ∙ c.in_ok-turned.ensures ∙ ap table_turned (c.as_slice-12.ensures.value ∙ c.in_ok-table.ensures)) c.in_ok-new_frame.ensures.frame
