use Rattle.std.proofs.Common.{◌≡◌, ◌<◌, ◌∷◌, ◌+◌, length, map, sym, ap, subst, ◌∙◌}
use Rattle.joint_programs.specs.declared.faults.JointFault.TheVariants.{TooLarge}
use Rattle.joint_programs.specs.Faults.{IsTableFault}
use Rattle.joint_programs.proofs.Residuals.{fault_kept}
use Rattle.joint_programs.specs.Parts.{object_parts}
use Rattle.joint_programs.specs.Views.{view_of}
use Rattle.joint_programs.specs.Objects.{joint_object}
use Rattle.joint_programs.proofs.Seen.{one_seen}
use Rattle.joint_programs.proofs.CellsOfTables.{cells_made, too_many}
use Rattle.joint_programs.proofs.tables.joint_objects.Goals as goal

pub table-preserved : goal.table-preserved
table-preserved c = (
  one_seen object_parts (map (joint_object (view_of c.args.side.now) c.args.added.now)) c.table.objects.items c.push.new.self.items c.table.left.now c.in-Some.rest.now c.in-Some.first.now c.in_ok-object.object _
      c.in-Some.ensures.cases.0 c.in_ok-push.ensures.items (ap (λ o. o ∷ map (joint_object (view_of c.args.side.now) c.args.added.now) c.in-Some.rest.now) (sym c.in_ok-object.ensures)) c.table.invariant.0,
  cells_made c.table.objects.items c.push.new.self.items c.in_ok-object.object c.table.room c.in_ok-after.after c.in_ok-push.ensures.items c.table.invariant.1 (c.in_ok-after.ensures.left ∙ ap (λ n. c.in_ok-after.after + n) c.len.ensures),
)

pub returns-in_err-after-clause-fault : goal.returns-in_err-after-clause-fault
returns-in_err-after-clause-fault c =
    let said : c.in_err-after.field-0.0 ≡ TooLarge = c.in_err-after.ensures.fault.0 in
    let full : c.table.room < length c.in_ok-object.object.initial = subst (λ n. c.table.room < n) c.len.ensures c.in_err-after.ensures.fault.1 in
    fault_kept (IsTableFault (map (joint_object (view_of c.args.side.now) c.args.added.now) c.args.table.now)) c.in_err-after.field-0.0 c.from_residual-in_err-after.result c.from_residual-in_err-after.ensures.1
    (subst (IsTableFault (map (joint_object (view_of c.args.side.now) c.args.added.now) c.args.table.now)) (sym said)
    (too_many (joint_object (view_of c.args.side.now) c.args.added.now) c.table.objects.items c.table.left.now c.in-Some.rest.now c.in-Some.first.now c.in_ok-object.object c.table.room _
    c.in-Some.ensures.cases.0 c.in_ok-object.ensures c.table.invariant.0 c.table.invariant.1 full))
