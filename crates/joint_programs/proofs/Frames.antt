-- A program of a frame and its functions is the joint program.
use Rattle.std.proofs.Common.{◌≡◌, ◌≤◌, ℕ, List, map, length, Option, ◌⊎◌, inl, inr, sym, ap, ap₂, ◌∙◌, subst}
use Rattle.rvt_tree.specs.declared.programs.Function.{Function}
use Rattle.rvt_tree.specs.declared.programs.Program.{Program}
use Rattle.version_map.specs.Maps.{Entries}
use Rattle.object_numbers.specs.NumberedObjects.{FunctionParts, parts, renumbered}
use Rattle.joint_objects.specs.declared.objects.JointObject.{JointObject}
use Rattle.joint_programs.specs.declared.programs.Frame.{Frame}
use Rattle.joint_programs.specs.Parts.{StructParts, ObjectParts, ProgramParts, object_parts, program_parts}
use Rattle.joint_programs.specs.Views.{View}
use Rattle.joint_programs.specs.Objects.{joint_object}
use Rattle.joint_objects.specs.Sides.{Partners}
use Rattle.joint_objects.specs.JointObjects.{equal_structs}
use Rattle.version_map.specs.declared.map.Added.{Added}
use Rattle.joint_programs.specs.Structs.{joint_structs}
use Rattle.joint_programs.specs.Numbers.{numbers_in}
use Rattle.joint_programs.specs.JointPrograms.{joint_program, joint_old, joint_new, table_of_old, table_of_new}
use Rattle.joint_programs.specs.declared.faults.JointFault.{JointFault}
use Rattle.joint_programs.specs.declared.faults.JointFault.TheVariants as F
use Rattle.joint_programs.specs.Faults.{limit, cells_of, IsTableFault, IsJointFault}
use Rattle.joint_programs.specs.Frames.{IsFrameOf, parts_of}

abbrev pub with_functions : List StructParts → List FunctionParts → List ObjectParts → ProgramParts
with_functions structs functions objects = record { structs = structs; functions = functions; objects = objects }

abbrev put_together : List Function → List StructParts → List ℕ → List ObjectParts → ProgramParts
put_together functions structs numbers objects = record { structs = structs; functions = map (λ f. renumbered numbers (parts f)) functions; objects = objects }

pub frame_program : (view : View) (said : Entries) (table : List JointObject) (frame : Frame) (functions : List Function) (program : Program) → IsFrameOf view said.objects table frame → functions ≡ view.ours.functions →
    program_parts program ≡ parts_of frame functions → program_parts program ≡ joint_program view said table
frame_program view said table frame functions program h same made =
    made
    ∙ ap (λ fs. parts_of frame fs) same
    ∙ ap (λ structs. put_together view.ours.functions structs frame.numbers.items (map object_parts frame.table.objects)) h.structs
    ∙ ap (λ numbers. put_together view.ours.functions (joint_structs view) numbers (map object_parts frame.table.objects)) h.numbers
    ∙ ap (λ objects. put_together view.ours.functions (joint_structs view) (numbers_in table (length view.ours.table.objects)) objects) h.objects

pub frame_fits : (view : View) (said : Entries) (table : List JointObject) (frame : Frame) (functions : List Function) (program : Program) → IsFrameOf view said.objects table frame →
    program_parts program ≡ parts_of frame functions → cells_of (program_parts program).objects ≤ limit
frame_fits view said table frame functions program h made = subst (λ objects. cells_of objects ≤ limit) (sym (ap (λ (p : ProgramParts). p.objects) made)) h.fits

-- ---- with the structs and the table that were computed

abbrev with_structs : Program → Program → List (Option ℕ) → List (Option ℕ) → View
with_structs ours theirs functions structs = record { ours = ours; theirs = theirs; structs = structs; functions = functions }

-- two tables as one side sees them are alike
pub frame_over : {ours theirs : Program} {functions paired structs known : List (Option ℕ)} {added said : List Added} {table whole : List JointObject} {frame : Frame} →
    structs ≡ known → functions ≡ paired → added ≡ said → table ≡ whole →
    IsFrameOf (with_structs ours theirs functions structs) added table frame → IsFrameOf (with_structs ours theirs paired known) said whole frame
frame_over {ours = ours} {theirs = theirs} {functions = functions} {paired = paired} {structs = structs} {known = known} {added = added} {said = said} {table = table} {whole = whole} {frame = frame} e f a t h =
    subst (λ (x : List (Option ℕ)). IsFrameOf (with_structs ours theirs paired x) said whole frame) e
    (subst (λ (x : List (Option ℕ)). IsFrameOf (with_structs ours theirs x structs) said whole frame) f
    (subst (λ (x : List Added). IsFrameOf (with_structs ours theirs functions structs) x whole frame) a
    (subst (λ (x : List JointObject). IsFrameOf (with_structs ours theirs functions structs) added x frame) t h)))

objects_over : (ours theirs : Program) {functions paired structs known : List (Option ℕ)} {added said : List Added} {table whole : List JointObject} →
    structs ≡ known → functions ≡ paired → added ≡ said → table ≡ whole →
    map (joint_object (with_structs ours theirs functions structs) added) table ≡ map (joint_object (with_structs ours theirs paired known) said) whole
objects_over ours theirs {paired = paired} {known = known} {added = added} {table = table} e f a t =
    ap₂ (λ (x : List (Option ℕ)) (y : List (Option ℕ)). map (joint_object (with_structs ours theirs x y) added) table) f e
    ∙ ap₂ (λ (x : List Added) (y : List JointObject). map (joint_object (with_structs ours theirs paired known) x) y) a t

either_fault : (old new : Program) (functions : Partners) (said : Entries) (fault : JointFault) →
    (IsTableFault (joint_old old new functions said).objects fault) ⊎ (IsTableFault (joint_new old new functions said).objects fault) → IsJointFault old new functions said fault
either_fault old new functions said F.TooLarge h = h
either_fault old new functions said F.Memory h = tt

pub fault_of_old : (old new : Program) (functions : Partners) (said : Entries) {structs paired : List (Option ℕ)} {added : List Added} {table : List JointObject} (fault : JointFault) →
    structs ≡ (equal_structs old new).of_new → paired ≡ functions.of_new → added ≡ said.objects → table ≡ table_of_old old new functions said →
    IsTableFault (map (joint_object (with_structs old new paired structs) added) table) fault → IsJointFault old new functions said fault
fault_of_old old new functions said fault e f a t h =
    either_fault old new functions said fault (inl (subst (λ (objects : List ObjectParts). IsTableFault objects fault) (objects_over old new e f a t) h))

pub fault_of_new : (old new : Program) (functions : Partners) (said : Entries) {structs paired : List (Option ℕ)} {added : List Added} {table : List JointObject} (fault : JointFault) →
    structs ≡ (equal_structs old new).of_old → paired ≡ functions.of_old → added ≡ said.objects → table ≡ table_of_new old new functions said →
    IsTableFault (map (joint_object (with_structs new old paired structs) added) table) fault → IsJointFault old new functions said fault
fault_of_new old new functions said fault e f a t h =
    either_fault old new functions said fault (inr (subst (λ (objects : List ObjectParts). IsTableFault objects fault) (objects_over new old e f a t) h))
