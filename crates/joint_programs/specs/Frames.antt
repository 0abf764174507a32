-- A program over the joint table while it is made.
use Rattle.std.specs.Prelude.{◌≡◌, ◌≤◌, List, map, length}
use Rattle.rvt_tree.specs.declared.programs.Function.{Function}
use Rattle.version_map.specs.declared.map.Added.{Added}
use Rattle.object_numbers.specs.NumberedObjects.{parts, renumbered}
use Rattle.joint_objects.specs.declared.objects.JointObject.{JointObject}
use Rattle.joint_programs.specs.declared.programs.Frame.{Frame}
use Rattle.joint_programs.specs.Parts.{ProgramParts, struct_parts, object_parts}
use Rattle.joint_programs.specs.Views.{View}
use Rattle.joint_programs.specs.Structs.{joint_structs}
use Rattle.joint_programs.specs.Objects.{joint_object}
use Rattle.joint_programs.specs.Numbers.{numbers_in}
use Rattle.joint_programs.specs.Faults.{limit, cells_of}

-- it has our program's structs and objects over this table, which isn't too large, and the new numbers of its objects
pub record IsFrameOf (view : View) (added : List Added) (table : List JointObject) (frame : Frame) : Type 0 where
  pub structs : map struct_parts frame.structs.list ≡ joint_structs view
  pub objects : map object_parts frame.table.objects ≡ map (joint_object view added) table
  pub fits : cells_of (map object_parts frame.table.objects) ≤ limit
  pub numbers : frame.numbers.items ≡ numbers_in table (length view.ours.table.objects)

abbrev pub parts_of : Frame → List Function → ProgramParts
parts_of frame functions =
    record {
      structs = map struct_parts frame.structs.list;
      functions = map (λ f. renumbered frame.numbers.items (parts f)) functions;
      objects = map object_parts frame.table.objects;
    }
