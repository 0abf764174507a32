-- The two programs over the joint table: each is its file's, where the objects stand in the order of the table, and those of the other file with them.
use Rattle.std.specs.Prelude.{List, map, length}
use Rattle.rvt_tree.specs.declared.programs.Program.{Program}
use Rattle.version_map.specs.Maps.{Entries}
use Rattle.object_numbers.specs.NumberedObjects.{parts, renumbered}
use Rattle.joint_objects.specs.declared.objects.JointObject.{JointObject}
use Rattle.joint_objects.specs.declared.sides.FunctionPartners.{FunctionPartners}
use Rattle.joint_objects.specs.Sides.{Partners}
use Rattle.joint_objects.specs.JointObjects.{joint_table}
use Rattle.joint_programs.specs.Parts.{ProgramParts}
use Rattle.joint_programs.specs.Views.{View, seen_from_old, seen_from_new, table_turned}
use Rattle.joint_programs.specs.Structs.{joint_structs}
use Rattle.joint_programs.specs.Objects.{joint_object}
use Rattle.joint_programs.specs.Numbers.{numbers_in}

abbrev pub partners_in : FunctionPartners → Partners
partners_in functions = record { of_old = functions.of_old; of_new = functions.of_new }

-- our program over this table
abbrev pub joint_program : View → Entries → List JointObject → ProgramParts
joint_program view said table =
    record {
      structs = joint_structs view;
      functions = map (λ f. renumbered (numbers_in table (length view.ours.table.objects)) (parts f)) view.ours.functions;
      objects = map (joint_object view said.objects) table;
    }

-- the joint table of two files whose functions are paired so, as either file sees it
abbrev pub table_of_old : Program → Program → Partners → Entries → List JointObject
table_of_old old new functions said = joint_table old new functions.of_old functions.of_new said

abbrev pub table_of_new : Program → Program → Partners → Entries → List JointObject
table_of_new old new functions said = table_turned (table_of_old old new functions said)

abbrev pub joint_old : Program → Program → Partners → Entries → ProgramParts
joint_old old new functions said = joint_program (seen_from_old old new functions) said (table_of_old old new functions said)

abbrev pub joint_new : Program → Program → Partners → Entries → ProgramParts
joint_new old new functions said = joint_program (seen_from_new old new functions) said (table_of_new old new functions said)
