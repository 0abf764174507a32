-- The joint programs of two files stand over one table.
use Rattle.std.specs.Prelude.{◌≡◌, List, length}
use Rattle.rvt_tree.specs.declared.programs.Program.{Program}
use Rattle.twin_laws.specs.Tables.{StandOverTheTable}
use Rattle.version_map.specs.Maps.{Entries}
use Rattle.joint_objects.specs.declared.objects.JointObject.{JointObject}
use Rattle.joint_objects.specs.Sides.{Partners}
use Rattle.joint_objects.specs.JointObjects.{equal_structs}
use Rattle.joint_programs.specs.Parts.{program_parts}
use Rattle.joint_programs.specs.JointPrograms.{table_of_old, joint_old, joint_new}
use Rattle.joint_programs.specs.Pairings.{joint_pairing}
use Rattle.joint_laws.specs.Premises.{IsNumbered, AreMutual, AreOfFiles}

-- two files whose functions are paired so, and a table of their objects
pub record AreJoinable (old new : Program) (functions : Partners) (objects : List JointObject) : Type 0 where
  pub old_numbered : IsNumbered old
  pub new_numbered : IsNumbered new
  pub structs : AreMutual (equal_structs old new)
  pub functions_turn : AreMutual functions
  pub table : AreOfFiles old new (equal_structs old new) functions objects

abbrev pub JointProgramsStand : Type 0
JointProgramsStand =
    (old new : Program) (functions : Partners) (said : Entries) → AreJoinable old new functions (table_of_old old new functions said) → (program program' : Program) →
    program_parts program ≡ joint_old old new functions said → program_parts program' ≡ joint_new old new functions said →
    StandOverTheTable (joint_pairing old new functions (length (table_of_old old new functions said))) program program'
