-- When the joint table is too large.
use Rattle.std.specs.Prelude.{ℕ, ◌+◌, ◌<◌, List, [], ◌∷◌, length, Option, Some, None, ◌⊎◌, ⊤}
use Rattle.rvt_tree.specs.declared.programs.Program.{Program}
use Rattle.version_map.specs.Maps.{Entries}
use Rattle.joint_objects.specs.Sides.{Partners}
use Rattle.joint_programs.specs.declared.faults.JointFault.{JointFault}
use Rattle.joint_programs.specs.declared.faults.JointFault.TheVariants.{TooLarge, Memory}
use Rattle.joint_programs.specs.Parts.{ObjectParts}
use Rattle.joint_programs.specs.JointPrograms.{joint_old, joint_new}

abbrev pub cause_of : JointFault → Option ℕ
cause_of TooLarge = Some 45
cause_of Memory = None

abbrev pub limit : ℕ
limit = 65536

abbrev pub cells_of : List ObjectParts → ℕ
cells_of [] = 0
cells_of (object ∷ rest) = length object.initial + cells_of rest

-- these objects have too many cells, where that is said
abbrev pub IsTableFault : List ObjectParts → JointFault → Type 0
IsTableFault objects TooLarge = limit < cells_of objects
IsTableFault objects Memory = ⊤

-- the objects of either program have too many cells (those of two accepted files have as many in the one as in the other)
abbrev pub IsJointFault : Program → Program → Partners → Entries → JointFault → Type 0
IsJointFault old new functions said TooLarge =
    (limit < cells_of (joint_old old new functions said).objects) ⊎ (limit < cells_of (joint_new old new functions said).objects)
IsJointFault old new functions said Memory = ⊤
