-- Two files whose joint programs stand over one table.
use Rattle.std.specs.Prelude.{List}
use Rattle.joint_objects.specs.declared.objects.JointObject.{JointObject}
use Rattle.joint_laws.specs.Premises.{IsNumbered, AreMutual, AreOfFiles}
use Rattle.joint_twins.specs.declared.tables.Files.{Files}
use Rattle.joint_twins.specs.Files.{structs_of, functions_of}

-- what is asked of them, where this is paired in them and this is their table
pub record AreJoinableFiles (files : Files) (objects : List JointObject) : Type 0 where
  pub old_numbered : IsNumbered files.old.now
  pub new_numbered : IsNumbered files.new.now
  pub structs : AreMutual (structs_of files)
  pub functions_turn : AreMutual (functions_of files)
  pub table : AreOfFiles files.old.now files.new.now (structs_of files) (functions_of files) objects
