use Rattle.std.proofs.Common.{◌↔◌, length}
use Rattle.joint_laws.specs.Premises.{AreOfFiles}
use Rattle.joint_twins.specs.Files.{structs_of, functions_of}
use Rattle.joint_twins.proofs.tables.are_of_files.Given as goal

-- what is left is of the files exactly where the whole is
abbrev pub invariant-table : goal.invariant-table
invariant-table l =
    AreOfFiles l.files.old.now l.files.new.now (structs_of l.files) (functions_of l.files) l.left
    ↔ AreOfFiles l.files.old.now l.files.new.now (structs_of l.files) (functions_of l.files) l.initial.left

abbrev pub decreases-table : goal.decreases-table
decreases-table l = length l.left
