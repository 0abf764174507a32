use Rattle.std.proofs.Common.{◌≡◌, ◌++◌, drop, map}
use Rattle.joint_programs.specs.Views.{turned}
use Rattle.joint_programs.proofs.tables.table_turned.Given as goal

abbrev pub invariant-loop-object : goal.invariant-loop-object
invariant-loop-object l = l.other.items ++ map turned (drop l.object-index l.table) ≡ map turned l.table
