-- The joint programs of two files, and the twins in them.
use Rattle.std.specs.Prelude.{◌≡◌, ◌≤◌, ℕ, List, Bool, length, All}
use Rattle.rvt_num.specs.declared.values.Value.{Value}
use Rattle.rvt_tree.specs.declared.pairings.Pairing.{Pairing}
use Rattle.rvt_tree.specs.declared.programs.Program.{Program}
use Rattle.rvt_tree.specs.Same.{ArePaired}
use Rattle.c_meaning.specs.Runs.{run}
use Rattle.c_meaning.specs.Promises.{Full, function_versions, loop_versions}
use Rattle.c_meaning.specs.Twins.{IsClosed}
use Rattle.twin_laws.specs.Tables.{StandOverTheTable}
use Rattle.twin_laws.specs.Touches.{PointsOpenly}
use Rattle.twin_candidates.specs.Candidates.{AreCandidates}
use Rattle.twin_check.specs.Sets.{IsWithin, HasEveryClosed}
use Rattle.version_map.specs.Maps.{Entries}
use Rattle.joint_objects.specs.Sides.{Partners}
use Rattle.joint_programs.specs.declared.programs.JointPrograms.{JointPrograms}
use Rattle.joint_programs.specs.Parts.{program_parts}
use Rattle.joint_programs.specs.JointPrograms.{table_of_old, joint_old, joint_new}
use Rattle.joint_programs.specs.Pairings.{joint_pairing}
use Rattle.joint_programs.specs.Faults.{limit, cells_of}

-- the programs of two files whose functions are paired so, over their joint table
pub record AreJointPrograms (old new : Program) (functions : Partners) (said : Entries) (joint : JointPrograms) : Type 0 where
  pub table : joint.table.items ≡ table_of_old old new functions said
  pub old_side : program_parts joint.old ≡ joint_old old new functions said
  pub new_side : program_parts joint.new_side ≡ joint_new old new functions said
  pub pairing : joint.pairing ≡ joint_pairing old new functions (length joint.table.items)
  pub old_fits : cells_of (program_parts joint.old).objects ≤ limit
  pub new_fits : cells_of (program_parts joint.new_side).objects ≤ limit

-- The greatest closed set of twins of two joint programs that stand over one table: among the pairs without constants that changed, and
-- without functions that may touch one through a pointer. The functions of each pair have the same runs, from arguments and stores whose
-- pointers are into addressable or paired objects, as those of an input are; they are fully equivalent, and so are their loops of one number.
pub record AreTwinsOver (joint : JointPrograms) (twins : Pairing) : Type 0 where
  pub candidates : Pairing
  pub are_candidates : AreCandidates joint.old joint.new_side joint.pairing candidates
  pub stand : StandOverTheTable twins joint.old joint.new_side
  pub within : IsWithin twins candidates
  pub paired : (f g : ℕ) → ArePaired twins.functions f g → ArePaired joint.pairing.functions f g
  pub closed : IsClosed twins joint.old joint.new_side
  pub greatest : HasEveryClosed joint.old joint.new_side candidates twins
  pub runs : (f g : ℕ) → ArePaired twins.functions f g → (arguments store : List Value) → All (PointsOpenly twins joint.old) arguments → All (PointsOpenly twins joint.old) store →
      (n d : ℕ) → run joint.old f arguments store n d ≡ run joint.new_side g arguments store n d
  pub full : (f g : ℕ) → ArePaired twins.functions f g → (reached reached' : ℕ → Bool) → Full (function_versions joint.old joint.new_side f g reached reached')
  pub loops : (f g : ℕ) → ArePaired twins.functions f g → (number : ℕ) (interface : List ℕ) (reached reached' : ℕ → Bool) → Full (loop_versions joint.old joint.new_side f g number interface reached reached')
