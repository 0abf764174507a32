-- Two files that are compared under a map.
use Rattle.std.specs.Prelude.{◌≡◌, ℕ, nat_le, if◌then◌else◌, List, [], ◌∷◌, length, codes, Option, Some, None}
use Rattle.rvt_tree.specs.declared.programs.Object.{Object}
use Rattle.rvt_tree.specs.declared.programs.Program.{Program}
use Rattle.version_map.specs.Maps.{Entries}
use Rattle.function_pairs.specs.declared.pairs.FunctionPairs.{FunctionPairs}
use Rattle.function_pairs.specs.FunctionPairs.{pairs_of}
use Rattle.function_pairs.specs.Refusals.{first_unknown}
use Rattle.joint_objects.specs.Globals.{line_without_global, line_of_unlike}
use Rattle.joint_objects.specs.Sides.{Partners}
use Rattle.joint_objects.specs.StructTypes.{struct_partners}
use Rattle.joint_programs.specs.declared.programs.JointPrograms.{JointPrograms}
use Rattle.joint_programs.specs.declared.faults.JointFault.TheVariants.{TooLarge}
use Rattle.joint_programs.specs.Faults.{IsJointFault}
use Rattle.joint_programs.specs.JointPrograms.{table_of_old}
use Rattle.joint_laws.specs.JointStand.{AreJoinable}
use Rattle.joint_twins.specs.Twins.{AreJointPrograms}
use Rattle.joint_cycles.specs.JointCalls.{joint_calls, new_node, node_name}
use Rattle.joint_cycles.specs.Owners.{HasNoOwnerOnCycle, IsFirstOwnerOnCycle}
use Rattle.rvt_run.specs.Report.{IsReport}
use Rattle.rvt_run.specs.Lines.{line, line_refused}

-- ---- lines of the map that are refused

-- the lesser of two lines
abbrev pub earlier : Option ℕ → Option ℕ → Option ℕ
earlier (Some a) (Some b) = if nat_le a b then Some a else Some b
earlier (Some a) None = Some a
earlier None other = other

module _ (old new : Program) (said : Entries) where
  -- the first line that names a function without a body, or no function or global of its file
  abbrev pub unknown_line : Option ℕ
  unknown_line = earlier (first_unknown said.functions old.functions new.functions) (line_without_global old.table.objects new.table.objects said.globals)

  -- the first line of two globals of unequal type or `const`
  abbrev pub unlike_line : Option ℕ
  unlike_line = line_of_unlike (struct_partners old.structs.list new.structs.list) old.table.objects new.table.objects said.globals

  -- ---- what is compared

  -- the functions, paired as the map says and else by their names
  abbrev pub functions_of : FunctionPairs
  functions_of = pairs_of said.functions old.functions new.functions

  abbrev pub partners_of : Partners
  partners_of = record { of_old = functions_of.of_old; of_new = functions_of.of_new }

  -- the programs over the joint table
  abbrev pub AreJoint : JointPrograms → Type 0
  AreJoint joint = AreJointPrograms old new partners_of said joint

  -- they stand over one table
  abbrev pub StandOverOne : Type 0
  StandOverOne = AreJoinable old new partners_of (table_of_old old new partners_of said)

-- ---- owners of objects in the calls of both files

-- the owner of an object in either program, as a node of these calls
abbrev pub owner_node : List (Option ℕ) → ℕ → Option ℕ → Option ℕ → Option ℕ
owner_node of_new old_count (Some f) other = Some f
owner_node of_new old_count None (Some g) = Some (new_node of_new old_count g)
owner_node of_new old_count None None = None

abbrev pub owner_nodes : List (Option ℕ) → ℕ → List Object → List Object → List (Option ℕ)
owner_nodes of_new old_count (a ∷ objects) (b ∷ others) = owner_node of_new old_count a.owner b.owner ∷ owner_nodes of_new old_count objects others
owner_nodes of_new old_count _ _ = []

module _ (functions : FunctionPairs) (joint : JointPrograms) where
  abbrev pub calls_of_both : List (List ℕ)
  calls_of_both = joint_calls functions joint.old.functions joint.new_side.functions

  -- the owner of each object of the table
  abbrev pub owners : List (Option ℕ)
  owners = owner_nodes functions.of_new (length joint.old.functions) joint.old.table.objects joint.new_side.table.objects

  -- no object is a local of a function that can call itself, through functions of either file
  abbrev pub IsOffCycles : Type 0
  IsOffCycles = HasNoOwnerOnCycle calls_of_both owners

  -- the first object that is one is a local of the function of this name
  pub record IsOnCycleOf (name : List ℕ) : Type 0 where
    pub node : ℕ
    pub first : IsFirstOwnerOnCycle calls_of_both owners node
    pub named : node_name joint.old.functions joint.new_side.functions node ≡ Some name

abbrev pub cycle_said : List ℕ → List (List ℕ)
cycle_said name = line name (codes ": address of a local on a call cycle of the two files") ∷ []

-- ---- the answer to two files and a map of this name

pub data IsCompared (map_name : List ℕ) (old new : Program) (said : Entries) : ℕ → List (List ℕ) → Type 0 where
  no_such_name : (number : ℕ) → unknown_line old new said ≡ Some number → IsCompared map_name old new said 3 (line_refused map_name number (codes "no such name"))
  types_differ : (number : ℕ) → unknown_line old new said ≡ None → unlike_line old new said ≡ Some number
      → IsCompared map_name old new said 3 (line_refused map_name number (codes "types differ"))
  too_large : unknown_line old new said ≡ None → unlike_line old new said ≡ None → IsJointFault old new (partners_of old new said) said TooLarge
      → IsCompared map_name old new said 3 (line (codes "the table of objects is too large") [] ∷ [])
  on_cycle : (joint : JointPrograms) (name : List ℕ) → unknown_line old new said ≡ None → unlike_line old new said ≡ None → AreJoint old new said joint
      → IsOnCycleOf (functions_of old new said) joint name
      → IsCompared map_name old new said 3 (cycle_said name)
  reported : {status : ℕ} {lines : List (List ℕ)} (joint : JointPrograms) → unknown_line old new said ≡ None → unlike_line old new said ≡ None → AreJoint old new said joint
      → IsOffCycles (functions_of old new said) joint
      → IsReport (StandOverOne old new said) (functions_of old new said) joint status lines
      → IsCompared map_name old new said status lines
