-- What it means that a run writes a verdict.
use Rattle.std.specs.Prelude.{◌≡◌, ℕ, ◌==◌, if◌then◌else◌, List, [], ◌∷◌, ◌++◌, Option, Some, Ok}
use Rattle.std.specs.List.{Contains}
use Rattle.rvt_edge.specs.Desk.{Files}
use Rattle.rvt_tree.specs.declared.programs.Program.{Program}
use Rattle.c_programs.specs.Readings.{IsReading}
use Rattle.command_words.specs.Commands.{comparison, IsCommand}
use Rattle.version_map.specs.Maps.{Entries, map_of}
use Rattle.function_pairs.specs.Units.{pair_name}
use Rattle.joint_programs.specs.declared.programs.JointPrograms.{JointPrograms}
use Rattle.rvt_run.specs.Answer.{IsWhole, IsWholeMap}
use Rattle.rvt_run.specs.Joined.{functions_of, AreJoint}
use Rattle.rvt_run.specs.Report.{IsName, IsNumbered, full_line, IsFullPair}

-- the whole lines of a text, each with its line end, where a line has begun with these bytes
abbrev pub lines_from : List ℕ → List ℕ → List (List ℕ)
lines_from begun [] = []
lines_from begun (byte ∷ bytes) = if byte == 10 then (begun ++ byte ∷ []) ∷ lines_from [] bytes else lines_from (begun ++ byte ∷ []) bytes

-- the whole lines of a text
abbrev pub lines_of : List ℕ → List (List ℕ)
lines_of text = lines_from [] text

-- The words name two files, and perhaps a map; what the desk told of them are two programs and what the map says. Two functions of these
-- names are paired by it, and in the two programs over their joint table they, or their loops of this number, are fully equivalent.
pub record IsFullInFiles (words : List (List ℕ)) (files : Option Files) (f g : List ℕ) (number : Option ℕ) : Type 0 where
  pub old_name : List ℕ
  pub new_name : List ℕ
  pub map_name : Option (List ℕ)
  pub command : IsCommand words (comparison old_name new_name map_name)
  pub old_bytes : List ℕ
  pub new_bytes : List ℕ
  pub map_bytes : List ℕ
  pub old_told : IsWhole files old_name old_bytes
  pub new_told : IsWhole files new_name new_bytes
  pub map_told : IsWholeMap files map_name map_bytes
  pub old : Program
  pub new : Program
  pub said : Entries
  pub old_read : IsReading old_bytes old
  pub new_read : IsReading new_bytes new
  pub map_read : map_of map_bytes ≡ Ok said
  pub joint : JointPrograms
  pub are_joint : AreJoint old new said joint
  pub pair : IsFullPair (functions_of old new said).of_old joint.old joint.new_side f g number

-- Where a whole line of what was written says that a pair of functions or of loops is fully equivalent, it is.
abbrev pub SaysFullTruly : List (List ℕ) → Option Files → Option (List ℕ) → Option (List ℕ) → Type 0
SaysFullTruly words files before after =
    (written text f g : List ℕ) (number : Option ℕ) → before ≡ Some written → after ≡ Some (written ++ text) → IsName f → IsName g → IsNumbered number →
    Contains (lines_of text) (full_line (pair_name f g) number) → IsFullInFiles words files f g number
