-- What is paired in the two programs: functions as they are paired in the files, objects by their numbers, and equal structs.
use Rattle.std.specs.Prelude.{ℕ, zero, suc, ◌+◌, List, [], ◌∷◌, ◌++◌, length, unwrap_or, Option, Some, None}
use Rattle.rvt_tree.specs.declared.pairings.Pairing.{Pairing}
use Rattle.rvt_tree.specs.declared.programs.Program.{Program}
use Rattle.joint_objects.specs.Sides.{Partners}
use Rattle.joint_objects.specs.JointObjects.{equal_structs}

-- each number below the count with itself
abbrev pub by_number : ℕ → List (Option ℕ)
by_number zero = []
by_number (suc n) = by_number n ++ Some n ∷ []

-- the number in the new program of a struct of the old file: that of the equal one, or else its own behind the new file's, which has so many
abbrev pub number_in_new : ℕ → ℕ → Option ℕ → ℕ
number_in_new count number partner = unwrap_or partner (count + number)

-- structs of the old file, from this number on
abbrev pub old_structs_from : ℕ → ℕ → List (Option ℕ) → List (Option ℕ)
old_structs_from count number [] = []
old_structs_from count number (partner ∷ rest) = Some (number_in_new count number partner) ∷ old_structs_from count (number + 1) rest

abbrev pub unless_equal : ℕ → Option ℕ → Option ℕ
unless_equal number (Some other) = None
unless_equal number None = Some number

-- structs of the new file, from this number on: those of the new file alone, behind the old file's
abbrev pub new_structs_from : ℕ → List (Option ℕ) → List (Option ℕ)
new_structs_from number [] = []
new_structs_from number (partner ∷ rest) = unless_equal number partner ∷ new_structs_from (number + 1) rest

abbrev pub structs_paired : ℕ → Partners → List (Option ℕ)
structs_paired count structs = old_structs_from count 0 structs.of_old ++ new_structs_from 0 structs.of_new

-- for a table of so many objects
abbrev pub joint_pairing : Program → Program → Partners → ℕ → Pairing
joint_pairing old new functions objects =
    record { functions = functions.of_old; objects = by_number objects; structs = structs_paired (length new.structs.list) (equal_structs old new) }
