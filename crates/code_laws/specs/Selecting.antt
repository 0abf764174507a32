-- The search for the group of a `switch`, in its code.
use Rattle.std.specs.Prelude.{◌≡◌, ◌≢◌, ℕ, zero, suc, ◌+◌, List, slice_get, Option, Some, Bool, true, false, ◌||◌, if◌then◌else◌}
use Rattle.rvt_tree.specs.declared.statements.Label.{Label}
use Rattle.rvt_tree.specs.declared.statements.Label.TheVariants.{Case, Default}
use Rattle.c_meaning.specs.Outcomes.{Normally}
use Rattle.c_tasks.specs.Operands.{Operands, without_value, with_manner}
use Rattle.c_code.specs.declared.instructions.Instruction.{Instruction}
use Rattle.c_code.specs.declared.instructions.Instruction.TheVariants as I

-- whether an instruction is a label that meets a test
abbrev pub meets : (Label → Bool) → Option Instruction → Bool
meets test (Some (I.Case n)) = test (Case n)
meets test (Some I.Default) = test Default
meets test other = false

-- whether one of the labels from a place on, so many, meets it
abbrev pub one_meets : (Label → Bool) → List Instruction → ℕ → ℕ → Bool
one_meets test code at zero = false
one_meets test code at (suc count) = meets test (slice_get code at) || one_meets test code (suc at) count

-- from a place on there is such a group, and this is its first label; or there is none, and there the groups end
pub data Finds (test : Label → Bool) (code : List Instruction) : ℕ → Bool → ℕ → Type 0 where
  here : {at : ℕ} (labels n : ℕ) → slice_get code at ≡ Some (I.Group labels n) → one_meets test code (suc at) labels ≡ true → Finds test code at true (suc at)
  further : {at place : ℕ} {found : Bool} (labels n : ℕ) → slice_get code at ≡ Some (I.Group labels n) → one_meets test code (suc at) labels ≡ false → Finds test code (at + n) found place → Finds test code at found place
  nowhere : {at : ℕ} → ((labels n : ℕ) → slice_get code at ≢ Some (I.Group labels n)) → Finds test code at false at

-- a `switch` without such a group ends normally
abbrev pub arriving : Bool → Operands → Operands
arriving found on = if found then without_value on else with_manner Normally (without_value on)
