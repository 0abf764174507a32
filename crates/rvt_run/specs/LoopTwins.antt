-- Twins whose loops are twins too.
use Rattle.std.specs.Prelude.{◌≡◌, ℕ, List, Option, Some, slice_get}
use Rattle.std.specs.List.{Contains}
use Rattle.rvt_tree.specs.Syntax.{Statement}
use Rattle.rvt_tree.specs.declared.pairings.Pairing.{Pairing}
use Rattle.rvt_tree.specs.declared.programs.Function.{Function}
use Rattle.rvt_tree.specs.declared.programs.Program.{Program}
use Rattle.rvt_tree.specs.Same.{ArePaired}
use Rattle.c_meaning.specs.Interfaces.{StandsIn, name_of, named_in_loop, declared_in_loop}
use Rattle.c_meaning.specs.Twins.{IsClosed}
use Rattle.twin_check.specs.Sets.{IsWithin}
use Rattle.joint_programs.specs.declared.programs.JointPrograms.{JointPrograms}
use Rattle.joint_twins.specs.Twins.{AreTwinsOver}
use Rattle.loop_interfaces.specs.Loops.{loops_of}

-- each of these locals has one name in both functions: in the trees a local is its number
abbrev pub AreNamedSo : Function → Function → List ℕ → Type 0
AreNamedSo f g locals = (number : ℕ) → StandsIn number locals → name_of f number ≡ name_of g number

-- so has each local in the interface of one of these loops
abbrev pub HaveOneNamingIn : Function → Function → List Statement → Type 0
HaveOneNamingIn f g loops =
    (loop : Statement) → Contains loops loop → (number : ℕ) → StandsIn number (named_in_loop loop) → (StandsIn number (declared_in_loop loop) → ⊥) → name_of f number ≡ name_of g number

abbrev pub HaveOneNaming : Function → Function → Type 0
HaveOneNaming f g = HaveOneNamingIn f g (loops_of f)

abbrev pub AreNamedAlike : Option Function → Option Function → Type 0
AreNamedAlike (Some f) (Some g) = HaveOneNaming f g
AreNamedAlike _ _ = ⊥

-- it is so in each pair of functions
abbrev pub AllNamedAlike : Pairing → Program → Program → Type 0
AllNamedAlike pairing old new = (f g : ℕ) → ArePaired pairing.functions f g → AreNamedAlike (slice_get old.functions f) (slice_get new.functions g)

-- The greatest closed set of twins of two joint programs, in which the loops of twins stand on locals of the same names: so their
-- interfaces are the same, and locals of one name have one number.
pub record AreLoopTwins (joint : JointPrograms) (twins : Pairing) : Type 0 where
  pub all : Pairing
  pub are : AreTwinsOver joint all
  pub within : IsWithin twins all
  pub closed : IsClosed twins joint.old joint.new_side
  pub alike : AllNamedAlike twins joint.old joint.new_side
  pub greatest : (set : Pairing) → IsWithin set are.candidates → IsClosed set joint.old joint.new_side → AllNamedAlike set joint.old joint.new_side → IsWithin set twins

-- those pairs of functions were taken out of which this isn't so, and no others
pub record KeepsNamedAlike (old new : Program) (before after : Pairing) : Type 0 where
  pub within : IsWithin after before
  pub kept : (f g : ℕ) → ArePaired before.functions f g → AreNamedAlike (slice_get old.functions f) (slice_get new.functions g) → ArePaired after.functions f g
  pub alike : AllNamedAlike after old new
