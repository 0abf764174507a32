-- What twins may be among.
use Rattle.std.specs.Prelude.{◌≡◌, ◌↔◌, ℕ, slice_get}
use Rattle.rvt_tree.specs.declared.pairings.Pairing.{Pairing}
use Rattle.rvt_tree.specs.declared.programs.Program.{Program}
use Rattle.rvt_tree.specs.Same.{ArePaired}
use Rattle.c_meaning.specs.Stores.{objects_of}
use Rattle.twin_laws.specs.Tables.{SameContents}
use Rattle.twin_laws.specs.Touches.{FunctionTouchesPaired}

-- the pairs of a pairing, without constants whose contents changed, and without functions of the old program that may touch one through a pointer
pub record AreCandidates (old new : Program) (pairing candidates : Pairing) : Type 0 where
  pub objects : (a b : ℕ) → ArePaired candidates.objects a b ↔ (ArePaired pairing.objects a b × SameContents (slice_get (objects_of old) a) (slice_get (objects_of new) b))
  pub functions : (f g : ℕ) → ArePaired candidates.functions f g ↔ (ArePaired pairing.functions f g × FunctionTouchesPaired candidates old (slice_get old.functions f))
  pub structs : candidates.structs ≡ pairing.structs
