-- What holds of the pairs of functions of two files.
use Rattle.std.specs.Prelude.{◌≡◌, ◌↔◌, ◌⊎◌, ℕ, ◌<◌, true, List, length, Some, slice_get}
use Rattle.std.specs.Option.{is_some}
use Rattle.rvt_tree.specs.declared.programs.Function.{Function}
use Rattle.rvt_tree.specs.Same.{ArePaired}
use Rattle.version_map.specs.declared.map.Listed.{Listed}
use Rattle.function_pairs.specs.FunctionPairs.{pairs_of}

-- a function is the partner of its partner
abbrev pub PairsTurn : Type 0
PairsTurn = (lines : List Listed) (old new : List Function) (f g : ℕ) →
    ArePaired (pairs_of lines old new).of_old f g ↔ ArePaired (pairs_of lines old new).of_new g f

-- partners are functions of their files
abbrev pub PairsStand : Type 0
PairsStand = (lines : List Listed) (old new : List Function) (f g : ℕ) →
    ArePaired (pairs_of lines old new).of_old f g → (f < length old) × (g < length new)

-- a line names the one on the old side and the other on the new side
pub record AreListed (lines : List Listed) (a b : List ℕ) : Type 0 where
  pub place : ℕ
  pub line : Listed
  pub is_there : slice_get lines place ≡ Some line
  pub its_old : line.old ≡ a
  pub its_new : line.new ≡ b

-- one name, which no line has on either side
pub record HaveOneFreeName (lines : List Listed) (a b : List ℕ) : Type 0 where
  pub same : a ≡ b
  pub old_free : (place : ℕ) (line : Listed) → slice_get lines place ≡ Some line → line.old ≡ a → ⊥
  pub new_free : (place : ℕ) (line : Listed) → slice_get lines place ≡ Some line → line.new ≡ a → ⊥

-- two functions with a body that a line lists, or that have one name that no line has
pub record AreNamedPair (lines : List Listed) (old new : List Function) (f g : ℕ) : Type 0 where
  pub function : Function
  pub partner : Function
  pub in_old : slice_get old f ≡ Some function
  pub in_new : slice_get new g ≡ Some partner
  pub old_body : is_some function.body ≡ true
  pub new_body : is_some partner.body ≡ true
  pub names : AreListed lines function.name partner.name ⊎ HaveOneFreeName lines function.name partner.name

-- the functions of a pair are such functions
abbrev pub PairsAreNamed : Type 0
PairsAreNamed = (lines : List Listed) (old new : List Function) (f g : ℕ) → ArePaired (pairs_of lines old new).of_old f g → AreNamedPair lines old new f g
