-- The laws of twins: functions that are equal under a pairing, and touch no constant whose contents changed, do the same.
use Rattle.std.specs.Prelude.{◌≡◌, ℕ, All, List, Bool}
use Rattle.rvt_num.specs.declared.values.Value.{Value}
use Rattle.rvt_tree.specs.declared.pairings.Pairing.{Pairing}
use Rattle.rvt_tree.specs.declared.programs.Program.{Program}
use Rattle.rvt_tree.specs.Same.{ArePaired}
use Rattle.c_meaning.specs.Runs.{run}
use Rattle.c_meaning.specs.Promises.{Full, function_versions, loop_versions}
use Rattle.c_meaning.specs.Twins.{IsClosed}
use Rattle.twin_laws.specs.Tables.{StandOverTheTable, HoldTheSame}
use Rattle.twin_laws.specs.Touches.{TouchOnlyPaired, PointsOpenly}

-- a closed set of twins over one table, which name only paired objects and touch only such through pointers
pub record AreTwinsUnder (pairing : Pairing) (program program' : Program) : Type 0 where
  pub stand : StandOverTheTable pairing program program'
  pub contents : HoldTheSame pairing program program'
  pub closed : IsClosed pairing program program'
  pub touch : TouchOnlyPaired pairing program

-- they have the same runs, from arguments and stores whose pointers are into addressable or paired objects, as those of an input are
abbrev pub TwinsRunAlike : Pairing → Program → Program → Type 0
TwinsRunAlike pairing program program' =
    AreTwinsUnder pairing program program' → (f g : ℕ) → ArePaired pairing.functions f g →
    (arguments store : List Value) → All (PointsOpenly pairing program) arguments → All (PointsOpenly pairing program) store →
    (n d : ℕ) → run program f arguments store n d ≡ run program' g arguments store n d

-- so they are fully equivalent
abbrev pub TwinsAreFull : Pairing → Program → Program → Type 0
TwinsAreFull pairing program program' =
    AreTwinsUnder pairing program program' → (f g : ℕ) → ArePaired pairing.functions f g →
    (reached reached' : ℕ → Bool) → Full (function_versions program program' f g reached reached')

-- and so are their loops, by their numbers
abbrev pub TwinLoopsAreFull : Pairing → Program → Program → Type 0
TwinLoopsAreFull pairing program program' =
    AreTwinsUnder pairing program program' → (f g : ℕ) → ArePaired pairing.functions f g →
    (number : ℕ) (interface : List ℕ) (reached reached' : ℕ → Bool) → Full (loop_versions program program' f g number interface reached reached')
