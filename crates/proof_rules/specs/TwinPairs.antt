-- What is known of twins, two units whose code is the same but for names.
use Rattle.std.specs.Prelude.{◌≡◌, ℕ, Bool, true, List, None, Some, slice_get}
use Rattle.core_ir.specs.Calls.{Among, unit_calls}
use Rattle.core_ir.specs.Joint.{Side, Pair, Calls, core_of, node_of, pair_of}
use Rattle.core_ir.specs.Tables.{Effects}
use Rattle.core_ir.specs.declared.cores.JointCore.{JointCore}
use Rattle.proof_rules.specs.Rules.{IsShared, IsWithin, SameEndUnder, SameCallsUnder}
use Rattle.touch_sets.specs.Sets.{AreEffects}

-- the set holds each pair that the pair calls
abbrev pub HoldsCallees : JointCore → (ℕ → Bool) → ℕ → Type 0
HoldsCallees joint shared p = (q : ℕ) → Calls joint (Pair p) (Pair q) → shared q ≡ true

abbrev pub IsTwin : List Bool → ℕ → Type 0
IsTwin twin p = slice_get twin p ≡ Some true

-- where the pairs that a twin calls are shared, it has equal ends, and where they are full, equal calls; it calls no unit outside pairs
pub record TwinsHold (joint : JointCore) (twin : List Bool) : Type 0 where
  pub same_end : (effects : Effects) (p : ℕ) (shared : ℕ → Bool) → AreEffects joint effects → IsTwin twin p → IsShared joint shared → HoldsCallees joint shared p → SameEndUnder joint effects shared p
  pub same_calls : (effects : Effects) (p : ℕ) (shared full : ℕ → Bool) → AreEffects joint effects → IsTwin twin p → IsShared joint shared → HoldsCallees joint shared p → IsWithin full shared → HoldsCallees joint full p → SameCallsUnder joint effects shared full p
  pub within_pairs : (p : ℕ) (side : Side) (caller callee : ℕ) → IsTwin twin p → node_of joint side caller ≡ Pair p → Among callee (unit_calls (core_of joint side) caller) → pair_of joint side callee ≡ None → ⊥
