-- The two rules of regression verification: equal ends under every table give partial equivalence (after Godlin and Strichman), and
-- equal calls too give full equivalence (after Elenbogen, Katz and Strichman).
use Rattle.std.specs.Prelude.{◌≡◌, ◌⊎◌, ℕ, Bool, true, false, cond, ◌&&◌, List, Option, Some, None, slice_get, nat_eq}
use Rattle.std.specs.List.{AllByRecursion}
use Rattle.core_ir.specs.Calls.{Among}
use Rattle.core_ir.specs.Fits.{Fits}
use Rattle.core_ir.specs.Inputs.{IsPairInput}
use Rattle.core_ir.specs.Joint.{Old, New, IsPair}
use Rattle.core_ir.specs.Meaning.{End, Request, Ends}
use Rattle.core_ir.specs.Tables.{Effects, EntryName, Shared, Own, Keyed, Entry, IsLawful, abstract_end, abstract_calls}
use Rattle.core_ir.specs.declared.cores.JointCore.{JointCore}
use Rattle.rvt_num.specs.declared.values.Value.{Value}
use Rattle.touch_sets.specs.Sets.{AreEffects}

abbrev pub call_of : ℕ → List Value → List Value → Request
call_of u args store = record { unit = u; args = args; store = store }

-- ---- the promises

-- wherever both versions end on an input, the ends are the same
pub record IsPartial (joint : JointCore) (p : ℕ) : Type 0 where
  pub same : (u v : ℕ) (args store : List Value) (e e' : End) → IsPairInput joint p u v args store → Ends joint.old (call_of u args store) e → Ends joint.new_side (call_of v args store) e' → e ≡ e'

-- and wherever one version ends, the other ends too
pub record IsFull (joint : JointCore) (p : ℕ) : Type 0 where
  pub partial : IsPartial joint p
  pub new_ends : (u v : ℕ) (args store : List Value) (e : End) → IsPairInput joint p u v args store → Ends joint.old (call_of u args store) e → (e' : End) × Ends joint.new_side (call_of v args store) e'
  pub old_ends : (u v : ℕ) (args store : List Value) (e : End) → IsPairInput joint p u v args store → Ends joint.new_side (call_of v args store) e → (e' : End) × Ends joint.old (call_of u args store) e'

-- ---- what is asked of a pair

-- whatever the lawful table, in which the pairs of a set are shared: the two units have the same end
pub record SameEndUnder (joint : JointCore) (effects : Effects) (shared : ℕ → Bool) (p : ℕ) : Type 0 where
  pub same : (u v : ℕ) (args store : List Value) (entries : List Entry) → IsPairInput joint p u v args store → IsLawful joint effects entries → abstract_end joint effects shared Old entries (call_of u args store) ≡ abstract_end joint effects shared New entries (call_of v args store)

-- both units of a pair always end
abbrev pub both_end : Effects → Option (ℕ × ℕ × Bool) → Bool
both_end effects None = false
both_end effects (Some p) = effects.always_ends Old p.0 && effects.always_ends New p.1

-- a call that needs no partner, since what it calls always ends
abbrev pub is_exempt : JointCore → Effects → EntryName → Bool
is_exempt joint effects (Shared p) = both_end effects (slice_get joint.pairs p)
is_exempt joint effects (Own side u) = effects.always_ends side u

-- each call of the first list that isn't exempt is one of the second
abbrev pub AreCovered : JointCore → Effects → List Keyed → List Keyed → Type 0
AreCovered joint effects xs ys = AllByRecursion (λ x. is_exempt joint effects x.name ≡ false → Among x ys) xs

abbrev pub IsToPairOf : (ℕ → Bool) → EntryName → Type 0
IsToPairOf full (Shared p) = full p ≡ true
IsToPairOf full (Own side u) = ⊥

-- each call that isn't exempt is to a pair of the set
abbrev pub GoToPairsOf : JointCore → Effects → (ℕ → Bool) → List Keyed → Type 0
GoToPairsOf joint effects full xs = AllByRecursion (λ x. is_exempt joint effects x.name ≡ false → IsToPairOf full x.name) xs

-- two runs make the same calls, exempt ones left out, and each is to a pair of the set
pub record SameCalls (joint : JointCore) (effects : Effects) (full : ℕ → Bool) (old new : List Keyed) : Type 0 where
  pub old_covered : AreCovered joint effects old new
  pub new_covered : AreCovered joint effects new old
  pub old_full : GoToPairsOf joint effects full old
  pub new_full : GoToPairsOf joint effects full new

-- whatever the lawful table, in which the pairs of the shared set are shared
pub record MakeSameCalls (joint : JointCore) (effects : Effects) (shared full : ℕ → Bool) (p : ℕ) : Type 0 where
  pub same : (u v : ℕ) (args store : List Value) (entries : List Entry) → IsPairInput joint p u v args store → IsLawful joint effects entries → SameCalls joint effects full (abstract_calls joint effects shared Old entries (call_of u args store)) (abstract_calls joint effects shared New entries (call_of v args store))

-- both units of p always end, or they make the same calls whatever the lawful table
abbrev pub SameCallsUnder : JointCore → Effects → (ℕ → Bool) → (ℕ → Bool) → ℕ → Type 0
SameCallsUnder joint effects shared full p = (both_end effects (slice_get joint.pairs p) ≡ true) ⊎ MakeSameCalls joint effects shared full p

-- ---- sets of pairs

-- the pairs of a shared set are there and have equal interfaces
pub record IsShared (joint : JointCore) (shared : ℕ → Bool) : Type 0 where
  pub pairs : (p : ℕ) → shared p ≡ true → (u : ℕ) × (v : ℕ) × IsPair joint p u v

abbrev pub IsWithin : (ℕ → Bool) → (ℕ → Bool) → Type 0
IsWithin inner outer = (p : ℕ) → inner p ≡ true → outer p ≡ true

-- ---- the rules

-- if each pair of a set has equal ends under every table in which the set is shared, each is partially equivalent
abbrev pub PartialRule : Type 0
PartialRule = (joint : JointCore) (effects : Effects) (shared : ℕ → Bool) → Fits joint → AreEffects joint effects → IsShared joint shared → ((p : ℕ) → shared p ≡ true → SameEndUnder joint effects shared p) → (p : ℕ) → shared p ≡ true → IsPartial joint p

-- if moreover each pair of a set within it makes equal calls, each of these is fully equivalent
abbrev pub TerminationRule : Type 0
TerminationRule = (joint : JointCore) (effects : Effects) (shared full : ℕ → Bool) → Fits joint → AreEffects joint effects → IsShared joint shared → IsWithin full shared → ((p : ℕ) → shared p ≡ true → SameEndUnder joint effects shared p) → ((p : ℕ) → full p ≡ true → SameCallsUnder joint effects shared full p) → (p : ℕ) → full p ≡ true → IsFull joint p

-- what holds of a pair with a set shared holds with a larger set shared: a lawful table over the larger set is one over the smaller,
-- with the entries of pairs that are shared no more given to both their units
abbrev pub SharingLaw : Type 0
SharingLaw = (joint : JointCore) (effects : Effects) (small large : ℕ → Bool) → Fits joint → IsShared joint large → IsWithin small large → (p : ℕ) → SameEndUnder joint effects small p → SameEndUnder joint effects large p

-- what holds of a pair's calls within a set of full pairs holds within a larger one
abbrev pub CallsSharingLaw : Type 0
CallsSharingLaw = (joint : JointCore) (effects : Effects) (shared small large : ℕ → Bool) → IsWithin small large → (p : ℕ) → SameCallsUnder joint effects shared small p → SameCallsUnder joint effects shared large p

-- ---- the order of drops

-- the set with one pair taken out
abbrev pub without : (ℕ → Bool) → ℕ → ℕ → Bool
without pairs p q = cond (nat_eq q p) false (pairs q)

-- each pair of the set has equal ends under every table in which the set is shared
abbrev pub HoldsItself : JointCore → Effects → (ℕ → Bool) → Type 0
HoldsItself joint effects shared = (p : ℕ) → shared p ≡ true → SameEndUnder joint effects shared p

-- and equal calls, with another set shared
abbrev pub CallsHoldThemselves : JointCore → Effects → (ℕ → Bool) → (ℕ → Bool) → Type 0
CallsHoldThemselves joint effects shared full = (p : ℕ) → full p ≡ true → SameCallsUnder joint effects shared full p

-- a set that holds itself loses no pair by the drop of one that is refuted with the larger set shared; so where all drops are refuted,
-- in whatever order, what stays has every set that holds itself within it
abbrev pub DropLaw : Type 0
DropLaw = (joint : JointCore) (effects : Effects) (good before : ℕ → Bool) (p : ℕ) → Fits joint → IsShared joint before → IsWithin good before → HoldsItself joint effects good → (SameEndUnder joint effects before p → ⊥) → IsWithin good (without before p)

abbrev pub CallsDropLaw : Type 0
CallsDropLaw = (joint : JointCore) (effects : Effects) (shared good before : ℕ → Bool) (p : ℕ) → IsWithin good before → CallsHoldThemselves joint effects shared good → (SameCallsUnder joint effects shared before p → ⊥) → IsWithin good (without before p)
