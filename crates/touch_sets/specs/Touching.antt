-- What a `Touch` says.
use Rattle.std.specs.Prelude.{◌≡◌, ◌↔◌, ℕ, zero, suc, Bool, true, false, not, cond, ◌||◌, List, [], map, Vec, Option, Some, None, slice_get, slice_index_or, nat_eq}
use Rattle.std.specs.Global.{Global}
use Rattle.core_ir.specs.Joint.{Side, Old, New, Node, Pair, Alone, PairOfUnits, member, pair_from, node_by, core_of}
use Rattle.core_ir.specs.Tables.{Effects}
use Rattle.core_ir.specs.declared.cores.JointCore.{JointCore}
use Rattle.rvt_num.specs.declared.values.Trap.{Trap}
use Rattle.rvt_num.specs.declared.values.Trap.TheVariants as trap
use Rattle.touch_sets.specs.Sets.{Touches, MayTrap, AlwaysEnds, AreEffects}

abbrev pub side_of : Bool → Side
side_of true = Old
side_of false = New

-- ---- pairs

-- the pair of a unit, or the unit alone
abbrev pub node_in : List PairOfUnits → Side → ℕ → Node
node_in pairs side u = node_by side u (pair_from side u 0 pairs)

abbrev pub is_side : Side → Side → Bool
is_side Old Old = true
is_side New New = true
is_side _ _ = false

abbrev pub unless_paired : ℕ → Option ℕ → Option ℕ
unless_paired u None = Some u
unless_paired u (Some p) = None

-- the unit, where this pair is its first one
abbrev pub if_paired : ℕ → ℕ → Option ℕ → Option ℕ
if_paired p u None = None
if_paired p u (Some q) = cond (nat_eq q p) (Some u) None

abbrev pub member_at : List PairOfUnits → ℕ → Side → Option PairOfUnits → Option ℕ
member_at pairs p side None = None
member_at pairs p side (Some units) = if_paired p (member side units) (pair_from side (member side units) 0 pairs)

-- the unit of a version that a node stands for, if there is one
abbrev pub unit_at : List PairOfUnits → Node → Side → Option ℕ
unit_at pairs (Pair p) side = member_at pairs p side (slice_get pairs p)
unit_at pairs (Alone s u) side = cond (is_side s side) (unless_paired u (pair_from s u 0 pairs)) None

-- the pair of a unit, once a pair is known in which this unit stands
abbrev pub entered_at : ℕ → ℕ → ℕ → Option ℕ → Option ℕ
entered_at unit pair u (Some p) = Some p
entered_at unit pair u None = cond (nat_eq unit u) (Some pair) None

-- ---- flags

-- the numbers of the kinds of traps, and the kinds of these numbers
abbrev pub trap_number : Trap → ℕ
trap_number trap.Divide = 0
trap_number trap.Quotient = 1
trap_number trap.Shift = 2
trap_number trap.Index = 3
trap_number trap.Null = 4
trap_number trap.Range = 5
trap_number trap.Place = 6
trap_number trap.NoReturn = 7

abbrev pub trap_with : ℕ → Trap
trap_with zero = trap.Divide
trap_with (suc zero) = trap.Quotient
trap_with (suc (suc zero)) = trap.Shift
trap_with (suc (suc (suc zero))) = trap.Index
trap_with (suc (suc (suc (suc zero)))) = trap.Null
trap_with (suc (suc (suc (suc (suc zero))))) = trap.Range
trap_with (suc (suc (suc (suc (suc (suc zero)))))) = trap.Place
trap_with (suc (suc (suc (suc (suc (suc (suc n))))))) = trap.NoReturn

-- flags of the units of one version: by object whether they touch it, by the number of a trap whether they may end with it, and
-- whether they may go on without an end
pub record UnitFlags : Type 0 where
  pub touched : List (List Bool)
  pub traps : List (List Bool)
  pub endless : List Bool

-- what vectors of vectors hold, as lists of lists
abbrev pub flag_rows : List (Vec Bool Global) → List (List Bool)
flag_rows vectors = map (λ v. v.items) vectors

-- the flag at a place of a row
abbrev pub flag : List (List Bool) → ℕ → ℕ → Bool
flag table row u = slice_index_or (slice_index_or table row []) u false

abbrev pub unit_touches : UnitFlags → ℕ → ℕ → Bool
unit_touches flags u o = flag flags.touched o u

abbrev pub unit_traps : UnitFlags → ℕ → Trap → Bool
unit_traps flags u t = flag flags.traps (trap_number t) u

abbrev pub unit_ends : UnitFlags → ℕ → Bool
unit_ends flags u = not (slice_index_or flags.endless u true)

-- these are the flags of the units of a version
pub record AreFlags (joint : JointCore) (side : Side) (flags : UnitFlags) : Type 0 where
  pub touched : (u o : ℕ) → (unit_touches flags u o ≡ true) ↔ Touches joint side u o
  pub may_trap : (u : ℕ) (t : Trap) → (unit_traps flags u t ≡ true) ↔ MayTrap joint side u t
  pub always_ends : (u : ℕ) → (unit_ends flags u ≡ true) ↔ AlwaysEnds (core_of joint side) u

-- ---- nodes

abbrev pub told : Option ℕ → (ℕ → Bool) → Bool
told None holds = false
told (Some u) holds = holds u

-- it holds of a unit for which the node stands
abbrev pub at_node : List PairOfUnits → Node → (Side → ℕ → Bool) → Bool
at_node pairs x holds = told (unit_at pairs x Old) (holds Old) || told (unit_at pairs x New) (holds New)

-- the pairs, and the flags of the units of both versions
pub record Touching : Type 0 where
  pub pairs : List PairOfUnits
  pub old : UnitFlags
  pub new_side : UnitFlags

abbrev pub flags_at : Touching → Side → UnitFlags
flags_at touch Old = touch.old
flags_at touch New = touch.new_side

-- the effects that these flags tell
abbrev pub effects_of : Touching → Effects
effects_of touch =
    record {
      touched = λ x o. at_node touch.pairs x (λ side u. unit_touches (flags_at touch side) u o);
      may_trap = λ x t. at_node touch.pairs x (λ side u. unit_traps (flags_at touch side) u t);
      always_ends = λ side u. unit_ends (flags_at touch side) u;
    }

-- it is of this joint core: it has its pairs, and tells its least sets
pub record IsTouchOf (joint : JointCore) (touch : Touching) : Type 0 where
  pub pairs : touch.pairs ≡ joint.pairs
  pub effects : AreEffects joint (effects_of touch)
