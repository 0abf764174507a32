-- Pairs that call one another.
use Rattle.std.specs.Prelude.{◌≡◌, ℕ, ◌<◌, ◌≤◌, Bool, true, false, cond, List, [], ◌∷◌, ◌++◌, map, Option, option_to_list, Some, None, slice_get, length, nat_eq}
use Rattle.call_graph.specs.Components.{Stands, InGroup}
use Rattle.core_ir.specs.Calls.{Among, unit_calls}
use Rattle.core_ir.specs.Joint.{Side, Old, New, PairOfUnits, member, core_of, pair_of, pair_from}
use Rattle.core_ir.specs.declared.cores.JointCore.{JointCore}

abbrev pub side_of : Bool → Side
side_of true = Old
side_of false = New

-- a unit of the first pair calls a unit of the second
pub record PairCalls (joint : JointCore) (p q : ℕ) : Type 0 where
  pub pair : PairOfUnits
  pub is_there : slice_get joint.pairs p ≡ Some pair
  pub side : Side
  pub callee : ℕ
  pub is_call : Among callee (unit_calls (core_of joint side) (member side pair))
  pub of_second : pair_of joint side callee ≡ Some q

-- by calls from pair to pair, however many, none included
pub data PairReaches (joint : JointCore) : ℕ → ℕ → Type 0 where
  here : {p : ℕ} → PairReaches joint p p
  onward : {p q r : ℕ} → PairCalls joint p q → PairReaches joint q r → PairReaches joint p r

pub record AreGroups (joint : JointCore) (groups : List (List ℕ)) : Type 0 where
  -- each pair stands in a group
  pub all : (p : ℕ) → p < length joint.pairs → (k : ℕ) × InGroup groups k p
  -- and at one place of one group alone
  pub once : (p j k a b : ℕ) → Stands groups j a p → Stands groups k b p → (j ≡ k) × (a ≡ b)
  -- nothing else stands there
  pub within : (p k : ℕ) → InGroup groups k p → p < length joint.pairs
  -- two pairs of one group reach each other
  pub mutual_reach : (p q k : ℕ) → InGroup groups k p → InGroup groups k q → PairReaches joint p q
  -- a pair that is reached stands in the same group or in an earlier one, so two that reach each other stand in one
  pub order : (p q j k : ℕ) → InGroup groups j p → InGroup groups k q → PairReaches joint p q → k ≤ j

-- the pairs of these units, in order, where the pair of each unit is told
abbrev pub pairs_of : (ℕ → Option ℕ) → List ℕ → List ℕ
pairs_of pair [] = []
pairs_of pair (u ∷ units) = option_to_list (pair u) ++ pairs_of pair units

abbrev pub called_pairs : Side → List PairOfUnits → List ℕ → List ℕ
called_pairs side pairs units = pairs_of (λ u. pair_from side u 0 pairs) units

-- the pairs that a pair calls
abbrev pub called_by : JointCore → PairOfUnits → List ℕ
called_by joint pair = called_pairs Old joint.pairs (unit_calls joint.old pair.0) ++ called_pairs New joint.pairs (unit_calls joint.new_side pair.1)

abbrev pub pair_successors : JointCore → List (List ℕ)
pair_successors joint = map (called_by joint) joint.pairs

-- the pair of a unit, once a pair is known in which this unit stands
abbrev pub entered_at : ℕ → ℕ → ℕ → Option ℕ → Option ℕ
entered_at unit pair u (Some p) = Some p
entered_at unit pair u None = cond (nat_eq unit u) (Some pair) None
