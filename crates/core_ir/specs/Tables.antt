-- Units whose calls are answered by a table of ends.
use Rattle.std.specs.Prelude.{◌≡◌, ℕ, Bool, true, false, cond, ◌&&◌, List, [], ◌∷◌, map, Option, Some, None, ℤ, pos, negsuc, slice_get, nat_eq}
use Rattle.std.specs.List.{AllByRecursion}
use Rattle.core_ir.specs.Cells.{zero_of, store_shapes, cells_of, pick, fill}
use Rattle.core_ir.specs.Inputs.{HaveShapes, IsFree, results_of}
use Rattle.core_ir.specs.Joint.{Side, Old, New, Node, Pair, node_of, core_of, unit_of, table, pair_of}
use Rattle.core_ir.specs.Meaning.{End, Trapped, Returned, Request, Answers, Run, unit_run, unit_end}
use Rattle.core_ir.specs.declared.cores.JointCore.{JointCore}
use Rattle.core_ir.specs.declared.units.Shape.{Shape}
use Rattle.rvt_num.specs.declared.kinds.Kind.{Kind}
use Rattle.rvt_num.specs.declared.kinds.Kind.TheVariants.{Bool as BoolKind, I8, U8, I16, U16, I32, U32, I64, U64}
use Rattle.rvt_num.specs.declared.values.Trap.{Trap}
use Rattle.rvt_num.specs.declared.values.Value.{Value}
use Rattle.rvt_num.specs.declared.values.Value.TheVariants.{Num, Null, At}

-- what units touch and how they may trap, by node, and which units always end
pub record Effects : Type 0 where
  pub touched : Node → ℕ → Bool
  pub may_trap : Node → Trap → Bool
  pub always_ends : Side → ℕ → Bool

-- the mutable cells of a node's key
abbrev pub key_cells : JointCore → Effects → Node → List Bool
key_cells joint effects x = cells_of (table joint) (effects.touched x)

-- ---- names and keys

-- a pair of the shared set, or a unit by itself
pub data EntryName : Type 0 where
  Shared : ℕ → EntryName
  Own : Side → ℕ → EntryName

abbrev pub name_by : (ℕ → Bool) → Side → ℕ → Option ℕ → EntryName
name_by shared side u None = Own side u
name_by shared side u (Some p) = cond (shared p) (Shared p) (Own side u)

abbrev pub name_of : JointCore → (ℕ → Bool) → Side → ℕ → EntryName
name_of joint shared side u = name_by shared side u (pair_of joint side u)

-- the node for which an entry is read
abbrev pub node_named : JointCore → EntryName → Node
node_named joint (Shared p) = Pair p
node_named joint (Own side u) = node_of joint side u

-- a name, and a key: the arguments, and the mutable cells of the touched objects in the order of the table
pub record Keyed : Type 0 where
  pub name : EntryName
  pub args : List Value
  pub cells : List Value

abbrev pub keyed : JointCore → Effects → (ℕ → Bool) → Side → Request → Keyed
keyed joint effects shared side call =
    record {
      name = name_of joint shared side call.unit;
      args = call.args;
      cells = pick (key_cells joint effects (node_of joint side call.unit)) call.store;
    }

-- ---- tables

-- an end as far as a key's cells go
pub data Answer : Type 0 where
  Traps : Trap → Answer
  Gives : (results cells : List Value) → Answer

pub record Entry : Type 0 where
  pub key : Keyed
  pub answer : Answer

-- whether two values are the same
abbrev pub kind_number : Kind → ℕ
kind_number BoolKind = 0
kind_number I8 = 1
kind_number U8 = 2
kind_number I16 = 3
kind_number U16 = 4
kind_number I32 = 5
kind_number U32 = 6
kind_number I64 = 7
kind_number U64 = 8

abbrev pub same_int : ℤ → ℤ → Bool
same_int (pos a) (pos b) = nat_eq a b
same_int (negsuc a) (negsuc b) = nat_eq a b
same_int _ _ = false

abbrev pub same_value : Value → Value → Bool
same_value (Num a) (Num b) = nat_eq (kind_number a.kind) (kind_number b.kind) && same_int a.value b.value
same_value Null Null = true
same_value (At o c) (At p d) = nat_eq o p && nat_eq c d
same_value _ _ = false

abbrev pub same_values : List Value → List Value → Bool
same_values [] [] = true
same_values (v ∷ vs) (w ∷ ws) = same_value v w && same_values vs ws
same_values _ _ = false

abbrev pub same_side : Side → Side → Bool
same_side Old Old = true
same_side New New = true
same_side _ _ = false

abbrev pub same_name : EntryName → EntryName → Bool
same_name (Shared p) (Shared q) = nat_eq p q
same_name (Own s u) (Own t v) = same_side s t && nat_eq u v
same_name _ _ = false

abbrev pub same_key : Keyed → Keyed → Bool
same_key a b = same_name a.name b.name && (same_values a.args b.args && same_values a.cells b.cells)

-- the answer of the first entry of a key
abbrev pub lookup : Keyed → List Entry → Option Answer
lookup key [] = None
lookup key (e ∷ es) = cond (same_key key e.key) (Some e.answer) (lookup key es)

-- a key without an entry returns, with all results and all cells of the key zero or null
abbrev pub or_zero : List Shape → List Shape → Option Answer → Answer
or_zero results cells None = Gives (map zero_of results) (map zero_of cells)
or_zero results cells (Some a) = a

-- the end that an answer stands for, at a store: all other cells stay
abbrev pub end_at : List Bool → List Value → Answer → End
end_at mask store (Traps t) = Trapped t
end_at mask store (Gives results cells) = Returned results (fill mask cells store)

-- an end as an answer
abbrev pub answer_of : List Bool → End → Answer
answer_of mask (Trapped t) = Traps t
answer_of mask (Returned results store) = Gives results (pick mask store)

-- the calls of a version's units, answered from a table
abbrev pub from_table : JointCore → Effects → (ℕ → Bool) → Side → List Entry → Answers
from_table joint effects shared side entries call =
    let mask = key_cells joint effects (node_of joint side call.unit) in
    Some (end_at mask call.store (or_zero (results_of joint side call.unit) (pick mask (store_shapes (table joint))) (lookup (keyed joint effects shared side call) entries)))

-- ---- the abstract run

abbrev pub abstract_run : JointCore → Effects → (ℕ → Bool) → Side → List Entry → Request → Run
abstract_run joint effects shared side entries call =
    unit_run (core_of joint side).objects (from_table joint effects shared side entries) (unit_of joint side call.unit) call.args call.store

abbrev pub abstract_end : JointCore → Effects → (ℕ → Bool) → Side → List Entry → Request → Option End
abstract_end joint effects shared side entries call =
    unit_end (core_of joint side).objects (from_table joint effects shared side entries) (unit_of joint side call.unit) call.args call.store

-- the calls that it makes, each a name and a key
abbrev pub abstract_calls : JointCore → Effects → (ℕ → Bool) → Side → List Entry → Request → List Keyed
abstract_calls joint effects shared side entries call =
    map (keyed joint effects shared side) (abstract_run joint effects shared side entries call).calls

-- ---- lawful tables

-- the pair of an entry's name, and for a unit in no pair the unit itself, says which traps and which pointers there may be
abbrev pub LawfulAnswer : JointCore → Effects → Node → List Shape → Answer → Type 0
LawfulAnswer joint effects x results (Traps t) = effects.may_trap x t ≡ true
LawfulAnswer joint effects x results (Gives values cells) =
    HaveShapes (table joint) (IsFree joint x) results values × HaveShapes (table joint) (IsFree joint x) (pick (key_cells joint effects x) (store_shapes (table joint))) cells

-- the old unit of a pair; no entry is read at a pair that isn't there
abbrev pub old_member : Option (ℕ × ℕ × Bool) → ℕ
old_member None = 0
old_member (Some p) = p.0

-- the shapes of the results of an entry's units; those of a shared pair are equal
abbrev pub results_named : JointCore → EntryName → List Shape
results_named joint (Shared p) = results_of joint Old (old_member (slice_get joint.pairs p))
results_named joint (Own side u) = results_of joint side u

abbrev pub IsLawfulEntry : JointCore → Effects → Entry → Type 0
IsLawfulEntry joint effects e = LawfulAnswer joint effects (node_named joint e.key.name) (results_named joint e.key.name) e.answer

abbrev pub IsLawful : JointCore → Effects → List Entry → Type 0
IsLawful joint effects entries = AllByRecursion (IsLawfulEntry joint effects) entries
