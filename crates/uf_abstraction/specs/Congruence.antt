-- When unknown functions behave as functions.
use Rattle.std.specs.Prelude.{◌≡◌, ◌≤◌, ℕ, Bool, true, false, List, [], ◌∷◌, map, Option, Some}
use Rattle.std.specs.List.{AllByRecursion}
use Rattle.aig_build.specs.declared.lits.Lit.{Lit}
use Rattle.bit_ops.specs.declared.values.SymValue.{SymValue}
use Rattle.core_ir.specs.Calls.{Among}
use Rattle.core_ir.specs.Joint.{Side}
use Rattle.core_ir.specs.declared.units.Shape.{Shape}
use Rattle.core_ir.specs.declared.units.Shape.TheVariants as shape
use Rattle.core_ir.specs.Tables.{Answer, EntryName, Effects, from_table}
use Rattle.core_ir.specs.declared.cores.JointCore.{JointCore}
use Rattle.rvt_num.specs.declared.values.Trap.{Trap}
use Rattle.rvt_num.specs.declared.values.Value.{Value}
use Rattle.rvt_num.specs.declared.values.Value.TheVariants.{Null, At}
use Rattle.sym_values.specs.Valuations.{Valuation}
use Rattle.sym_values.specs.Values.{value_under, values_under, all_lits, AreLaid}
use Rattle.uf_abstraction.specs.Applications.{LitAnswer, LitShape, Target, Application, answer_lits, answer_under, entries_under, AnswerAll}

-- the values of all literals of keys and of answers
abbrev pub key_bits : Valuation → Application → List Bool
key_bits v a = map v (all_lits a.key)

abbrev pub answer_bits : Valuation → Application → List Bool
answer_bits v a = map v (answer_lits a.answer)

-- two applications of one name and one key have one answer
abbrev pub AreAlike : Valuation → Application → Application → Type 0
AreAlike v a b = a.name ≡ b.name → key_bits v a ≡ key_bits v b → answer_bits v a ≡ answer_bits v b

abbrev pub AllAlike : Valuation → List Application → Type 0
AllAlike v [] = Prim.Unit {0}
AllAlike v (a ∷ rest) = AllByRecursion (AreAlike v a) rest × AllAlike v rest

-- at most one of the literals is true
abbrev pub AtMostOne : Valuation → List (Trap × Lit) → Type 0
AtMostOne v [] = Prim.Unit {0}
AtMostOne v (t ∷ ts) = (v t.1 ≡ true → AllByRecursion (λ s. v s.1 ≡ false) ts) × AtMostOne v ts

pub record IsIn (targets : List Target) (to_const : Bool) (o c : ℕ) : Type 0 where
  pub cells : ℕ
  pub constant : Bool
  pub is_there : Among (o, cells, constant) targets
  pub in_length : c ≤ cells
  pub mutable : to_const ≡ false → constant ≡ false

abbrev pub IsOnTarget : List Target → Bool → Option Value → Type 0
IsOnTarget targets to_const (Some (At o c)) = IsIn targets to_const o c
IsOnTarget targets to_const (Some Null) = Prim.Unit {0}
IsOnTarget targets to_const _ = ⊥

-- a pointer among the results is null, or at cell 0 to the length of a target, which isn't constant for a `T *`
abbrev pub ArePointersOn : Valuation → List Target → List Shape → List SymValue → Type 0
ArePointersOn v targets [] xs = Prim.Unit {0}
ArePointersOn v targets (s ∷ ss) [] = Prim.Unit {0}
ArePointersOn v targets (shape.Word k ∷ ss) (x ∷ xs) = ArePointersOn v targets ss xs
ArePointersOn v targets (shape.Pointer type to_const ∷ ss) (x ∷ xs) = IsOnTarget targets to_const (value_under v x) × ArePointersOn v targets ss xs

pub record IsAnswer (v : Valuation) (given : LitShape) (a : LitAnswer) : Type 0 where
  pub one_trap : AtMostOne v a.trap
  pub pointers : ArePointersOn v given.targets given.results a.results

-- the literal that `congruence` gives is true exactly where this holds
pub record AreCongruent (v : Valuation) (applied : List Application) : Type 0 where
  pub alike : AllAlike v applied
  pub answers : AllByRecursion (λ a. IsAnswer v a.shape a.answer) applied

-- ---- the table

-- congruence in values: each answer stands for one, and equal keys of one name have equal answers
pub record AreFunctions (v : Valuation) (applied : List Application) : Type 0 where
  pub stands : (a : Application) → Among a applied → (x : Answer) × (answer_under v a.answer ≡ Some x)
  pub one_answer : (a b : Application) (key : List Value) → Among a applied → Among b applied → a.name ≡ b.name → values_under v a.key ≡ Some key → values_under v b.key ≡ Some key → answer_under v a.answer ≡ answer_under v b.answer

abbrev pub TableLaw : Type 0
TableLaw = (joint : JointCore) (effects : Effects) (shared : ℕ → Bool) (side : Side) (v : Valuation) (applied : List Application) → AreFunctions v applied → AnswerAll joint effects shared side v (from_table joint effects shared side (entries_under joint v applied)) applied

-- one name comes with one shape and with keys of one layout, and answers are laid out by the shape
pub record IsLaidOut (given : EntryName → LitShape) (keys : EntryName → List Shape) (a : Application) : Type 0 where
  pub key : AreLaid (keys a.name) a.key
  pub as_named : a.shape ≡ given a.name
  pub traps : map (λ t. t.0) a.answer.trap ≡ a.shape.traps
  pub results : AreLaid a.shape.results a.answer.results
  pub cells : AreLaid (map shape.Word a.shape.cells) a.answer.cells

abbrev pub FunctionsLaw : Type 0
FunctionsLaw = (v : Valuation) (given : EntryName → LitShape) (keys : EntryName → List Shape) (applied : List Application) → AllByRecursion (IsLaidOut given keys) applied → AreCongruent v applied → AreFunctions v applied
