-- Applications of unknown functions, the answers that they stand for, and the table that they make.
use Rattle.std.specs.Prelude.{◌≡◌, ℕ, Bool, cond, List, [], ◌∷◌, ◌++◌, length, map, take, drop, Option, Some, None}
use Rattle.std.specs.List.{AllByRecursion}
use Rattle.aig_build.specs.declared.lits.Lit.{Lit}
use Rattle.bit_ops.specs.declared.values.SymValue.{SymValue}
use Rattle.core_ir.specs.Inputs.{inputs_of}
use Rattle.core_ir.specs.Joint.{Side, Old, node_of}
use Rattle.core_ir.specs.Meaning.{Request, Answers}
use Rattle.core_ir.specs.Tables.{Effects, EntryName, Shared, Own, Keyed, keyed, key_cells, name_of, Answer, Traps, Gives, Entry, end_at, old_member}
use Rattle.core_ir.specs.declared.cores.JointCore.{JointCore}
use Rattle.std.specs.Prelude.{slice_get}
use Rattle.core_ir.specs.declared.units.Shape.{Shape}
use Rattle.rvt_num.specs.declared.kinds.Kind.{Kind}
use Rattle.rvt_num.specs.declared.values.Trap.{Trap}
use Rattle.rvt_num.specs.declared.values.Value.{Value}
use Rattle.sym_values.specs.Valuations.{Valuation}
use Rattle.sym_values.specs.Values.{values_under, all_lits}

-- what a contract sees of an `Answer`
pub record LitAnswer : Type 0 where
  pub trap : List (Trap × Lit)
  pub results : List SymValue
  pub cells : List SymValue

-- an object, its length, and whether it is constant
abbrev pub Target : Type 0
Target = ℕ × ℕ × Bool

-- what a contract sees of an `AnswerShape`
pub record LitShape : Type 0 where
  pub traps : List Trap
  pub results : List Shape
  pub cells : List Kind
  pub targets : List Target

-- the key is the arguments, and then the mutable cells of the touched objects
pub record Application : Type 0 where
  pub name : EntryName
  pub key : List SymValue
  pub shape : LitShape
  pub answer : LitAnswer

-- all literals of an answer
abbrev pub trap_lits : List (Trap × Lit) → List Lit
trap_lits ts = map (λ t. t.1) ts

abbrev pub answer_lits : LitAnswer → List Lit
answer_lits a = trap_lits a.trap ++ (all_lits a.results ++ all_lits a.cells)

-- ---- what they stand for

-- the first trap whose literal is true
abbrev pub first_trap : Valuation → List (Trap × Lit) → Option Trap
first_trap v [] = None
first_trap v (t ∷ ts) = cond (v t.1) (Some t.0) (first_trap v ts)

abbrev pub returned : Option (List Value) → Option (List Value) → Option Answer
returned None cells = None
returned (Some results) None = None
returned (Some results) (Some cells) = Some (Gives results cells)

abbrev pub unless_trap : Option Trap → Option Answer → Option Answer
unless_trap None a = a
unless_trap (Some t) a = Some (Traps t)

-- none where a pointer of it stands for no value
abbrev pub answer_under : Valuation → LitAnswer → Option Answer
answer_under v a = unless_trap (first_trap v a.trap) (returned (values_under v a.results) (values_under v a.cells))

-- ---- the table

-- how many arguments a name's units take; those of a shared pair take equally many
abbrev pub argument_count : JointCore → EntryName → ℕ
argument_count joint (Shared p) = length (inputs_of joint Old (old_member (slice_get joint.pairs p)))
argument_count joint (Own side u) = length (inputs_of joint side u)

abbrev pub key_of : JointCore → EntryName → List Value → Keyed
key_of joint name key =
    record { name = name; args = take (argument_count joint name) key; cells = drop (argument_count joint name) key }

abbrev pub entry_if : JointCore → EntryName → Option (List Value) → Option Answer → List Entry → List Entry
entry_if joint name None answer es = es
entry_if joint name (Some key) None es = es
entry_if joint name (Some key) (Some answer) es = record { key = key_of joint name key; answer = answer } ∷ es

-- an entry for each application, in order. An application whose key stands for no values, which no run makes, has none
abbrev pub entries_under : JointCore → Valuation → List Application → List Entry
entries_under joint v [] = []
entries_under joint v (a ∷ rest) = entry_if joint a.name (values_under v a.key) (answer_under v a.answer) (entries_under joint v rest)

-- ---- answering as the applications do

-- the flat key of a call
abbrev pub flat_key : Keyed → List Value
flat_key k = k.args ++ k.cells

-- calls with the name and the key of this application are answered as it says
pub record AnswersAs (joint : JointCore) (effects : Effects) (shared : ℕ → Bool) (side : Side) (v : Valuation) (answers : Answers) (a : Application) : Type 0 where
  pub by : (call : Request) → name_of joint shared side call.unit ≡ a.name → length call.args ≡ argument_count joint a.name → values_under v a.key ≡ Some (flat_key (keyed joint effects shared side call)) → (end : Answer) × (answer_under v a.answer ≡ Some end) × (answers call ≡ Some (end_at (key_cells joint effects (node_of joint side call.unit)) call.store end))

-- and so for each of these applications. This is all that a symbolic run needs to know of a table
abbrev pub AnswerAll : JointCore → Effects → (ℕ → Bool) → Side → Valuation → Answers → List Application → Type 0
AnswerAll joint effects shared side v answers applied = AllByRecursion (AnswersAs joint effects shared side v answers) applied
