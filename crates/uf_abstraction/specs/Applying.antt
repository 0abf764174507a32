-- What applying an unknown function builds: the answer of an earlier application with literally this key, or fresh inputs.
use Rattle.std.specs.Prelude.{ℕ, zero, suc, Bool, true, false, cond, ◌&&◌, List, [], ◌∷◌, ◌++◌, map, fold, Option, Some, None}
use Rattle.std.specs.List.{AllByRecursion}
use Rattle.aig_build.specs.Built.{input_built, same_lit}
use Rattle.aig_build.specs.Circuits.{Node}
use Rattle.aig_build.specs.declared.lits.Lit.{Lit}
use Rattle.bit_ops.specs.declared.values.SymValue.{SymValue}
use Rattle.bit_ops.specs.declared.values.SymValue.TheVariants.{Word, Pointer}
use Rattle.bit_words.specs.Built.{MadeWord}
use Rattle.bit_words.specs.Words.{AreThere}
use Rattle.core_ir.specs.Joint.{Side}
use Rattle.core_ir.specs.Meaning.{Answers}
use Rattle.core_ir.specs.Tables.{Effects, EntryName, same_name}
use Rattle.core_ir.specs.declared.cores.JointCore.{JointCore}
use Rattle.core_ir.specs.declared.units.Shape.{Shape}
use Rattle.core_ir.specs.declared.units.Shape.TheVariants as shape
use Rattle.rvt_num.specs.Kinds.{width}
use Rattle.rvt_num.specs.declared.kinds.Kind.{Kind}
use Rattle.rvt_num.specs.declared.kinds.Kind.TheVariants.{U32}
use Rattle.rvt_num.specs.declared.values.Trap.{Trap}
use Rattle.sym_values.specs.Valuations.{Valuation, IsValuation}
use Rattle.sym_values.specs.Values.{all_lits, AreLaid}
use Rattle.uf_abstraction.specs.Applications.{LitAnswer, LitShape, Application, answer_lits, AnswersAs, AnswerAll}
use Rattle.uf_abstraction.specs.Congruence.{IsLaidOut}

-- ---- an earlier application

abbrev pub same_lits : List Lit → List Lit → Bool
same_lits [] [] = true
same_lits (x ∷ xs) (y ∷ ys) = same_lit x y && same_lits xs ys
same_lits _ _ = false

-- this name, and literal by literal this key
abbrev pub is_same : EntryName → List Lit → Application → Bool
is_same name lits a = same_name name a.name && same_lits lits (all_lits a.key)

-- the answer of the first application with this name and these literals
abbrev pub earlier : EntryName → List Lit → List Application → Option LitAnswer
earlier name lits [] = None
earlier name lits (a ∷ rest) = cond (is_same name lits a) (Some a.answer) (earlier name lits rest)

-- ---- fresh answers: for each literal an input, in order

pub record MadeLits : Type 0 where
  pub nodes : List Node
  pub lits : List Lit

abbrev pub one_more : MadeLits → MadeLits
one_more m = let i = input_built m.nodes in record { nodes = i.nodes; lits = m.lits ++ i.lit ∷ [] }

abbrev pub fresh_lits : List Node → ℕ → MadeLits
fresh_lits ns zero = record { nodes = ns; lits = [] }
fresh_lits ns (suc n) = one_more (fresh_lits ns n)

unfoldable pub fresh_word : List Node → Kind → MadeWord
fresh_word ns k = let m = fresh_lits ns (width k) in record { nodes = m.nodes; word = record { kind = k; bits = m.lits } }

pub record MadeValue : Type 0 where
  pub nodes : List Node
  pub value : SymValue

-- a pointer is an object word and a cell word
abbrev pub fresh_value : List Node → Shape → MadeValue
fresh_value ns (shape.Word k) = let m = fresh_word ns k in record { nodes = m.nodes; value = Word m.word }
fresh_value ns (shape.Pointer type to_const) =
    let o = fresh_word ns U32 in
    let c = fresh_word o.nodes U32 in
    record { nodes = c.nodes; value = Pointer o.word c.word }

pub record MadeValues : Type 0 where
  pub nodes : List Node
  pub values : List SymValue

abbrev pub with_value : MadeValues → Shape → MadeValues
with_value m s = let f = fresh_value m.nodes s in record { nodes = f.nodes; values = m.values ++ f.value ∷ [] }

abbrev pub fresh_values : List Node → List Shape → MadeValues
fresh_values ns shapes = fold with_value (record { nodes = ns; values = [] }) shapes

pub record MadeTraps : Type 0 where
  pub nodes : List Node
  pub traps : List (Trap × Lit)

abbrev pub with_trap : MadeTraps → Trap → MadeTraps
with_trap m t = let i = input_built m.nodes in record { nodes = i.nodes; traps = m.traps ++ (t, i.lit) ∷ [] }

abbrev pub fresh_traps : List Node → List Trap → MadeTraps
fresh_traps ns traps = fold with_trap (record { nodes = ns; traps = [] }) traps

pub record MadeAnswer : Type 0 where
  pub nodes : List Node
  pub answer : LitAnswer

-- first the traps, then the results, then the cells
abbrev pub fresh_answer : List Node → LitShape → MadeAnswer
fresh_answer ns given =
    let t = fresh_traps ns given.traps in
    let r = fresh_values t.nodes given.results in
    let c = fresh_values r.nodes (map shape.Word given.cells) in
    record { nodes = c.nodes; answer = record { trap = t.traps; results = r.values; cells = c.values } }

-- ---- applying

pub record Applied : Type 0 where
  pub nodes : List Node
  pub applied : List Application
  pub answer : LitAnswer

abbrev pub applied_by : List Node → List Application → EntryName → List SymValue → LitShape → Option LitAnswer → Applied
applied_by ns applied name key given (Some a) = record { nodes = ns; applied = applied; answer = a }
applied_by ns applied name key given None =
    let m = fresh_answer ns given in
    record { nodes = m.nodes; applied = applied ++ record { name = name; key = key; shape = given; answer = m.answer } ∷ []; answer = m.answer }

unfoldable pub apply_built : List Node → List Application → EntryName → List SymValue → LitShape → Applied
apply_built ns applied name key given = applied_by ns applied name key given (earlier name (all_lits key) applied)

-- ---- what it means

-- the literals of an application stand in the circuit
pub record IsThere (ns : List Node) (a : Application) : Type 0 where
  pub key : AreThere ns (all_lits a.key)
  pub answer : AreThere ns (answer_lits a.answer)

-- calls answered as the applications say are answered so before it, and with this name and this key by its answer
pub record IsApplied (joint : JointCore) (effects : Effects) (shared : ℕ → Bool) (side : Side) (v : Valuation) (answers : Answers) (ns : List Node) (applied : List Application) (name : EntryName) (key : List SymValue) (given : LitShape) (m : Applied) : Type 0 where
  pub back : IsValuation m.nodes v → IsValuation ns v
  pub older : AnswerAll joint effects shared side v answers m.applied → AnswerAll joint effects shared side v answers applied
  pub this : AnswerAll joint effects shared side v answers m.applied → AnswersAs joint effects shared side v answers (record { name = name; key = key; shape = given; answer = m.answer })

abbrev pub ApplyLaw : Type 0
ApplyLaw = (joint : JointCore) (effects : Effects) (shared : ℕ → Bool) (side : Side) (v : Valuation) (answers : Answers) (given : EntryName → LitShape) (keys : EntryName → List Shape) (ns : List Node) (applied : List Application) (name : EntryName) (key : List SymValue)
    → AllByRecursion (IsLaidOut given keys) applied → AreLaid (keys name) key → IsApplied joint effects shared side v answers ns applied name key (given name) (apply_built ns applied name key (given name))

-- applications stay laid out, and their literals in the circuit
pub record AreKept (given : EntryName → LitShape) (keys : EntryName → List Shape) (m : Applied) : Type 0 where
  pub laid_out : AllByRecursion (IsLaidOut given keys) m.applied
  pub there : AllByRecursion (IsThere m.nodes) m.applied

abbrev pub KeptLaw : Type 0
KeptLaw = (given : EntryName → LitShape) (keys : EntryName → List Shape) (ns : List Node) (applied : List Application) (name : EntryName) (key : List SymValue)
    → AllByRecursion (IsLaidOut given keys) applied → AllByRecursion (IsThere ns) applied → AreLaid (keys name) key → AreThere ns (all_lits key) → AreKept given keys (apply_built ns applied name key (given name))
