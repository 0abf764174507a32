-- The circuit that tests whether applications are congruent.
use Rattle.std.specs.Prelude.{◌≡◌, ℕ, zero, suc, ◌+◌, ◌<◌, ◌^◌, ◌/◌, ◌%◌, ◌==◌, Bool, true, false, not, cond, ◌||◌, List, [], ◌∷◌, ◌++◌, fold, filter, length, replicate}
use Rattle.std.specs.List.{AllByRecursion}
use Rattle.aig_build.specs.Built.{Made, and_built}
use Rattle.aig_build.specs.Circuits.{Node, constant, opposite}
use Rattle.aig_build.specs.declared.lits.Lit.{Lit}
use Rattle.bit_ops.specs.declared.values.SymValue.{SymValue}
use Rattle.bit_ops.specs.declared.values.SymValue.TheVariants.{Pointer}
use Rattle.bit_words.specs.Built.{negated, or_built, carried_built}
use Rattle.bit_words.specs.Words.{LitWord}
use Rattle.bit_words.specs.declared.cells.Cell.TheVariants.{Equal, Less}
use Rattle.core_ir.specs.Tables.{EntryName, same_name}
use Rattle.core_ir.specs.declared.units.Shape.{Shape}
use Rattle.core_ir.specs.declared.units.Shape.TheVariants as shape
use Rattle.rvt_num.specs.declared.values.Trap.{Trap}
use Rattle.sym_values.specs.Gates.{Tells}
use Rattle.sym_values.specs.Valuations.{Valuation}
use Rattle.sym_values.specs.Values.{all_lits}
use Rattle.uf_abstraction.specs.Applications.{LitShape, Target, Application, answer_lits}
use Rattle.uf_abstraction.specs.Congruence.{AreCongruent, IsLaidOut}

-- ---- equal keys have equal answers

abbrev pub equal_built : List Node → List Lit → List Lit → Made
equal_built ns xs ys = carried_built ns Equal (constant true) xs ys

-- where the keys are equal, the answers are
unfoldable pub alike_built : List Node → Application → Application → Made
alike_built ns a b =
    let keys = equal_built ns (all_lits a.key) (all_lits b.key) in
    let answers = equal_built keys.nodes (answer_lits a.answer) (answer_lits b.answer) in
    negated (and_built answers.nodes keys.lit (opposite answers.lit))

-- what holds so far, and this too
abbrev pub and_so : Made → Made → Made
and_so m n = and_built n.nodes m.lit n.lit

-- b is alike to a, too
unfoldable pub with_pair : Application → Made → Application → Made
with_pair b m a = and_so m (alike_built m.nodes a b)

-- those of this name
abbrev pub named : EntryName → List Application → List Application
named name applied = filter (λ (a : Application). same_name name a.name) applied

-- ---- at most one trap of an answer

-- whether one of the first traps is true, and whether no two of them are
pub record MadeTests : Type 0 where
  pub nodes : List Node
  pub some : Lit
  pub single : Lit

unfoldable pub with_trap_test : MadeTests → Trap × Lit → MadeTests
with_trap_test m t =
    let two = and_built m.nodes m.some t.1 in
    let single = and_built two.nodes m.single (opposite two.lit) in
    let some = or_built single.nodes m.some t.1 in
    record { nodes = some.nodes; some = some.lit; single = single.lit }

abbrev pub no_traps : List Node → MadeTests
no_traps ns = record { nodes = ns; some = constant false; single = constant true }

abbrev pub one_trap_built : List Node → List (Trap × Lit) → Made
one_trap_built ns traps = let m = fold with_trap_test (no_traps ns) traps in record { nodes = m.nodes; lit = m.single }

-- ---- pointers on their targets

-- the lowest bits of a number, as literals
abbrev pub number_lits : ℕ → ℕ → List Lit
number_lits zero n = []
number_lits (suc w) n = constant (n % 2 == 1) ∷ number_lits w (n / 2)

-- the object word is the target's number and one, which may have a bit more than a word, and the cell word is at most its length
unfoldable pub target_built : List Node → LitWord → LitWord → Target → Made
target_built ns o c target =
    let more = o.bits ++ constant false ∷ [] in
    let object = equal_built ns more (number_lits (length more) (target.0 + 1)) in
    let within = carried_built object.nodes Less (constant true) c.bits (number_lits (length c.bits) target.1) in
    and_built within.nodes object.lit within.lit

-- or it is on this target; one that is constant is none for a `T *`
unfoldable pub or_target : Bool → LitWord → LitWord → Made → Target → Made
or_target to_const o c m target =
    cond (to_const || not target.2)
    (let n = target_built m.nodes o c target in or_built n.nodes m.lit n.lit)
    m

abbrev pub null_built : List Node → List Lit → Made
null_built ns bits = equal_built ns bits (replicate (length bits) (constant false))

unfoldable pub pointer_built : List Node → List Target → Bool → LitWord → LitWord → Made
pointer_built ns targets to_const o c = fold (or_target to_const o c) (null_built ns (o.bits ++ c.bits)) targets

unfoldable pub with_result : List Target → Made → Shape → SymValue → Made
with_result targets m (shape.Pointer type to_const) (Pointer o c) = and_so m (pointer_built m.nodes targets to_const o c)
with_result targets m _ _ = m

abbrev pub with_results : List Target → Made → List Shape → List SymValue → Made
with_results targets m (s ∷ ss) (x ∷ xs) = with_results targets (with_result targets m s x) ss xs
with_results targets m _ _ = m

-- ---- all of it

-- what is known of the applications before
pub record MadeTest : Type 0 where
  pub nodes : List Node
  pub lit : Lit
  pub before : List Application

-- b is alike to the earlier ones of its name
abbrev pub with_earlier : Application → Made → List Application → Made
with_earlier b m before = fold (with_pair b) m (named b.name before)

-- it has at most one trap, and its pointers are on their targets
abbrev pub with_answer : Made → Application → Made
with_answer m b = with_results b.shape.targets (and_so m (one_trap_built m.nodes b.answer.trap)) b.shape.results b.answer.results

abbrev pub with_application : MadeTest → Application → MadeTest
with_application m b =
    let n = with_answer (with_earlier b (record { nodes = m.nodes; lit = m.lit }) m.before) b in
    record { nodes = n.nodes; lit = n.lit; before = m.before ++ b ∷ [] }

abbrev pub nothing_before : List Node → MadeTest
nothing_before ns = record { nodes = ns; lit = constant true; before = [] }

unfoldable pub congruence_built : List Node → List Application → Made
congruence_built ns applied = let m = fold with_application (nothing_before ns) applied in record { nodes = m.nodes; lit = m.lit }

-- ---- what it means

-- one name comes with one shape, and with keys of one layout
pub record AreLaidOut (applied : List Application) : Type 0 where
  pub given : EntryName → LitShape
  pub keys : EntryName → List Shape
  pub laid : AllByRecursion (IsLaidOut given keys) applied

-- the lists of literals of two applications are equally long
pub record IsComparable (a b : Application) : Type 0 where
  pub keys : length (all_lits a.key) ≡ length (all_lits b.key)
  pub answers : length (answer_lits a.answer) ≡ length (answer_lits b.answer)

-- the number and the length of a target have 32 bits
pub record IsSmall (target : Target) : Type 0 where
  pub object : target.0 < 2 ^ 32
  pub cells : target.1 < 2 ^ 32

-- under each valuation, the literal is true exactly where the applications are congruent
abbrev pub CongruenceLaw : Type 0
CongruenceLaw = (v : Valuation) (given : EntryName → LitShape) (keys : EntryName → List Shape) (ns : List Node) (applied : List Application)
    → ((name : EntryName) → AllByRecursion IsSmall (given name).targets) → AllByRecursion (IsLaidOut given keys) applied
    → Tells v ns (congruence_built ns applied).nodes (congruence_built ns applied).lit (AreCongruent v applied)
