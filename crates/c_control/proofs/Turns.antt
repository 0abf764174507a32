-- Turns of loops, by the laws of runs.
use Rattle.std.proofs.Common.{◌≡◌, ℕ, Bool, true, false, Option, Some, None, IsTrue, List, [], refl, sym, ap, subst}
use Rattle.rvt_tree.specs.declared.programs.Program.{Program}
use Rattle.std.specs.Prelude.{Box}
use Rattle.std.specs.declared.alloc.Global.{Global}
use Rattle.rvt_tree.specs.declared.expressions.Expr.{Expr}
use Rattle.rvt_tree.specs.declared.statements.Acts.{Acts}
use Rattle.rvt_tree.specs.declared.statements.Stmts.{Stmts}
use Rattle.rvt_tree.specs.declared.statements.Stmt.{Stmt}
use Rattle.rvt_tree.specs.declared.statements.Stmt.TheVariants as S
use Rattle.rvt_tree.specs.Views.{stmt_view}
use Rattle.rvt_tree.specs.Syntax.{Expression, Action, Statement, compound, null_statement, action, declaration, declaration_with, break_statement, continue_statement, return_statement, return_value, if_statement, if_else, while_loop, do_loop, for_loop, switch, Statements}
use Rattle.c_meaning.specs.Outcomes.{State, Normally, give, go_on, and_then}
use Rattle.c_meaning.specs.Statements.{test_of, after_body, acts, meaning, in_scope, left_scope, declared_in, block}
use Rattle.c_meaning.specs.Runs.{stepping}
use Rattle.c_tasks.specs.Tasks.{test_in, last_in, round_in, again, onward, tested, returning, rounded}
use Rattle.c_tasks.proofs.Sequences.{then_alike}
use Rattle.c_control.specs.Loops.{Lawful, is_loop}

module _ (program : Program) (law : Lawful program) (d : ℕ) where
  pub again_while : (number : ℕ) (test : Expression) (body : Statement) (s : State ℕ) → again program d (while_loop number test body) s ≡ tested program d (while_loop number test body) s
  again_while number test body s =
      law.unfolds d number false (test_of program (stepping program d) (Some test)) (meaning program (stepping program d) body) s.locals s.store s.kept (law.tests d (Some test)) (law.bodies d body)

  pub again_do : (number : ℕ) (body : Statement) (test : Expression) (s : State ℕ) → again program d (do_loop number body test) s ≡ and_then (meaning program (stepping program d) body) (rounded program d (do_loop number body test)) s
  again_do number body test s =
      law.unfolds d number true (test_of program (stepping program d) (Some test)) (meaning program (stepping program d) body) s.locals s.store s.kept (law.tests d (Some test)) (law.bodies d body)

  pub again_for : (number : ℕ) (first : Statements) (test : Option Expression) (last : List Action) (body : Statement) (s : State ℕ) → again program d (for_loop number first test last body) s ≡ tested program d (for_loop number first test last body) s
  again_for number first test last body s =
      law.unfolds d number false (test_of program (stepping program d) test) (round_in program d (for_loop number first test last body)) s.locals s.store s.kept (law.tests d test) (law.rounds d body last)

  -- a `for` with what stands first
  pub whole_for : (number : ℕ) (first : Statements) (test : Option Expression) (last : List Action) (body : Statement) (s : State ℕ) →
      in_scope (declared_in first) (and_then (block program (stepping program d) first) (λ _. tested program d (for_loop number first test last body))) s ≡ meaning program (stepping program d) (for_loop number first test last body) s
  whole_for number first test last body s =
      ap (λ o. go_on (left_scope (declared_in first)) o) (then_alike (block program (stepping program d) first s) _ _ (λ manner t. sym (again_for number first test last body t)))

  -- the same by what the statement is
  pub begins_while : (st : Statement) (number : ℕ) (test : Expression) (body : Statement) → st ≡ while_loop number test body → (s : State ℕ) → tested program d st s ≡ meaning program (stepping program d) st s
  begins_while st number test body e s = subst (λ x. tested program d x s ≡ meaning program (stepping program d) x s) (sym e) (sym (again_while number test body s))

  pub begins_do : (st : Statement) (number : ℕ) (body : Statement) (test : Expression) → st ≡ do_loop number body test → (s : State ℕ) →
      and_then (meaning program (stepping program d) body) (rounded program d st) s ≡ meaning program (stepping program d) st s
  begins_do st number body test e s = subst (λ x. and_then (meaning program (stepping program d) body) (rounded program d x) s ≡ meaning program (stepping program d) x s) (sym e) (sym (again_do number body test s))

  pub begins_for : (st : Statement) (number : ℕ) (first : Statements) (test : Option Expression) (last : List Action) (body : Statement) → st ≡ for_loop number first test last body → (s : State ℕ) →
      in_scope (declared_in first) (and_then (block program (stepping program d) first) (λ _. tested program d st)) s ≡ meaning program (stepping program d) st s
  begins_for st number first test last body e s =
      subst (λ x. in_scope (declared_in first) (and_then (block program (stepping program d) first) (λ _. tested program d x)) s ≡ meaning program (stepping program d) x s) (sym e) (whole_for number first test last body s)

  pub onward_while : (st : Statement) (number : ℕ) (test : Expression) (body : Statement) → st ≡ while_loop number test body → (s : State ℕ) →
      and_then (meaning program (stepping program d) body) (rounded program d st) s ≡ onward program d st s
  onward_while st number test body e s = subst (λ x. and_then (meaning program (stepping program d) body) (rounded program d x) s ≡ onward program d x s) (sym e) refl

  pub onward_do : (st : Statement) (number : ℕ) (body : Statement) (test : Expression) → st ≡ do_loop number body test → (s : State ℕ) →
      and_then (meaning program (stepping program d) body) (rounded program d st) s ≡ onward program d st s
  onward_do st number body test e s = subst (λ x. and_then (meaning program (stepping program d) body) (rounded program d x) s ≡ onward program d x s) (sym e) (sym (again_do number body test s))

  pub onward_for : (st : Statement) (number : ℕ) (first : Statements) (test : Option Expression) (last : List Action) (body : Statement) → st ≡ for_loop number first test last body → (s : State ℕ) →
      and_then (and_then (meaning program (stepping program d) body) (after_body (acts program (stepping program d) (last_in st)))) (rounded program d st) s ≡ onward program d st s
  onward_for st number first test last body e s =
      subst (λ x. and_then (and_then (meaning program (stepping program d) body) (after_body (acts program (stepping program d) (last_in x)))) (rounded program d x) s ≡ onward program d x s) (sym e) refl

  pub returns_to_test : (st : Statement) → is_loop st ≡ true → (s : State ℕ) → tested program d st s ≡ returning program d st s
  returns_to_test (while_loop number test body) h s = sym (again_while number test body s)
  returns_to_test (do_loop number body test) h s = refl
  returns_to_test (for_loop number first test last body) h s = sym (again_for number first test last body s)
  returns_to_test (compound body) h s = absurd (cc)
  returns_to_test null_statement h s = absurd (cc)
  returns_to_test (action a) h s = absurd (cc)
  returns_to_test (declaration variable) h s = absurd (cc)
  returns_to_test (declaration_with variable init) h s = absurd (cc)
  returns_to_test break_statement h s = absurd (cc)
  returns_to_test continue_statement h s = absurd (cc)
  returns_to_test return_statement h s = absurd (cc)
  returns_to_test (return_value e) h s = absurd (cc)
  returns_to_test (if_statement test first) h s = absurd (cc)
  returns_to_test (if_else test first second) h s = absurd (cc)
  returns_to_test (switch e parts) h s = absurd (cc)

-- ---- statements that are no loops

no_loop_ends : (program : Program) (d : ℕ) (st : Statement) → is_loop st ≡ false → (returning program d st ≡ give Normally) × (onward program d st ≡ give Normally) × (test_in st ≡ None)
no_loop_ends program d (while_loop number test body) h = absurd (cc)
no_loop_ends program d (do_loop number body test) h = absurd (cc)
no_loop_ends program d (for_loop number first test last body) h = absurd (cc)
no_loop_ends program d (compound body) h = (refl, refl, refl)
no_loop_ends program d null_statement h = (refl, refl, refl)
no_loop_ends program d (action a) h = (refl, refl, refl)
no_loop_ends program d (declaration variable) h = (refl, refl, refl)
no_loop_ends program d (declaration_with variable init) h = (refl, refl, refl)
no_loop_ends program d break_statement h = (refl, refl, refl)
no_loop_ends program d continue_statement h = (refl, refl, refl)
no_loop_ends program d return_statement h = (refl, refl, refl)
no_loop_ends program d (return_value e) h = (refl, refl, refl)
no_loop_ends program d (if_statement test first) h = (refl, refl, refl)
no_loop_ends program d (if_else test first second) h = (refl, refl, refl)
no_loop_ends program d (switch e parts) h = (refl, refl, refl)

pub no_returning : (program : Program) (d : ℕ) (st : Statement) → is_loop st ≡ false → returning program d st ≡ give Normally
no_returning program d st h = (no_loop_ends program d st h).0

pub no_onward : (program : Program) (d : ℕ) (st : Statement) → is_loop st ≡ false → onward program d st ≡ give Normally
no_onward program d st h = (no_loop_ends program d st h).1

pub no_test : (st : Statement) → is_loop st ≡ false → test_in st ≡ None
no_test (while_loop number test body) h = absurd (cc)
no_test (do_loop number body test) h = absurd (cc)
no_test (for_loop number first test last body) h = absurd (cc)
no_test (compound body) h = refl
no_test null_statement h = refl
no_test (action a) h = refl
no_test (declaration variable) h = refl
no_test (declaration_with variable init) h = refl
no_test break_statement h = refl
no_test continue_statement h = refl
no_test return_statement h = refl
no_test (return_value e) h = refl
no_test (if_statement test first) h = refl
no_test (if_else test first second) h = refl
no_test (switch e parts) h = refl

pub never : (b : Bool) → b ≡ false → IsTrue b → ⊥
never true e h = cc
never false e h = cc

-- a box without its value, and with one
abbrev pub hollow : {A : Type 0} → Box A Global → Box (Unit {0}) Global
hollow b = record { ptr = b.ptr; alloc = b.alloc; value = tt }

abbrev pub filled : {A : Type 0} → Box (Unit {0}) Global → A → Box A Global
filled p a = record { ptr = p.ptr; alloc = p.alloc; value = a }

-- a tree that is none of the loops
pub not_loop : (s : Stmt) → ((n : ℕ) (e : Expr) (b : Box Stmt Global) → s ≡ S.While' n e (hollow b) b.value → ⊥) → ((n : ℕ) (b : Box Stmt Global) (e : Expr) → s ≡ S.DoWhile' n (hollow b) b.value e → ⊥) →
    ((n : ℕ) (first : Box Stmts Global) (test : Option Expr) (last : Acts) (b : Box Stmt Global) → s ≡ S.For' n (hollow first) first.value test last (hollow b) b.value → ⊥) → is_loop (stmt_view s) ≡ false
not_loop (S.While' n e p b) w d f = absurd (w n e (filled p b) refl)
not_loop (S.DoWhile' n p b e) w d f = absurd (d n (filled p b) e refl)
not_loop (S.For' n p first test last q b) w d f = absurd (f n (filled p first) test last (filled q b) refl)
not_loop (S.Block' p body) w d f = refl
not_loop S.Empty w d f = refl
not_loop (S.Act a) w d f = refl
not_loop (S.Declare variable) w d f = refl
not_loop (S.DeclareWith variable init) w d f = refl
not_loop S.Break w d f = refl
not_loop S.Continue w d f = refl
not_loop S.Return w d f = refl
not_loop (S.ReturnValue e) w d f = refl
not_loop (S.If' test p first) w d f = refl
not_loop (S.IfElse' test p first q second) w d f = refl
not_loop (S.Switch' e p parts) w d f = refl

pub not_for : (s : Stmt) → ((n : ℕ) (first : Box Stmts Global) (test : Option Expr) (last : Acts) (b : Box Stmt Global) → s ≡ S.For' n (hollow first) first.value test last (hollow b) b.value → ⊥) → last_in (stmt_view s) ≡ []
not_for (S.For' n p first test last q b) f = absurd (f n (filled p first) test last (filled q b) refl)
not_for (S.While' n e p b) f = refl
not_for (S.DoWhile' n p b e) f = refl
not_for (S.Block' p body) f = refl
not_for S.Empty f = refl
not_for (S.Act a) f = refl
not_for (S.Declare variable) f = refl
not_for (S.DeclareWith variable init) f = refl
not_for S.Break f = refl
not_for S.Continue f = refl
not_for S.Return f = refl
not_for (S.ReturnValue e) f = refl
not_for (S.If' test p first) f = refl
not_for (S.IfElse' test p first q second) f = refl
not_for (S.Switch' e p parts) f = refl
