-- Where a loop turns.
use Rattle.std.proofs.Common.{◌≡◌, ℕ, suc, ◌+◌, List, ◌++◌, Some, refl, subst, arith}
use Rattle.rvt_tree.specs.declared.programs.Program.{Program}
use Rattle.rvt_tree.specs.Syntax.{Statement, compound, null_statement, action, declaration, declaration_with, break_statement, continue_statement, return_statement, return_value, if_statement, if_else, while_loop, do_loop, for_loop, switch}
use Rattle.c_meaning.specs.Outcomes.{Normally}
use Rattle.c_meaning.specs.Laws.{LoopUnfolds, TestsSpend, BodiesSpend, RoundsSpend}
use Rattle.c_tasks.specs.Operands.{with_manner}
use Rattle.c_tasks.specs.Tasks.{Rest}
use Rattle.c_code.specs.Expressions.{passing}
use Rattle.c_code.specs.Acts.{acts_code}
use Rattle.c_code.specs.Initializers.{Counts}
use Rattle.c_code.specs.Statements.{statement_code}
use Rattle.c_code.specs.declared.instructions.When.TheVariants as W
use Rattle.c_code.specs.declared.instructions.Manner.TheVariants as M
use Rattle.c_code.specs.declared.instructions.Instruction.{Instruction}
use Rattle.c_code.specs.declared.instructions.Instruction.TheVariants as I
use Rattle.code_laws.specs.Effects.{effect}
use Rattle.code_laws.specs.Stands.{Spans, Stands, loop_code}
use Rattle.code_laws.specs.Laws.{testing, TurnsLaw}
use Rattle.code_laws.proofs.Loops.{after_a_round, turned_on, loop_stands, rounds_while, rounds_do, rounds_for}
use Rattle.code_laws.proofs.Statements.{statement_stands, for_round}

module _ (program : Program) (unfolds : LoopUnfolds program) (tests : TestsSpend program) (bodies : BodiesSpend program) (rounds : RoundsSpend program) (d : ℕ) (counts : Counts) (code : List Instruction) where
  abbrev S : ℕ → ℕ → ℕ → Rest → Type 0
  S pc h p k = Stands program d counts code pc h p k

  test_stands_at : (pc n head fin : ℕ) (next : Rest) (st : Statement) → head + n ≡ pc → Spans code head fin (loop_code counts st) → suc (suc pc) ≡ fin → S (suc pc) 0 0 (λ on. next (with_manner Normally on)) → S head 0 0 (testing program d st next)
  test_stands_at pc n head fin next (while_loop number test body) back spans end exit =
      (loop_stands program d counts code (while_loop number test body) (Some test) refl (statement_code counts body) next (rounds_while program unfolds tests bodies rounds d number test body) head fin spans spans
      (λ from to spans behind. statement_stands program d counts code unfolds tests bodies rounds body from to (after_a_round program d (while_loop number test body) next) spans behind)
      (λ middle last. let there : suc pc ≡ middle = omega (arith, last.1, end) in subst (λ m. S m 0 0 (effect program d (I.End M.Normally) next)) there exit)).0
  test_stands_at pc n head fin next (do_loop number body test) back spans end exit =
      (loop_stands program d counts code (do_loop number body test) (Some test) refl (statement_code counts body) next (rounds_do program unfolds tests bodies rounds d number body test) head fin spans spans
      (λ from to spans behind. statement_stands program d counts code unfolds tests bodies rounds body from to (after_a_round program d (do_loop number body test) next) spans behind)
      (λ middle last. let there : suc pc ≡ middle = omega (arith, last.1, end) in subst (λ m. S m 0 0 (effect program d (I.End M.Normally) next)) there exit)).0
  test_stands_at pc n head fin next (for_loop number first test acts body) back spans end exit =
      (loop_stands program d counts code (for_loop number first test acts body) test refl (statement_code counts body ++ passing W.Broke (acts_code acts)) next (rounds_for program unfolds tests bodies rounds d number first test acts body) head fin spans spans
      (λ from to spans behind. for_round program d counts code unfolds tests bodies rounds number first test acts body next (λ from to k spans after. statement_stands program d counts code unfolds tests bodies rounds body from to k spans after) from to spans behind)
      (λ middle last. let there : suc pc ≡ middle = omega (arith, last.1, end) in subst (λ m. S m 0 0 (effect program d (I.End M.Normally) next)) there exit)).0
  test_stands_at pc n head fin next (compound body) back spans end exit = absurd (let no : ⊥ = omega (arith, back, spans, end) in no)
  test_stands_at pc n head fin next null_statement back spans end exit = absurd (let no : ⊥ = omega (arith, back, spans, end) in no)
  test_stands_at pc n head fin next (action a) back spans end exit = absurd (let no : ⊥ = omega (arith, back, spans, end) in no)
  test_stands_at pc n head fin next (declaration variable) back spans end exit = absurd (let no : ⊥ = omega (arith, back, spans, end) in no)
  test_stands_at pc n head fin next (declaration_with variable init) back spans end exit = absurd (let no : ⊥ = omega (arith, back, spans, end) in no)
  test_stands_at pc n head fin next break_statement back spans end exit = absurd (let no : ⊥ = omega (arith, back, spans, end) in no)
  test_stands_at pc n head fin next continue_statement back spans end exit = absurd (let no : ⊥ = omega (arith, back, spans, end) in no)
  test_stands_at pc n head fin next return_statement back spans end exit = absurd (let no : ⊥ = omega (arith, back, spans, end) in no)
  test_stands_at pc n head fin next (return_value e) back spans end exit = absurd (let no : ⊥ = omega (arith, back, spans, end) in no)
  test_stands_at pc n head fin next (if_statement test first) back spans end exit = absurd (let no : ⊥ = omega (arith, back, spans, end) in no)
  test_stands_at pc n head fin next (if_else test first second) back spans end exit = absurd (let no : ⊥ = omega (arith, back, spans, end) in no)
  test_stands_at pc n head fin next (switch e choices) back spans end exit = absurd (let no : ⊥ = omega (arith, back, spans, end) in no)

pub turns_law : (program : Program) → LoopUnfolds program → TestsSpend program → BodiesSpend program → RoundsSpend program → TurnsLaw program
turns_law program unfolds tests bodies rounds d counts code pc n head fin next st back spans end exit =
    (test_stands_at program unfolds tests bodies rounds d counts code pc n head fin next st back spans end exit, λ on s. turned_on program d st next on s)
