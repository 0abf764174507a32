-- The code of loops.
use Rattle.std.proofs.Common.{◌≡◌, ℕ, zero, suc, ◌+◌, List, [], ◌∷◌, ◌++◌, length, length-append, Bool, true, false, if◌then◌else◌, Option, Some, None, refl, sym, ap, ◌∙◌, subst, arith}
use Rattle.rvt_tree.specs.declared.programs.Program.{Program}
use Rattle.rvt_tree.specs.Syntax.{Expression, Action, Statement, while_loop, do_loop, for_loop, Statements}
use Rattle.c_meaning.specs.Outcomes.{State, Doing, Manner, Normally, Broke, Continued, give, go_on, and_then}
use Rattle.c_meaning.specs.Stores.{holds}
use Rattle.c_meaning.specs.Expressions.{value_of}
use Rattle.c_meaning.specs.Statements.{test_of, after_round, meaning}
use Rattle.c_meaning.specs.Runs.{spend, step_at, stepping}
use Rattle.c_meaning.specs.Laws.{LoopUnfolds, TestsSpend, BodiesSpend, RoundsSpend}
use Rattle.c_tasks.specs.Operands.{Operands, with_manner}
use Rattle.c_tasks.specs.Tasks.{Rest, evaluating, ending, test_in, round_in, again, onward, decided, tested}
use Rattle.c_tasks.proofs.Sequences.{then_alike, one_part}
use Rattle.c_code.specs.Expressions.{truth_code}
use Rattle.c_code.specs.Initializers.{Counts}
use Rattle.c_code.specs.Statements.{test_code, looping}
use Rattle.c_code.specs.declared.instructions.When.TheVariants as W
use Rattle.c_code.specs.declared.instructions.Manner.TheVariants as M
use Rattle.c_code.specs.declared.instructions.Instruction.{Instruction}
use Rattle.c_code.specs.declared.instructions.Instruction.TheVariants as I
use Rattle.code_laws.specs.Effects.{effect}
use Rattle.code_laws.specs.Stands.{Spans, Stands, jumps, turns, jumping, loop_code, is_break}
use Rattle.code_laws.specs.Laws.{testing}
use Rattle.code_laws.proofs.Spanning.{split, length_of_span, alike, one}
use Rattle.code_laws.proofs.Values.{value_stands}

-- what is done after a round, where the loop does the same in other words
rounds_alike : (first second : Doing ℕ Manner) → ((s : State ℕ) → first s ≡ second s) → (m : Manner) (s : State ℕ) → after_round first m s ≡ after_round second m s
rounds_alike first second e Normally s = e s
rounds_alike first second e Continued s = e s
rounds_alike first second e Broke s = refl

-- a step that is spent before one part is spent before all
spent_at : {A B : Type 0} (left : ℕ) (first : Doing ℕ A) (next : A → Doing ℕ B) (s : State ℕ) → go_on next (step_at left first s) ≡ step_at left (and_then first next) s
spent_at zero first next s = refl
spent_at (suc left) first next s = refl

module _ (program : Program) (unfolds : LoopUnfolds program) (tests : TestsSpend program) (bodies : BodiesSpend program) (rounds : RoundsSpend program) (d : ℕ) where
  -- ---- a loop does one turn, and then itself

  pub again_while : (number : ℕ) (test : Expression) (body : Statement) (s : State ℕ) → again program d (while_loop number test body) s ≡ tested program d (while_loop number test body) s
  again_while number test body s =
      unfolds d number false (test_of program (stepping program d) (Some test)) (meaning program (stepping program d) body) s.locals s.store s.kept (tests d (Some test)) (bodies d body)

  pub again_do : (number : ℕ) (body : Statement) (test : Expression) (s : State ℕ) →
      again program d (do_loop number body test) s ≡ and_then (meaning program (stepping program d) body) (after_round (tested program d (do_loop number body test))) s
  again_do number body test s =
      unfolds d number true (test_of program (stepping program d) (Some test)) (meaning program (stepping program d) body) s.locals s.store s.kept (tests d (Some test)) (bodies d body)

  pub again_for : (number : ℕ) (first : Statements) (test : Option Expression) (last : List Action) (body : Statement) (s : State ℕ) →
      again program d (for_loop number first test last body) s ≡ tested program d (for_loop number first test last body) s
  again_for number first test last body s =
      unfolds d number false (test_of program (stepping program d) test) (round_in program d (for_loop number first test last body)) s.locals s.store s.kept (tests d test) (rounds d body last)

  -- a loop whose test held does a round, and then its test again
  abbrev pub Rounds : Statement → Type 0
  Rounds st = (s : State ℕ) → onward program d st s ≡ and_then (round_in program d st) (after_round (tested program d st)) s

  pub rounds_while : (number : ℕ) (test : Expression) (body : Statement) → Rounds (while_loop number test body)
  rounds_while number test body s =
      then_alike (meaning program (stepping program d) body s) _ _ (rounds_alike (again program d (while_loop number test body)) (tested program d (while_loop number test body)) (again_while number test body))

  pub rounds_do : (number : ℕ) (body : Statement) (test : Expression) → Rounds (do_loop number body test)
  rounds_do number body test s = again_do number body test s

  pub rounds_for : (number : ℕ) (first : Statements) (test : Option Expression) (last : List Action) (body : Statement) → Rounds (for_loop number first test last body)
  rounds_for number first test last body s =
      then_alike (round_in program d (for_loop number first test last body) s) _ _
      (rounds_alike (again program d (for_loop number first test last body)) (tested program d (for_loop number first test last body)) (again_for number first test last body))

-- ---- the code of a loop

module _ (program : Program) (d : ℕ) where
  -- what comes after a round
  abbrev pub after_a_round : Statement → Rest → Rest
  after_a_round st next on = ending program d (after_round (tested program d st) on.manner) next on

  abbrev pub doing_a_round : Statement → Rest → Rest
  doing_a_round st next = ending program d (round_in program d st) (after_a_round st next)

  pub spending : (st : Statement) (next : Rest) (on : Operands) (s : State ℕ) → ending program d (tested program d st) next on s ≡ spend (testing program d st next on) s
  spending st next on s =
      ap (go_on (λ m. next (with_manner m on))) (spent_at s.kept (test_of program (stepping program d) (test_in st)) (decided program d st) s)
      ∙ spent_at s.kept (and_then (test_of program (stepping program d) (test_in st)) (decided program d st)) (λ m. next (with_manner m on)) s

  -- what follows a test, by its value
  by_test : (st : Statement) (next : Rest) → ((s : State ℕ) → onward program d st s ≡ and_then (round_in program d st) (after_round (tested program d st)) s) →
      (b : Bool) (on : Operands) (t : State ℕ) → go_on (λ m. next (with_manner m on)) (decided program d st b t) ≡ (if b then doing_a_round st next on else next (with_manner Normally on)) t
  by_test st next goes_round true on t =
      ap (go_on (λ m. next (with_manner m on))) (goes_round t)
      ∙ sym (one_part (round_in program d st) (after_round (tested program d st)) (λ m. next (with_manner m on)) t)
  by_test st next goes_round false on t = refl

  turned : (st : Statement) (next : Rest) (m : Manner) (on : Operands) (s : State ℕ) →
      ending program d (after_round (tested program d st) m) next on s ≡ (if is_break m then next (with_manner Normally on) else spend (testing program d st next on)) s
  turned st next Normally on s = spending st next on s
  turned st next Continued on s = spending st next on s
  turned st next Broke on s = refl

  pub turned_on : (st : Statement) (next : Rest) (on : Operands) (s : State ℕ) →
      ending program d (after_round (tested program d st) on.manner) next on s ≡ (if is_break on.manner then next (with_manner Normally on) else spend (testing program d st next on)) s
  turned_on st next on s = turned st next on.manner on s

module _ (program : Program) (d : ℕ) (counts : Counts) (code : List Instruction) where
  abbrev S : ℕ → ℕ → ℕ → Rest → Type 0
  S pc h p k = Stands program d counts code pc h p k

  -- a test, and then a round or the end
  test_stands : (st : Statement) (test : Option Expression) → test ≡ test_in st → (next : Rest) → ((s : State ℕ) → onward program d st s ≡ and_then (round_in program d st) (after_round (tested program d st)) s) →
      (from to : ℕ) → Spans code from to (test_code test) → S to 1 0 (jumping (W.Unless 0) (doing_a_round program d st next) (effect program d (I.End M.Normally) next)) → S from 0 0 (testing program d st next)
  test_stands st (Some e) is next goes_round from to spans after =
      let further = jumping (W.Unless 0) (doing_a_round program d st next) (effect program d (I.End M.Normally) next) in
      alike program d counts code from 0 0 (evaluating program d e further) (testing program d st next)
      (λ on s. ap (λ o. and_then (and_then (test_of program (stepping program d) o) (decided program d st)) (λ m. next (with_manner m on)) s) (sym is)
      ∙ sym (one_part (and_then (value_of program (stepping program d) e) (λ v. give (holds v))) (decided program d st) (λ m. next (with_manner m on)) s)
      ∙ sym (one_part (value_of program (stepping program d) e) (λ v. give (holds v)) (λ b. and_then (decided program d st b) (λ m. next (with_manner m on))) s)
      ∙ then_alike (value_of program (stepping program d) e s) _ _ (λ v t. by_test program d st next goes_round (holds v) on t))
      (value_stands program d counts code e 0 0 from to further spans after)
  test_stands st None is next goes_round from to spans after =
      one program d counts code (truth_code 1 0) spans (refl, refl, refl)
      (λ on s. ap (λ o. and_then (and_then (test_of program (stepping program d) o) (decided program d st)) (λ m. next (with_manner m on)) s) (sym is) ∙ by_test program d st next goes_round true on s) after

  -- the whole: where its test stands, and where its round does
  pub loop_stands : (st : Statement) (test : Option Expression) → test ≡ test_in st → (round : List Instruction) (next : Rest) →
      ((s : State ℕ) → onward program d st s ≡ and_then (round_in program d st) (after_round (tested program d st)) s) →
      (head fin : ℕ) → Spans code head fin (looping (test_code test) round) → Spans code head fin (loop_code counts st) →
      ((from to : ℕ) → Spans code from to round → S to 0 0 (after_a_round program d st next) → S from 0 0 (doing_a_round program d st next)) →
      ((middle : ℕ) → Spans code middle fin (I.End M.Normally ∷ []) → S middle 0 0 (effect program d (I.End M.Normally) next)) →
      S head 0 0 (testing program d st next) × S (head + suc (length (test_code test))) 0 0 (doing_a_round program d st next)
  loop_stands st test is round next goes_round head fin spans whole on_round on_exit =
      let first = split code head fin (test_code test) (I.Jump (W.Unless 0) (suc (length (round ++ I.Finish ∷ []))) ∷ (round ++ I.Again (length (test_code test ++ I.Finish ∷ round)) ∷ I.End M.Normally ∷ [])) spans in
      let second = split code (suc first.0) fin round (I.Again (length (test_code test ++ I.Finish ∷ round)) ∷ I.End M.Normally ∷ []) first.2.1 in
      let on_first : first.0 ≡ head + length (test_code test) = length_of_span code head first.0 (test_code test) first.1 in
      let on_second : second.0 ≡ suc first.0 + length round = length_of_span code (suc first.0) second.0 round second.1 in
      let back : head + length (test_code test ++ I.Finish ∷ round) ≡ second.0 = omega (arith, on_first, on_second, length-append (test_code test) (I.Finish ∷ round)) in
      let away : suc second.0 ≡ first.0 + suc (length (round ++ I.Finish ∷ [])) = omega (arith, on_second, length-append round (I.Finish ∷ [])) in
      let start : suc first.0 ≡ head + suc (length (test_code test)) = omega (arith, on_first) in
      let exit = on_exit (suc second.0) second.2.1 in
      let turn = turns (length (test_code test ++ I.Finish ∷ round)) head fin next st second.2.0 back whole second.2.1.1 (λ on s. refl) exit in
      let rounds = on_round (suc first.0) second.0 second.1 turn in (
        test_stands st test is next goes_round head first.0 first.1
            (jumps 0 (doing_a_round program d st next) (effect program d (I.End M.Normally) next) (W.Unless 0) (suc (length (round ++ I.Finish ∷ []))) first.2.0 (refl, refl) (λ on s. refl) (λ _. rounds)
            (subst (λ n. S n 0 0 (effect program d (I.End M.Normally) next)) away exit)),
        subst (λ n. S n 0 0 (doing_a_round program d st next)) start rounds,
      )
