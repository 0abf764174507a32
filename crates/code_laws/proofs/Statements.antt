-- The code of statements.
use Rattle.std.proofs.Common.{◌≡◌, ℕ, suc, ◌+◌, List, [], ◌∷◌, ◌++◌, length, length-append, if◌then◌else◌, Option, Some, refl, sym, ap, ◌∙◌, subst, arith}
use Rattle.rvt_tree.specs.declared.expressions.Variable.{Variable}
use Rattle.rvt_tree.specs.declared.expressions.Variable.TheVariants as V
use Rattle.rvt_tree.specs.declared.programs.Program.{Program}
use Rattle.rvt_tree.specs.Syntax.{Expression, Action, Statement, compound, null_statement, action, declaration, declaration_with, break_statement, continue_statement, return_statement, return_value, if_statement, if_else, while_loop, do_loop, for_loop, switch, Statements, no_statements, statement, Groups}
use Rattle.c_meaning.specs.Outcomes.{State, Doing, Manner, Normally, Broke, Continued, give, leave, go_on, and_then}
use Rattle.c_meaning.specs.Stores.{number_of, holds}
use Rattle.c_meaning.specs.Expressions.{value_of}
use Rattle.c_meaning.specs.Statements.{after_round, after_body, after_group, act, acts, normally_then, declared_variable, declared_in, locals_without, left_scope, meaning, block}
use Rattle.c_meaning.specs.Runs.{stepping}
use Rattle.c_meaning.specs.Laws.{LoopUnfolds, TestsSpend, BodiesSpend, RoundsSpend}
use Rattle.c_tasks.specs.Operands.{Operands, top_value, with_manner}
use Rattle.c_tasks.specs.Tasks.{Rest, evaluating, acting, acting_all, ending, running_statement, running_block, again, tested, chosen_group, selecting}
use Rattle.c_tasks.proofs.Sequences.{then_alike, one_part}
use Rattle.c_code.specs.Expressions.{passing, choosing, value_code}
use Rattle.c_code.specs.Acts.{act_code, acts_code}
use Rattle.c_code.specs.Initializers.{Counts}
use Rattle.c_code.specs.Statements.{forgetting, left_by, leaving, test_code, looping, statement_code, block_code, rest_code, groups_code}
use Rattle.c_code.specs.declared.instructions.When.TheVariants as W
use Rattle.c_code.specs.declared.instructions.Manner.TheVariants as M
use Rattle.c_code.specs.declared.instructions.Instruction.{Instruction}
use Rattle.c_code.specs.declared.instructions.Instruction.TheVariants as I
use Rattle.code_laws.specs.Effects.{effect}
use Rattle.code_laws.specs.Stands.{Spans, Stands, goes, jumps, selects, ends, jumping, is_break, is_abrupt}
use Rattle.code_laws.specs.Laws.{testing}
use Rattle.code_laws.proofs.Spanning.{split, length_of_span, alike, one, choice}
use Rattle.code_laws.proofs.Values.{value_stands, chosen}
use Rattle.code_laws.proofs.Acts.{act_stands, acts_stand}
use Rattle.code_laws.proofs.Initializers.{declaration_stands}
use Rattle.code_laws.proofs.Loops.{after_a_round, doing_a_round, spending, loop_stands, again_while, again_do, again_for, rounds_while, rounds_do, rounds_for}

module _ (program : Program) (d : ℕ) where
  -- where the scope of these variables is left
  abbrev pub left : List Variable → Rest → Rest
  left variables next on s = next on (record { locals = locals_without variables s.locals; store = s.store; kept = s.kept })

  -- the rest of a block, only where what came before ended normally
  abbrev pub resting : Statements → Rest → Rest
  resting body next on = ending program d (normally_then (block program (stepping program d) body) on.manner) next on

  -- the last part of a round
  abbrev pub lasting : List Action → Rest → Rest
  lasting last next on = ending program d (after_body (acts program (stepping program d) last) on.manner) next on

  -- ---- by how the last statement ended

  none_rests : (m : Manner) (next : Rest) (on : Operands) (s : State ℕ) → on.manner ≡ m → and_then (normally_then (give Normally) m) (λ manner. next (with_manner manner on)) s ≡ next on s
  none_rests Normally next on s e = ap (λ m. next (with_manner m on) s) (sym e)
  none_rests Broke next on s e = ap (λ m. next (with_manner m on) s) (sym e)
  none_rests Continued next on s e = ap (λ m. next (with_manner m on) s) (sym e)

  pub nothing_rests : (next : Rest) (on : Operands) (s : State ℕ) → resting no_statements next on s ≡ next on s
  nothing_rests next on s = none_rests on.manner next on s refl

  some_rest : (m : Manner) (st : Statement) (rest : Statements) (next : Rest) (on : Operands) (s : State ℕ) → on.manner ≡ m →
      and_then (normally_then (block program (stepping program d) (statement st rest)) m) (λ manner. next (with_manner manner on)) s
      ≡ (if is_abrupt m then resting rest next on else running_statement program d st (resting rest next) on) s
  some_rest Normally st rest next on s e = sym (one_part (meaning program (stepping program d) st) (normally_then (block program (stepping program d) rest)) (λ manner. next (with_manner manner on)) s)
  some_rest Broke st rest next on s e = sym (ap (λ m. and_then (normally_then (block program (stepping program d) rest) m) (λ manner. next (with_manner manner on)) s) e)
  some_rest Continued st rest next on s e = sym (ap (λ m. and_then (normally_then (block program (stepping program d) rest) m) (λ manner. next (with_manner manner on)) s) e)

  pub rests : (st : Statement) (rest : Statements) (next : Rest) (on : Operands) (s : State ℕ) → resting (statement st rest) next on s ≡ jumping W.Abrupt (running_statement program d st (resting rest next)) (resting rest next) on s
  rests st rest next on s = some_rest on.manner st rest next on s refl

  module _ (st : Statement) (last : List Action) (next : Rest) where
    last_by : (m : Manner) (on : Operands) (s : State ℕ) → on.manner ≡ m →
        and_then (after_body (acts program (stepping program d) last) m) (λ manner. after_a_round program d st next (with_manner manner on)) s
        ≡ (if is_break m then after_a_round program d st next on else acting_all program d last (after_a_round program d st next) on) s
    last_by Normally on s e =
        sym (one_part (acts program (stepping program d) last) (λ _. give Normally) (λ manner. after_a_round program d st next (with_manner manner on)) s)
        ∙ then_alike (acts program (stepping program d) last s) _ _ (λ u t. ap (λ m. and_then (after_round (tested program d st) m) (λ manner. next (with_manner manner on)) t) (sym e))
    last_by Continued on s e =
        sym (one_part (acts program (stepping program d) last) (λ _. give Normally) (λ manner. after_a_round program d st next (with_manner manner on)) s)
        ∙ then_alike (acts program (stepping program d) last s) _ _ (λ u t. ap (λ m. and_then (after_round (tested program d st) m) (λ manner. next (with_manner manner on)) t) (sym e))
    last_by Broke on s e = ap (λ m. and_then (after_round (tested program d st) m) (λ manner. next (with_manner manner on)) s) (sym e)

    pub lasts : (on : Operands) (s : State ℕ) → lasting last (after_a_round program d st next) on s ≡ jumping W.Broke (acting_all program d last (after_a_round program d st next)) (after_a_round program d st next) on s
    lasts on s = last_by on.manner on s refl

module _ (program : Program) (d : ℕ) (counts : Counts) (code : List Instruction) where
  abbrev S : ℕ → ℕ → ℕ → Rest → Type 0
  S pc h p k = Stands program d counts code pc h p k

  -- ---- scopes

  forgets : (variable : Variable) (others : List Variable) (from to : ℕ) (next : Rest) → Spans code from to (forgetting variable) → S to 0 0 (left program d others next) → S from 0 0 (left program d (variable ∷ others) next)
  forgets (V.Local number) others from to next spans after = one program d counts code (I.Forget number) spans (refl, refl) (λ on s. refl) after
  forgets (V.Object number) others from to next spans after = subst (λ n. S n 0 0 (left program d others next)) (sym spans) after

  stays : (others : List Variable) (from to : ℕ) (next : Rest) → from ≡ to → S to 0 0 (left program d others next) → S from 0 0 (left program d others next)
  stays others from to next spans after = subst (λ n. S n 0 0 (left program d others next)) (sym spans) after

  left_by_one : (st : Statement) (others : List Variable) (from to : ℕ) (next : Rest) → Spans code from to (left_by st) → S to 0 0 (left program d others next) → S from 0 0 (left program d (declared_variable st ++ others) next)
  left_by_one (declaration variable) others from to next spans after = forgets variable others from to next spans after
  left_by_one (declaration_with variable init) others from to next spans after = forgets variable others from to next spans after
  left_by_one (compound body) others from to next spans after = stays others from to next spans after
  left_by_one null_statement others from to next spans after = stays others from to next spans after
  left_by_one (action a) others from to next spans after = stays others from to next spans after
  left_by_one break_statement others from to next spans after = stays others from to next spans after
  left_by_one continue_statement others from to next spans after = stays others from to next spans after
  left_by_one return_statement others from to next spans after = stays others from to next spans after
  left_by_one (return_value e) others from to next spans after = stays others from to next spans after
  left_by_one (if_statement test first) others from to next spans after = stays others from to next spans after
  left_by_one (if_else test first second) others from to next spans after = stays others from to next spans after
  left_by_one (while_loop number test body) others from to next spans after = stays others from to next spans after
  left_by_one (do_loop number body test) others from to next spans after = stays others from to next spans after
  left_by_one (for_loop number first test last body) others from to next spans after = stays others from to next spans after
  left_by_one (switch e choices) others from to next spans after = stays others from to next spans after

  pub leaving_stands : (body : Statements) (from to : ℕ) (next : Rest) → Spans code from to (leaving body) → S to 0 0 next → S from 0 0 (left program d (declared_in body) next)
  leaving_stands no_statements from to next spans after = subst (λ n. S n 0 0 next) (sym spans) after
  leaving_stands (statement st rest) from to next spans after =
      let first = split code from to (left_by st) (leaving rest) spans in
      left_by_one st (declared_in rest) from first.0 next first.1 (leaving_stands rest first.0 to next first.2 after)

  -- a block in its scope
  pub scope_stands : (body : Statements) (next : Rest) (from to : ℕ) →
      ((middle : ℕ) (k : Rest) → Spans code from middle (block_code counts body) → S middle 0 0 k → S from 0 0 (running_block program d body k)) →
      Spans code from to (block_code counts body ++ leaving body) → S to 0 0 next → S from 0 0 (running_statement program d (compound body) next)
  scope_stands body next from to on_block spans after =
      let first = split code from to (block_code counts body) (leaving body) spans in
      alike program d counts code from 0 0 (running_block program d body (left program d (declared_in body) next)) (running_statement program d (compound body) next)
      (λ on s. sym (one_part (block program (stepping program d) body) (left_scope (declared_in body)) (λ manner. next (with_manner manner on)) s))
      (on_block first.0 (left program d (declared_in body) next) first.1 (leaving_stands body first.0 to next first.2 after))

  -- ---- choices

  -- one of two statements, by a test
  branches : (st : Statement) (test : Expression) (first second : List Instruction) (a b : Doing ℕ Manner) (from to : ℕ) (next : Rest) →
      ((on : Operands) (s : State ℕ) → running_statement program d st next on s ≡ and_then (and_then (and_then (value_of program (stepping program d) test) (λ v. give (holds v))) (λ t. if t then a else b)) (λ manner. next (with_manner manner on)) s) →
      ((start middle : ℕ) → Spans code start middle first → S middle 0 0 next → S start 0 0 (ending program d a next)) →
      ((start middle : ℕ) → Spans code start middle second → S middle 0 0 next → S start 0 0 (ending program d b next)) →
      Spans code from to (value_code test 0 0 ++ choosing 0 first second) → S to 0 0 next → S from 0 0 (running_statement program d st next)
  branches st test first second a b from to next is on_first on_second spans after =
      let parts = split code from to (value_code test 0 0) (choosing 0 first second) spans in
      let near = ending program d a next in
      let far = ending program d b next in
      alike program d counts code from 0 0 (evaluating program d test (jumping (W.Unless 0) near far)) (running_statement program d st next)
      (λ on s. is on s
      ∙ sym (one_part (and_then (value_of program (stepping program d) test) (λ v. give (holds v))) (λ t. if t then a else b) (λ manner. next (with_manner manner on)) s)
      ∙ sym (one_part (value_of program (stepping program d) test) (λ v. give (holds v)) (λ t. and_then (if t then a else b) (λ manner. next (with_manner manner on))) s)
      ∙ then_alike (value_of program (stepping program d) test s) _ _ (λ v t. chosen (holds v) a b (λ manner. next (with_manner manner on)) (near on) (far on) t refl refl))
      (value_stands program d counts code test 0 0 from parts.0 (jumping (W.Unless 0) near far) parts.1
      (choice program d counts code 0 0 0 parts.0 to first second near far next parts.2
      (λ middle spans behind. on_first (suc parts.0) middle spans behind)
      (λ middle spans. on_second middle to spans after) after))

  -- ---- rounds

  -- a part that a `break` passes over
  last_stands : (st : Statement) (last : List Action) (next : Rest) (from to : ℕ) → Spans code from to (passing W.Broke (acts_code last)) → S to 0 0 (after_a_round program d st next) →
      S from 0 0 (lasting program d last (after_a_round program d st next))
  last_stands st last next from to spans after =
      let away : to ≡ from + suc (length (acts_code last)) = omega (arith, length_of_span code (suc from) to (acts_code last) spans.1) in
      jumps 0 (acting_all program d last (after_a_round program d st next)) (after_a_round program d st next) W.Broke (suc (length (acts_code last))) spans.0 refl
      (λ on s. lasts program d st last next on s) (λ _. acts_stand program d counts code last (suc from) to (after_a_round program d st next) spans.1 after)
      (subst (λ n. S n 0 0 (after_a_round program d st next)) away after)

  -- the exit of a loop
  exit_stands : (fin : ℕ) (next : Rest) → S fin 0 0 next → (middle : ℕ) → Spans code middle fin (I.End M.Normally ∷ []) → S middle 0 0 (effect program d (I.End M.Normally) next)
  exit_stands fin next after middle spans = one program d counts code (I.End M.Normally) spans (refl, refl) (λ on s. refl) after

  -- a rest that is jumped to
  pub rest_of_block : (st : Statement) (rest : Statements) (from to : ℕ) (next : Rest) → Spans code from to (rest_code counts (statement st rest)) →
      ((start middle : ℕ) (k : Rest) → Spans code start middle (statement_code counts st) → S middle 0 0 k → S start 0 0 (running_statement program d st k)) →
      ((start : ℕ) → Spans code start to (rest_code counts rest) → S start 0 0 (resting program d rest next)) →
      S from 0 0 (resting program d (statement st rest) next)
  rest_of_block st rest from to next spans on_first on_rest =
      let first = split code (suc from) to (statement_code counts st) (rest_code counts rest) spans.1 in
      let behind = on_rest first.0 first.2 in
      let away : first.0 ≡ from + suc (length (statement_code counts st)) = omega (arith, length_of_span code (suc from) first.0 (statement_code counts st) first.1) in
      jumps 0 (running_statement program d st (resting program d rest next)) (resting program d rest next) W.Abrupt (suc (length (statement_code counts st))) spans.0 refl
      (λ on s. rests program d st rest next on s) (λ _. on_first (suc from) first.0 (resting program d rest next) first.1 behind)
      (subst (λ n. S n 0 0 (resting program d rest next)) away behind)

  module _ (unfolds : LoopUnfolds program) (tests : TestsSpend program) (bodies : BodiesSpend program) (rounds : RoundsSpend program) where
    abbrev Stood : Statement → Type 0
    Stood st = (from to : ℕ) (next : Rest) → Spans code from to (statement_code counts st) → S to 0 0 next → S from 0 0 (running_statement program d st next)

    while_stands : (number : ℕ) (test : Expression) (body : Statement) → Stood body → Stood (while_loop number test body)
    while_stands number test body on_body from to next spans after =
        let st = while_loop number test body in
        let whole = loop_stands program d counts code st (Some test) refl (statement_code counts body) next (rounds_while program unfolds tests bodies rounds d number test body) (suc from) to spans.1 spans.1
        (λ start middle spans behind. on_body start middle (after_a_round program d st next) spans behind) (exit_stands to next after) in
        goes 0 0 (testing program d st next) I.Spend spans.0 (refl, refl)
        (λ on s. ap (go_on (λ manner. next (with_manner manner on))) (again_while program unfolds tests bodies rounds d number test body s) ∙ spending program d st next on s) whole.0

    do_stands : (number : ℕ) (body : Statement) (test : Expression) → Stood body → Stood (do_loop number body test)
    do_stands number body test on_body from to next spans after =
        let st = do_loop number body test in
        let whole = loop_stands program d counts code st (Some test) refl (statement_code counts body) next (rounds_do program unfolds tests bodies rounds d number body test) (suc from) to spans.1 spans.1
        (λ start middle spans behind. on_body start middle (after_a_round program d st next) spans behind) (exit_stands to next after) in
        let start : suc from + suc (length (value_code test 0 0)) ≡ from + suc (length (value_code test 0 0 ++ I.Finish ∷ [])) = omega (arith, length-append (value_code test 0 0) (I.Finish ∷ [])) in
        jumps 0 (doing_a_round program d st next) (doing_a_round program d st next) W.Always (suc (length (value_code test 0 0 ++ I.Finish ∷ []))) spans.0 refl
        (λ on s. ap (go_on (λ manner. next (with_manner manner on))) (again_do program unfolds tests bodies rounds d number body test s)
        ∙ sym (one_part (meaning program (stepping program d) body) (after_round (tested program d st)) (λ manner. next (with_manner manner on)) s))
        (λ no. absurd (no refl)) (subst (λ n. S n 0 0 (doing_a_round program d st next)) start whole.1)

    -- the body of a `for` and its last part
    pub for_round : (number : ℕ) (first : Statements) (test : Option Expression) (last : List Action) (body : Statement) (next : Rest) → Stood body → (from to : ℕ) →
        Spans code from to (statement_code counts body ++ passing W.Broke (acts_code last)) → S to 0 0 (after_a_round program d (for_loop number first test last body) next) →
        S from 0 0 (doing_a_round program d (for_loop number first test last body) next)
    for_round number first test last body next on_body from to spans after =
        let st = for_loop number first test last body in
        let parts = split code from to (statement_code counts body) (passing W.Broke (acts_code last)) spans in
        alike program d counts code from 0 0 (running_statement program d body (lasting program d last (after_a_round program d st next))) (doing_a_round program d st next)
        (λ on s. sym (one_part (meaning program (stepping program d) body) (after_body (acts program (stepping program d) last)) (λ manner. after_a_round program d st next (with_manner manner on)) s))
        (on_body from parts.0 (lasting program d last (after_a_round program d st next)) parts.1 (last_stands st last next parts.0 to parts.2 after))

    for_stands : (number : ℕ) (first : Statements) (test : Option Expression) (last : List Action) (body : Statement) →
        ((from to : ℕ) (next : Rest) → Spans code from to (block_code counts first) → S to 0 0 next → S from 0 0 (running_block program d first next)) → Stood body → Stood (for_loop number first test last body)
    for_stands number first test last body on_first on_body from to next spans after =
        let st = for_loop number first test last body in
        let loop = looping (test_code test) (statement_code counts body ++ passing W.Broke (acts_code last)) in
        let parts = split code from to (block_code counts first) (I.Spend ∷ (loop ++ leaving first)) spans in
        let second = split code (suc parts.0) to loop (leaving first) parts.2.1 in
        let out = left program d (declared_in first) next in
        let whole = loop_stands program d counts code st test refl (statement_code counts body ++ passing W.Broke (acts_code last)) out (rounds_for program unfolds tests bodies rounds d number first test last body) (suc parts.0) second.0 second.1 second.1
        (λ start middle spans behind. for_round number first test last body out on_body start middle spans behind) (exit_stands second.0 out (leaving_stands first second.0 to next second.2 after)) in
        alike program d counts code from 0 0 (running_block program d first (ending program d (again program d st) out)) (running_statement program d st next)
        (λ on s. sym (one_part (and_then (block program (stepping program d) first) (λ _. again program d st)) (left_scope (declared_in first)) (λ manner. next (with_manner manner on)) s)
        ∙ sym (one_part (block program (stepping program d) first) (λ _. again program d st) (λ manner. out (with_manner manner on)) s))
        (on_first from parts.0 (ending program d (again program d st) out) parts.1
        (goes 0 0 (testing program d st out) I.Spend parts.2.0 (refl, refl)
        (λ on s. ap (go_on (λ manner. out (with_manner manner on))) (again_for program unfolds tests bodies rounds d number first test last body s) ∙ spending program d st out on s) whole.0))

    switch_stands : (e : Expression) (groups : Groups) → Stood (switch e groups)
    switch_stands e groups from to next spans after =
        let parts = split code from to (value_code e 0 0) (I.Select 0 ∷ (groups_code counts groups ++ I.LeaveSwitch ∷ [])) spans in
        let second = split code (suc parts.0) to (groups_code counts groups) (I.LeaveSwitch ∷ []) parts.2.1 in
        alike program d counts code from 0 0 (evaluating program d e (selecting program d groups next)) (running_statement program d (switch e groups) next)
        (λ on s. sym (one_part (value_of program (stepping program d) e) (λ v. and_then (chosen_group program d (number_of v) groups) after_group) (λ manner. next (with_manner manner on)) s))
        (value_stands program d counts code e 0 0 from parts.0 (selecting program d groups next) parts.1
        (selects second.0 next groups parts.2.0 second.1 second.2.0 (λ on s. refl)
        (one program d counts code I.LeaveSwitch second.2 (refl, refl) (λ on s. refl) after)))

    returns : (e : Expression) → Stood (return_value e)
    returns e from to next spans after =
        let parts = split code from to (value_code e 0 0) (I.Return 0 ∷ []) spans in
        let leaves : Rest = λ on. leave (Some (number_of (top_value on))) in
        alike program d counts code from 0 0 (evaluating program d e leaves) (running_statement program d (return_value e) next)
        (λ on s. sym (one_part (value_of program (stepping program d) e) (λ v. leave (Some (number_of v))) (λ manner. next (with_manner manner on)) s))
        (value_stands program d counts code e 0 0 from parts.0 leaves parts.1 (ends (I.Return 0) parts.2.0 (λ on s. refl)))

    does : (a : Action) → Stood (action a)
    does a from to next spans after =
        let parts = split code from to (act_code a) (I.End M.Normally ∷ []) spans in
        let last = effect program d (I.End M.Normally) next in
        alike program d counts code from 0 0 (acting program d a last) (running_statement program d (action a) next)
        (λ on s. sym (one_part (act program (stepping program d) a) (λ _. give Normally) (λ manner. next (with_manner manner on)) s))
        (act_stands program d counts code a from parts.0 last parts.1 (one program d counts code (I.End M.Normally) parts.2 (refl, refl) (λ on s. refl) after))

    clears : (variable : Variable) → Stood (declaration variable)
    clears variable from to next spans after =
        let parts = split code from to (I.Clear variable ∷ []) (I.End M.Normally ∷ []) spans in
        one program d counts code (I.Clear variable) parts.1 (refl, refl) (λ on s. refl) (one program d counts code (I.End M.Normally) parts.2 (refl, refl) (λ on s. refl) after)

    mutual
      pub statement_stands : (st : Statement) (from to : ℕ) (next : Rest) → Spans code from to (statement_code counts st) → S to 0 0 next → S from 0 0 (running_statement program d st next)
      statement_stands (compound body) from to next spans after = scope_stands body next from to (λ middle k spans after. block_stands body from middle k spans after) spans after
      statement_stands null_statement from to next spans after = one program d counts code (I.End M.Normally) spans (refl, refl) (λ on s. refl) after
      statement_stands (action a) from to next spans after = does a from to next spans after
      statement_stands (declaration variable) from to next spans after = clears variable from to next spans after
      statement_stands (declaration_with variable init) from to next spans after = declaration_stands program d counts code variable init from to next spans after
      statement_stands break_statement from to next spans after = one program d counts code (I.End M.Broke) spans (refl, refl) (λ on s. refl) after
      statement_stands continue_statement from to next spans after = one program d counts code (I.End M.Continued) spans (refl, refl) (λ on s. refl) after
      statement_stands return_statement from to next spans after = ends I.ReturnNothing spans.0 (λ on s. refl)
      statement_stands (return_value e) from to next spans after = returns e from to next spans after
      statement_stands (if_statement test first) from to next spans after =
          branches (if_statement test first) test (statement_code counts first) (I.End M.Normally ∷ []) (meaning program (stepping program d) first) (give Normally) from to next (λ on s. refl)
          (λ start middle spans after. statement_stands first start middle next spans after)
          (λ start middle spans after. one program d counts code (I.End M.Normally) spans (refl, refl) (λ on s. refl) after) spans after
      statement_stands (if_else test first second) from to next spans after =
          branches (if_else test first second) test (statement_code counts first) (statement_code counts second) (meaning program (stepping program d) first) (meaning program (stepping program d) second) from to next (λ on s. refl)
          (λ start middle spans after. statement_stands first start middle next spans after)
          (λ start middle spans after. statement_stands second start middle next spans after) spans after
      statement_stands (while_loop number test body) from to next spans after =
          while_stands number test body (λ from to next spans after. statement_stands body from to next spans after) from to next spans after
      statement_stands (do_loop number body test) from to next spans after =
          do_stands number body test (λ from to next spans after. statement_stands body from to next spans after) from to next spans after
      statement_stands (for_loop number first test last body) from to next spans after =
          for_stands number first test last body (λ from to next spans after. block_stands first from to next spans after)
          (λ from to next spans after. statement_stands body from to next spans after) from to next spans after
      statement_stands (switch e groups) from to next spans after = switch_stands e groups from to next spans after

      pub block_stands : (body : Statements) (from to : ℕ) (next : Rest) → Spans code from to (block_code counts body) → S to 0 0 next → S from 0 0 (running_block program d body next)
      block_stands no_statements from to next spans after = one program d counts code (I.End M.Normally) spans (refl, refl) (λ on s. refl) after
      block_stands (statement st rest) from to next spans after =
          let first = split code from to (statement_code counts st) (rest_code counts rest) spans in
          alike program d counts code from 0 0 (running_statement program d st (resting program d rest next)) (running_block program d (statement st rest) next)
          (λ on s. sym (one_part (meaning program (stepping program d) st) (normally_then (block program (stepping program d) rest)) (λ manner. next (with_manner manner on)) s))
          (statement_stands st from first.0 (resting program d rest next) first.1 (rest_stands rest first.0 to next first.2 after))

      pub rest_stands : (body : Statements) (from to : ℕ) (next : Rest) → Spans code from to (rest_code counts body) → S to 0 0 next → S from 0 0 (resting program d body next)
      rest_stands no_statements from to next spans after =
          alike program d counts code from 0 0 next (resting program d no_statements next) (λ on s. nothing_rests program d next on s) (subst (λ n. S n 0 0 next) (sym spans) after)
      rest_stands (statement st rest) from to next spans after =
          rest_of_block st rest from to next spans (λ start middle k spans after. statement_stands st start middle k spans after) (λ start spans. rest_stands rest start to next spans after)
