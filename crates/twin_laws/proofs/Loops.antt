-- The loop statements of two parts of a program that are the same under a pairing do the same.
use Rattle.std.proofs.Common.{◌≡◌, ℕ, List, ◌++◌, Bool, true, false, if◌then◌else◌, nat_eq, All, Option, Some, None, option_map, refl, subst}
use Rattle.rvt_num.specs.declared.values.Value.{Value}
use Rattle.rvt_tree.specs.declared.statements.Stmt.{Stmt}
use Rattle.rvt_tree.specs.declared.pairings.Pairing.{Pairing}
use Rattle.rvt_tree.specs.declared.programs.Program.{Program}
use Rattle.rvt_tree.specs.declared.programs.Function.{Function}
use Rattle.rvt_tree.specs.Views.{stmt_view}
use Rattle.rvt_tree.specs.Syntax.{Statement, compound, null_statement, action, declaration, declaration_with, break_statement, continue_statement, return_statement, return_value, if_statement, if_else, while_loop, do_loop, for_loop, switch, Statements, no_statements, statement, Groups, no_groups, labelled}
use Rattle.rvt_tree.specs.Same.{ArePaired, SameStatement, SameStatements, SameGroups}
use Rattle.c_meaning.specs.Outcomes.{Doing, Answers, Manner}
use Rattle.c_meaning.specs.Statements.{or_else}
use Rattle.c_meaning.specs.Loops.{Loop, loop_in, loop_in_block, loop_in_groups, loop_in_body, loop_in_function}
use Rattle.c_meaning.specs.Twins.{SameBody, AreTwins}
use Rattle.body_pointees.specs.Pointees.{expression_pointees, actions_pointees, test_pointees, statement_pointees, statements_pointees, groups_pointees, body_pointees}
use Rattle.twin_laws.specs.Touches.{FunctionTouchesPaired}
use Rattle.twin_laws.proofs.Alike.{Each, first_part, last_part, each_of, Anything, Alike, then_alike, body_alike}
use Rattle.twin_laws.proofs.Objects.{OneTable}
use Rattle.twin_laws.proofs.Trees.{apart, Opens, Touch, condition_alike, acts_alike, test_alike, meaning_alike}

module _ (pairing : Pairing) (program program' : Program) (one : OneTable pairing program program') where
  -- two loops that do the same, or none on both sides
  pub record SameLoop {X : Type 0} (a b : Loop X) : Type 0 where
    pub first : a.round_first ≡ b.round_first
    pub test : Alike (Opens pairing program program' one) Anything a.test b.test
    pub round : Alike (Opens pairing program program' one) Anything a.round b.round

  abbrev pub SameLoops : {X : Type 0} → Option (Loop X) → Option (Loop X) → Type 0
  SameLoops None None = Unit {0}
  SameLoops (Some a) (Some b) = SameLoop a b
  SameLoops _ _ = ⊥

  either_same : {X : Type 0} (r s r' s' : Option (Loop X)) → SameLoops r r' → SameLoops s s' → SameLoops (or_else r s) (or_else r' s')
  either_same (Some m) s (Some m') s' t u = t
  either_same (Some m) s None s' t u = absurd t
  either_same None s (Some m') s' t u = absurd t
  either_same None s None s' t u = u

  picked_same : {X : Type 0} (b : Bool) (m m' : Loop X) (r r' : Option (Loop X)) → SameLoop m m' → SameLoops r r' → SameLoops (if b then Some m else r) (if b then Some m' else r')
  picked_same true m m' r r' t u = t
  picked_same false m m' r r' t u = u

  module _ {X : Type 0} (answers answers' : Answers X)
      (calls : (f g : ℕ) → ArePaired pairing.functions f g → (arguments : List Value) → All (Opens pairing program program' one) arguments →
      Alike (Opens pairing program program' one) Anything (answers.call f arguments) (answers'.call g arguments))
      (loops : (number : ℕ) (first : Bool) (test test' : Doing X Bool) (round round' : Doing X Manner) →
      Alike (Opens pairing program program' one) Anything test test' → Alike (Opens pairing program program' one) Anything round round' →
      Alike (Opens pairing program program' one) Anything (answers.loop number first test round) (answers'.loop number first test' round')) where
    -- a loop that has the number that is wanted, or one inside it
    loop_or_inner : (wanted number number' : ℕ) (first : Bool) (test test' : Doing X Bool) (round round' : Doing X Manner) (inner inner' : Option (Loop X)) → number ≡ number' →
        Alike (Opens pairing program program' one) Anything test test' → Alike (Opens pairing program program' one) Anything round round' → SameLoops inner inner' →
        SameLoops (if nat_eq number wanted then Some (record { round_first = first; test = test; round = round }) else inner)
        (if nat_eq number' wanted then Some (record { round_first = first; test = test'; round = round' }) else inner')
    loop_or_inner wanted number number' first test test' round round' inner inner' e t r i =
        subst (λ k. SameLoops (if nat_eq number wanted then Some (record { round_first = first; test = test; round = round }) else inner)
        (if nat_eq k wanted then Some (record { round_first = first; test = test'; round = round' }) else inner')) e
        (picked_same (nat_eq number wanted) _ _ _ _ (record { first = refl; test = t; round = r }) i)

    mutual
      loop_same : (wanted : ℕ) (s s' : Statement) → SameStatement pairing s s' → Each (Touch pairing program program' one) (statement_pointees s) → SameLoops (loop_in program answers wanted s) (loop_in program' answers' wanted s')
      loop_same wanted (compound body) (compound body') h t = block_same wanted body body' h t
      loop_same wanted (compound body) _ h t = absurd h
      loop_same wanted (action a) (action a') h t = tt
      loop_same wanted (action a) _ h t = absurd h
      loop_same wanted (declaration variable) (declaration variable') h t = tt
      loop_same wanted (declaration variable) _ h t = absurd h
      loop_same wanted (declaration_with variable init) (declaration_with variable' init') h t = tt
      loop_same wanted (declaration_with variable init) _ h t = absurd h
      loop_same wanted (return_value e) (return_value e') h t = tt
      loop_same wanted (return_value e) _ h t = absurd h
      loop_same wanted (if_statement test first) (if_statement test' first') h t = loop_same wanted first first' h.1 (last_part (Touch pairing program program' one) (expression_pointees test) (statement_pointees first) t)
      loop_same wanted (if_statement test first) _ h t = absurd h
      loop_same wanted (if_else test first second) (if_else test' first' second') h t =
          let before = first_part (Touch pairing program program' one) (expression_pointees test ++ statement_pointees first) (statement_pointees second) t in
          either_same _ _ _ _ (loop_same wanted first first' h.1 (last_part (Touch pairing program program' one) (expression_pointees test) (statement_pointees first) before))
          (loop_same wanted second second' h.2 (last_part (Touch pairing program program' one) (expression_pointees test ++ statement_pointees first) (statement_pointees second) t))
      loop_same wanted (if_else test first second) _ h t = absurd h
      loop_same wanted (while_loop number test body) (while_loop number' test' body') h t =
          let inner = last_part (Touch pairing program program' one) (expression_pointees test) (statement_pointees body) t in
          loop_or_inner wanted _ _ false _ _ _ _ _ _ h.0 (condition_alike pairing program program' one answers answers' calls loops test test' h.1 (first_part (Touch pairing program program' one) (expression_pointees test) (statement_pointees body) t))
          (meaning_alike pairing program program' one answers answers' calls loops body body' h.2 inner) (loop_same wanted body body' h.2 inner)
      loop_same wanted (while_loop number test body) _ h t = absurd h
      loop_same wanted (do_loop number body test) (do_loop number' body' test') h t =
          let inner = first_part (Touch pairing program program' one) (statement_pointees body) (expression_pointees test) t in
          loop_or_inner wanted _ _ true _ _ _ _ _ _ h.0 (condition_alike pairing program program' one answers answers' calls loops test test' h.2 (last_part (Touch pairing program program' one) (statement_pointees body) (expression_pointees test) t))
          (meaning_alike pairing program program' one answers answers' calls loops body body' h.1 inner) (loop_same wanted body body' h.1 inner)
      loop_same wanted (do_loop number body test) _ h t = absurd h
      loop_same wanted (for_loop number first test last body) (for_loop number' first' test' last' body') h t =
          let header = first_part (Touch pairing program program' one) (statements_pointees first ++ test_pointees test ++ actions_pointees last) (statement_pointees body) t in
          let inner = last_part (Touch pairing program program' one) (statements_pointees first ++ test_pointees test ++ actions_pointees last) (statement_pointees body) t in
          let tests = first_part (Touch pairing program program' one) (statements_pointees first ++ test_pointees test) (actions_pointees last) header in
          loop_or_inner wanted _ _ false _ _ _ _ _ _ h.0.0 (test_alike pairing program program' one answers answers' calls loops test test' h.1.0 (last_part (Touch pairing program program' one) (statements_pointees first) (test_pointees test) tests))
          (then_alike (Opens pairing program program' one) Anything Anything _ _ _ _ (meaning_alike pairing program program' one answers answers' calls loops body body' h.0.2 inner) (λ manner _.
          body_alike (Opens pairing program program' one) _ _ (acts_alike pairing program program' one answers answers' calls loops last last' h.1.1 (last_part (Touch pairing program program' one) (statements_pointees first ++ test_pointees test) (actions_pointees last) header)) manner))
          (loop_same wanted body body' h.0.2 inner)
      loop_same wanted (for_loop number first test last body) _ h t = absurd h.0
      loop_same wanted (switch e groups) (switch e' groups') h t = groups_same wanted groups groups' h.1 (last_part (Touch pairing program program' one) (expression_pointees e) (groups_pointees groups) t)
      loop_same wanted (switch e groups) _ h t = absurd h
      loop_same wanted null_statement null_statement h t = tt
      loop_same wanted null_statement _ h t = absurd (apart h)
      loop_same wanted break_statement break_statement h t = tt
      loop_same wanted break_statement _ h t = absurd (apart h)
      loop_same wanted continue_statement continue_statement h t = tt
      loop_same wanted continue_statement _ h t = absurd (apart h)
      loop_same wanted return_statement return_statement h t = tt
      loop_same wanted return_statement _ h t = absurd (apart h)

      block_same : (wanted : ℕ) (s s' : Statements) → SameStatements pairing s s' → Each (Touch pairing program program' one) (statements_pointees s) → SameLoops (loop_in_block program answers wanted s) (loop_in_block program' answers' wanted s')
      block_same wanted no_statements no_statements h t = tt
      block_same wanted no_statements (statement s' rest') h t = absurd h
      block_same wanted (statement s rest) no_statements h t = absurd h
      block_same wanted (statement s rest) (statement s' rest') h t =
          either_same _ _ _ _ (loop_same wanted s s' h.0 (first_part (Touch pairing program program' one) (statement_pointees s) (statements_pointees rest) t))
          (block_same wanted rest rest' h.1 (last_part (Touch pairing program program' one) (statement_pointees s) (statements_pointees rest) t))

      groups_same : (wanted : ℕ) (g g' : Groups) → SameGroups pairing g g' → Each (Touch pairing program program' one) (groups_pointees g) → SameLoops (loop_in_groups program answers wanted g) (loop_in_groups program' answers' wanted g')
      groups_same wanted no_groups no_groups h t = tt
      groups_same wanted no_groups (labelled labels' body' rest') h t = absurd h
      groups_same wanted (labelled labels body rest) no_groups h t = absurd h
      groups_same wanted (labelled labels body rest) (labelled labels' body' rest') h t =
          either_same _ _ _ _ (block_same wanted body body' h.1 (first_part (Touch pairing program program' one) (statements_pointees body) (groups_pointees rest) t))
          (groups_same wanted rest rest' h.2 (last_part (Touch pairing program program' one) (statements_pointees body) (groups_pointees rest) t))

    loop_in_body_same : (wanted : ℕ) (a b : Option Stmt) → SameBody pairing a b → Each (Touch pairing program program' one) (body_pointees (option_map stmt_view a)) → SameLoops (loop_in_body program answers wanted a) (loop_in_body program' answers' wanted b)
    loop_in_body_same wanted None None h t = tt
    loop_in_body_same wanted None (Some b) h t = absurd h
    loop_in_body_same wanted (Some a) None h t = absurd h
    loop_in_body_same wanted (Some a) (Some b) h t = loop_same wanted (stmt_view a) (stmt_view b) h t

    -- the loops of a number of two twins
    pub loop_in_function_same : (wanted : ℕ) (a b : Option Function) → AreTwins pairing a b → FunctionTouchesPaired pairing program a → SameLoops (loop_in_function program answers wanted a) (loop_in_function program' answers' wanted b)
    loop_in_function_same wanted None b h t = absurd h
    loop_in_function_same wanted (Some a) None h t = absurd h
    loop_in_function_same wanted (Some a) (Some b) h t = loop_in_body_same wanted a.body b.body h.body (each_of (Touch pairing program program' one) (body_pointees (option_map stmt_view a.body)) t)
