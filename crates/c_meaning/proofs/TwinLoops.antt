-- The loop statements of two parts of a program that are the same under a pairing.
use Rattle.std.proofs.Common.{◌≡◌, ℕ, List, Bool, true, false, if◌then◌else◌, nat_eq, Option, Some, None, refl, ap, ap₂, ◌∙◌}
use Rattle.rvt_num.specs.declared.values.Value.{Value}
use Rattle.rvt_tree.specs.declared.statements.Stmt.{Stmt}
use Rattle.rvt_tree.specs.declared.pairings.Pairing.{Pairing}
use Rattle.rvt_tree.specs.declared.programs.Program.{Program}
use Rattle.rvt_tree.specs.declared.programs.Function.{Function}
use Rattle.rvt_tree.specs.Views.{stmt_view}
use Rattle.rvt_tree.specs.Syntax.{Statement, compound, null_statement, action, declaration, declaration_with, break_statement, continue_statement, return_statement, return_value, if_statement, if_else, while_loop, do_loop, for_loop, switch, Statements, no_statements, statement, Groups, no_groups, labelled}
use Rattle.rvt_tree.specs.Same.{ArePaired, SameStatement, SameStatements, SameGroups}
use Rattle.c_meaning.specs.Outcomes.{Doing, Answers, Manner}
use Rattle.c_meaning.specs.Statements.{or_else, after_body}
use Rattle.c_meaning.specs.Loops.{Loop, loop_in, loop_in_block, loop_in_groups, loop_in_body, loop_in_function}
use Rattle.c_meaning.specs.Twins.{StandOverOneTable, SameBody, AreTwins}
use Rattle.c_meaning.proofs.TwinTrees.{then_same, if_same, apart, same_condition, same_acts, same_test, same_meaning}

module _ (pairing : Pairing) (program program' : Program) (one : StandOverOneTable pairing program program') {X : Type 0} (answers answers' : Answers X)
    (calls : (f g : ℕ) → ArePaired pairing.functions f g → (arguments : List Value) → answers.call f arguments ≡ answers'.call g arguments)
    (loops : (number : ℕ) (first : Bool) (test : Doing X Bool) (round : Doing X Manner) → answers.loop number first test round ≡ answers'.loop number first test round) where
  -- a loop that has the number that is wanted, or one inside it
  loop_or_inner : (wanted number number' : ℕ) (first : Bool) (test test' : Doing X Bool) (round round' : Doing X Manner) (inner inner' : Option (Loop X)) → number ≡ number' → test ≡ test' → round ≡ round' → inner ≡ inner' →
      (if nat_eq number wanted then Some (record { round_first = first; test = test; round = round }) else inner) ≡ (if nat_eq number' wanted then Some (record { round_first = first; test = test'; round = round' }) else inner')
  loop_or_inner wanted number number' first test test' round round' inner inner' e t r i =
      ap (λ k. if nat_eq k wanted then Some (record { round_first = first; test = test; round = round }) else inner) e
      ∙ if_same (nat_eq number' wanted) _ _ _ _ (ap₂ (λ a b. Some (record { round_first = first; test = a; round = b })) t r) i

  mutual
    same_loop_in : (wanted : ℕ) (s s' : Statement) → SameStatement pairing s s' → loop_in program answers wanted s ≡ loop_in program' answers' wanted s'
    same_loop_in wanted (compound body) (compound body') h = same_loop_in_block wanted body body' h
    same_loop_in wanted (compound body) _ h = absurd h
    same_loop_in wanted (action a) (action a') h = refl
    same_loop_in wanted (action a) _ h = absurd h
    same_loop_in wanted (declaration variable) (declaration variable') h = refl
    same_loop_in wanted (declaration variable) _ h = absurd h
    same_loop_in wanted (declaration_with variable init) (declaration_with variable' init') h = refl
    same_loop_in wanted (declaration_with variable init) _ h = absurd h
    same_loop_in wanted (return_value e) (return_value e') h = refl
    same_loop_in wanted (return_value e) _ h = absurd h
    same_loop_in wanted (if_statement test first) (if_statement test' first') h = same_loop_in wanted first first' h.1
    same_loop_in wanted (if_statement test first) _ h = absurd h
    same_loop_in wanted (if_else test first second) (if_else test' first' second') h = ap₂ or_else (same_loop_in wanted first first' h.1) (same_loop_in wanted second second' h.2)
    same_loop_in wanted (if_else test first second) _ h = absurd h
    same_loop_in wanted (while_loop number test body) (while_loop number' test' body') h =
        loop_or_inner wanted _ _ false _ _ _ _ _ _ h.0 (same_condition pairing program program' one answers answers' calls loops test test' h.1) (same_meaning pairing program program' one answers answers' calls loops body body' h.2) (same_loop_in wanted body body' h.2)
    same_loop_in wanted (while_loop number test body) _ h = absurd h
    same_loop_in wanted (do_loop number body test) (do_loop number' body' test') h =
        loop_or_inner wanted _ _ true _ _ _ _ _ _ h.0 (same_condition pairing program program' one answers answers' calls loops test test' h.2) (same_meaning pairing program program' one answers answers' calls loops body body' h.1) (same_loop_in wanted body body' h.1)
    same_loop_in wanted (do_loop number body test) _ h = absurd h
    same_loop_in wanted (for_loop number first test last body) (for_loop number' first' test' last' body') h =
        loop_or_inner wanted _ _ false _ _ _ _ _ _ h.0.0 (same_test pairing program program' one answers answers' calls loops test test' h.1.0)
        (then_same _ _ _ _ (same_meaning pairing program program' one answers answers' calls loops body body' h.0.2) (λ manner. ap (λ m. after_body m manner) (same_acts pairing program program' one answers answers' calls loops last last' h.1.1)))
        (same_loop_in wanted body body' h.0.2)
    same_loop_in wanted (for_loop number first test last body) _ h = absurd h.0
    same_loop_in wanted (switch e groups) (switch e' groups') h = same_loop_in_groups wanted groups groups' h.1
    same_loop_in wanted (switch e groups) _ h = absurd h
    same_loop_in wanted null_statement null_statement h = refl
    same_loop_in wanted null_statement _ h = absurd (apart h)
    same_loop_in wanted break_statement break_statement h = refl
    same_loop_in wanted break_statement _ h = absurd (apart h)
    same_loop_in wanted continue_statement continue_statement h = refl
    same_loop_in wanted continue_statement _ h = absurd (apart h)
    same_loop_in wanted return_statement return_statement h = refl
    same_loop_in wanted return_statement _ h = absurd (apart h)

    same_loop_in_block : (wanted : ℕ) (s s' : Statements) → SameStatements pairing s s' → loop_in_block program answers wanted s ≡ loop_in_block program' answers' wanted s'
    same_loop_in_block wanted no_statements no_statements h = refl
    same_loop_in_block wanted no_statements (statement s' rest') h = absurd h
    same_loop_in_block wanted (statement s rest) no_statements h = absurd h
    same_loop_in_block wanted (statement s rest) (statement s' rest') h = ap₂ or_else (same_loop_in wanted s s' h.0) (same_loop_in_block wanted rest rest' h.1)

    same_loop_in_groups : (wanted : ℕ) (g g' : Groups) → SameGroups pairing g g' → loop_in_groups program answers wanted g ≡ loop_in_groups program' answers' wanted g'
    same_loop_in_groups wanted no_groups no_groups h = refl
    same_loop_in_groups wanted no_groups (labelled labels' body' rest') h = absurd h
    same_loop_in_groups wanted (labelled labels body rest) no_groups h = absurd h
    same_loop_in_groups wanted (labelled labels body rest) (labelled labels' body' rest') h =
        ap₂ or_else (same_loop_in_block wanted body body' h.1) (same_loop_in_groups wanted rest rest' h.2)

  same_loop_in_body : (wanted : ℕ) (a b : Option Stmt) → SameBody pairing a b → loop_in_body program answers wanted a ≡ loop_in_body program' answers' wanted b
  same_loop_in_body wanted None None h = refl
  same_loop_in_body wanted None (Some b) h = absurd h
  same_loop_in_body wanted (Some a) None h = absurd h
  same_loop_in_body wanted (Some a) (Some b) h = same_loop_in wanted (stmt_view a) (stmt_view b) h

  -- the loops of a number of two twins
  pub same_loop_in_function : (wanted : ℕ) (a b : Option Function) → AreTwins pairing a b → loop_in_function program answers wanted a ≡ loop_in_function program' answers' wanted b
  same_loop_in_function wanted None b h = absurd h
  same_loop_in_function wanted (Some a) None h = absurd h
  same_loop_in_function wanted (Some a) (Some b) h = same_loop_in_body wanted a.body b.body h.body
