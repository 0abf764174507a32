-- The groups of a `switch`.
use Rattle.std.proofs.Common.{◌≡◌, ℕ, suc, ◌+◌, List, [], ◌∷◌, ◌++◌, length, Bool, true, false, ◌||◌, if◌then◌else◌, Option, Some, None, refl, sym, ap, ◌∙◌, subst, arith}
use Rattle.std.specs.Prelude.{slice_get, unwrap_or}
use Rattle.rvt_num.specs.Number.{Number}
use Rattle.rvt_tree.specs.declared.statements.Label.{Label}
use Rattle.rvt_tree.specs.declared.statements.Label.TheVariants.{Case, Default}
use Rattle.rvt_tree.specs.declared.programs.Program.{Program}
use Rattle.rvt_tree.specs.Syntax.{compound, Statements, Groups, no_groups, labelled}
use Rattle.c_meaning.specs.Outcomes.{State, Doing, Manner, Normally, give, and_then}
use Rattle.c_meaning.specs.Stores.{number_of}
use Rattle.c_meaning.specs.Statements.{after_group, is_case, is_default, any, or_else, meaning, group}
use Rattle.c_meaning.specs.Runs.{stepping}
use Rattle.c_meaning.specs.Laws.{LoopUnfolds, TestsSpend, BodiesSpend, RoundsSpend}
use Rattle.c_tasks.specs.Operands.{Operands, top_value, without_value, with_manner}
use Rattle.c_tasks.specs.Tasks.{Rest, ending, running_statement, chosen_group, selecting}
use Rattle.c_tasks.proofs.Sequences.{one_part}
use Rattle.c_code.specs.Initializers.{Counts}
use Rattle.c_code.specs.Statements.{leaving, labels_code, group_code, block_code, groups_code}
use Rattle.c_code.specs.declared.instructions.Instruction.{Instruction}
use Rattle.c_code.specs.declared.instructions.Instruction.TheVariants as I
use Rattle.code_laws.specs.Stands.{Spans, Stands, goes, skips}
use Rattle.code_laws.specs.Selecting.{meets, one_meets, Finds, here, further, nowhere, arriving}
use Rattle.code_laws.specs.Laws.{SelectsLaw}
use Rattle.code_laws.proofs.Spanning.{split, length_of_span}
use Rattle.code_laws.proofs.Statements.{scope_stands, block_stands}

-- ---- groups in code

abbrev is_group : Option Instruction → Type 0
is_group (Some (I.Group labels n)) = Unit {0}
is_group other = ⊥

abbrev labels_in : Option Instruction → ℕ
labels_in (Some (I.Group labels n)) = labels
labels_in other = 0

abbrev length_in : Option Instruction → ℕ
length_in (Some (I.Group labels n)) = n
length_in other = 0

no_group : (code : List Instruction) (at fin labels n : ℕ) → at ≡ fin → slice_get code fin ≡ Some I.LeaveSwitch → slice_get code at ≡ Some (I.Group labels n) → ⊥
no_group code at fin labels n e last found = subst is_group (sym found ∙ ap (slice_get code) e ∙ last) tt

-- the labels in code meet what the labels of the group meet
meet_alike : (code : List Instruction) (test : Label → Bool) (labels : List Label) (from to : ℕ) → Spans code from to (labels_code labels) → one_meets test code from (length (labels_code labels)) ≡ any test labels
meet_alike code test [] from to spans = refl
meet_alike code test (Case n ∷ rest) from to spans =
    ap (λ o. meets test o || one_meets test code (suc from) (length (labels_code rest))) spans.0 ∙ ap (λ b. test (Case n) || b) (meet_alike code test rest (suc from) to spans.1)
meet_alike code test (Default ∷ rest) from to spans =
    ap (λ o. meets test o || one_meets test code (suc from) (length (labels_code rest))) spans.0 ∙ ap (λ b. test Default || b) (meet_alike code test rest (suc from) to spans.1)

module _ (program : Program) (unfolds : LoopUnfolds program) (tests : TestsSpend program) (bodies : BodiesSpend program) (rounds : RoundsSpend program) (d : ℕ) (counts : Counts) (code : List Instruction) where
  abbrev S : ℕ → ℕ → ℕ → Rest → Type 0
  S pc h p k = Stands program d counts code pc h p k

  labels_stand : (labels : List Label) (from to : ℕ) (next : Rest) → Spans code from to (labels_code labels) → S to 0 0 next → S from 0 0 next
  labels_stand [] from to next spans after = subst (λ n. S n 0 0 next) (sym spans) after
  labels_stand (Case n ∷ rest) from to next spans after = goes 0 0 next (I.Case n) spans.0 (refl, refl) (λ on s. refl) (labels_stand rest (suc from) to next spans.1 after)
  labels_stand (Default ∷ rest) from to next spans after = goes 0 0 next I.Default spans.0 (refl, refl) (λ on s. refl) (labels_stand rest (suc from) to next spans.1 after)

  -- groups that are passed over
  passed : (groups : Groups) (from to : ℕ) (next : Rest) → Spans code from to (groups_code counts groups) → S to 0 0 next → S from 0 0 next
  passed no_groups from to next spans after = subst (λ n. S n 0 0 next) (sym spans) after
  passed (labelled labels body rest) from to next spans after =
      let inner = labels_code labels ++ (block_code counts body ++ leaving body) in
      let first = split code from to (group_code labels (block_code counts body ++ leaving body)) (groups_code counts rest) spans in
      let away : first.0 ≡ from + suc (length inner) = omega (arith, length_of_span code (suc from) first.0 inner first.1.1) in
      skips next (length (labels_code labels)) (suc (length inner)) first.1.0 (λ on s. refl) (subst (λ n. S n 0 0 next) away (passed rest first.0 to next first.2 after))

  module _ (fin : ℕ) (next : Rest) (last : slice_get code fin ≡ Some I.LeaveSwitch) (after : S fin 0 0 (λ on. ending program d (after_group on.manner) next on)) where
    -- the end of the switch
    abbrev leaving_it : Rest
    leaving_it on = ending program d (after_group on.manner) next on

    -- what was found in the code, against the group that the switch means
    abbrev Found : Option (Doing ℕ Manner) → Bool → ℕ → Type 0
    Found o true place = (body : Statements) × (o ≡ Some (meaning program (stepping program d) (compound body))) × S place 0 0 (running_statement program d (compound body) leaving_it)
    Found o false place = (o ≡ None) × (place ≡ fin)

    search : (test : Label → Bool) (groups : Groups) (from : ℕ) → Spans code from fin (groups_code counts groups) → (found : Bool) (place : ℕ) → Finds test code from found place →
        Found (group program (stepping program d) (any test) groups) found place
    search test no_groups from spans found place (here labels n at meet) = absurd (no_group code from fin labels n spans last at)
    search test no_groups from spans found place (further labels n at meet more) = absurd (no_group code from fin labels n spans last at)
    search test no_groups from spans found place (nowhere none) = (refl, spans)
    search test (labelled labels body rest) from spans found place (here count n at meet) =
        let own = block_code counts body ++ leaving body in
        let first = split code from fin (group_code labels own) (groups_code counts rest) spans in
        let second = split code (suc from) first.0 (labels_code labels) own first.1.1 in
        let number : count ≡ length (labels_code labels) = ap labels_in (sym at ∙ first.1.0) in
        let meets_it : any test labels ≡ true = sym (meet_alike code test labels (suc from) second.0 second.1) ∙ ap (one_meets test code (suc from)) (sym number) ∙ meet in (
          body,
          ap (λ b. if b then Some (meaning program (stepping program d) (compound body)) else group program (stepping program d) (any test) rest) meets_it,
          labels_stand labels (suc from) second.0 (running_statement program d (compound body) leaving_it) second.1
              (scope_stands program d counts code body leaving_it second.0 first.0 (λ middle k spans after. block_stands program d counts code unfolds tests bodies rounds body second.0 middle k spans after) second.2
              (passed rest first.0 fin leaving_it first.2 after)),
        )
    search test (labelled labels body rest) from spans found place (further count n at meet more) =
        let own = block_code counts body ++ leaving body in
        let first = split code from fin (group_code labels own) (groups_code counts rest) spans in
        let second = split code (suc from) first.0 (labels_code labels) own first.1.1 in
        let number : count ≡ length (labels_code labels) = ap labels_in (sym at ∙ first.1.0) in
        let far : n ≡ suc (length (labels_code labels ++ own)) = ap length_in (sym at ∙ first.1.0) in
        let there : from + n ≡ first.0 = omega (arith, far, length_of_span code (suc from) first.0 (labels_code labels ++ own) first.1.1) in
        let meets_none : any test labels ≡ false = sym (meet_alike code test labels (suc from) second.0 second.1) ∙ ap (one_meets test code (suc from)) (sym number) ∙ meet in
        subst (λ o. Found o found place) (sym (ap (λ b. if b then Some (meaning program (stepping program d) (compound body)) else group program (stepping program d) (any test) rest) meets_none))
        (search test rest first.0 first.2 found place (subst (λ m. Finds test code m found place) there more))
    search test (labelled labels body rest) from spans found place (nowhere none) =
        absurd (none (length (labels_code labels)) _ (split code from fin (group_code labels (block_code counts body ++ leaving body)) (groups_code counts rest) spans).1.0)

    -- the group that was found does what is chosen
    module _ (groups : Groups) (n : Number) where
      abbrev by_number : Option (Doing ℕ Manner)
      by_number = group program (stepping program d) (any (is_case n)) groups

      abbrev otherwise : Option (Doing ℕ Manner)
      otherwise = group program (stepping program d) (any is_default) groups

      chooses : (on : Operands) (s : State ℕ) (o p : Option (Doing ℕ Manner)) → number_of (top_value on) ≡ n → by_number ≡ o → otherwise ≡ p →
          selecting program d groups next on s ≡ ending program d (and_then (unwrap_or (or_else o p) (give Normally)) after_group) next (without_value on) s
      chooses on s o p e f g =
          ap (λ x. ending program d (and_then (chosen_group program d x groups) after_group) next (without_value on) s) e
          ∙ ap (λ x. ending program d (and_then (unwrap_or (or_else x otherwise) (give Normally)) after_group) next (without_value on) s) f
          ∙ ap (λ x. ending program d (and_then (unwrap_or (or_else o x) (give Normally)) after_group) next (without_value on) s) g

      chosen_here : (body : Statements) (on : Operands) (s : State ℕ) →
          ending program d (and_then (meaning program (stepping program d) (compound body)) after_group) next on s ≡ running_statement program d (compound body) leaving_it on s
      chosen_here body on s = sym (one_part (meaning program (stepping program d) (compound body)) after_group (λ manner. next (with_manner manner on)) s)

      goes_on : (by_case by_default : Bool) (case_place default_place : ℕ) → Found by_number by_case case_place → Found otherwise by_default default_place →
          (far : Rest) × S (if by_case then case_place else default_place) 0 0 far ×
          ((on : Operands) (s : State ℕ) → number_of (top_value on) ≡ n → selecting program d groups next on s ≡ far (arriving (if by_case then true else by_default) on) s)
      goes_on true by_default case_place default_place first second =
          (running_statement program d (compound first.0) leaving_it, first.2, λ on s e. chooses on s _ otherwise e first.1 refl ∙ chosen_here first.0 (without_value on) s)
      goes_on false true case_place default_place first second =
          (running_statement program d (compound second.0) leaving_it, second.2, λ on s e. chooses on s None _ e first.0 second.1 ∙ chosen_here second.0 (without_value on) s)
      goes_on false false case_place default_place first second =
          (leaving_it, subst (λ m. S m 0 0 leaving_it) (sym second.1) after, λ on s e. chooses on s None None e first.0 second.0)

pub selects_law : (program : Program) → LoopUnfolds program → TestsSpend program → BodiesSpend program → RoundsSpend program → SelectsLaw program
selects_law program unfolds tests bodies rounds d counts code pc fin next groups spans last after n by_case by_default case_place default_place on_case on_default =
    goes_on program unfolds tests bodies rounds d counts code fin next last after groups n by_case by_default case_place default_place
    (search program unfolds tests bodies rounds d counts code fin next last after (is_case n) groups (suc pc) spans by_case case_place on_case)
    (search program unfolds tests bodies rounds d counts code fin next last after is_default groups (suc pc) spans by_default default_place on_default)
