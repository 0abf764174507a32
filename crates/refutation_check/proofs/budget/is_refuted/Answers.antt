use Rattle.std.proofs.Common.{rules, arith, ◌≡◌, ℤ, List, [], ◌++◌, subst, sym, ◌∙◌}
use Rattle.std.specs.Prelude.{Contains}
use Rattle.std.proofs.lemmas.List.{append-nil}
use Rattle.clause_db.specs.Log.{literal_lists}
use Rattle.clause_db.specs.Propagation.{PropagationRefutes}
use Rattle.clause_db.proofs.Places.{contains_numbered}
use Rattle.unit_propagation.specs.Status.{FitsVariables, IsOutcome}
use Rattle.unit_propagation.proofs.Complete.{refutes_nothing}
use Rattle.unit_propagation.proofs.Consistent.{consistent_from_places}
use Rattle.refutation_check.specs.Runs.{IsRootRun}
use Rattle.refutation_check.proofs.RunSteps.{none_decided, false_refutes}
use Rattle.refutation_check.proofs.budget.is_refuted.Goals as goal

none_in : {X : Type 0} (x : X) → Contains [] x → ⊥
none_in x w = omega (arith, w.1)

pub returns-in-Some-clause-run : goal.returns-in-Some-clause-run
returns-in-Some-clause-run c =
    let list : List (List ℤ) = literal_lists c.args.clauses.now.list.items in
    let new = c.propagate.new.trail in
    let e = c.in_ok-propagate.ensures in
    let none : new.starts.items ≡ [] = e.starts ∙ c.requires.no_decision in
    let root : IsRootRun (list ++ []) new c.propagate.new.self = record {
      run = record {
        fits = subst (λ k. FitsVariables k (list ++ [])) (sym c.propagate.ensures.variables) c.requires.run.fits;
        has_reasons = e.reasons_kept;
        watched = e.watched;
        known = c.propagate.ensures.known ∙ c.requires.run.known;
      };
      no_decision = none;
    } in
    root

pub returns-in-None-clause-run : goal.returns-in-None-clause-run
returns-in-None-clause-run c =
    let list : List (List ℤ) = literal_lists c.args.clauses.now.list.items in
    let new = c.propagate.new.trail in
    let e = c.in_ok-propagate.ensures in
    let none : new.starts.items ≡ [] = e.starts ∙ c.requires.no_decision in
    let root : IsRootRun (list ++ []) new c.propagate.new.self = record {
      run = record {
        fits = subst (λ k. FitsVariables k (list ++ [])) (sym c.propagate.ensures.variables) c.requires.run.fits;
        has_reasons = e.reasons_kept;
        watched = e.watched;
        known = c.propagate.ensures.known ∙ c.requires.run.known;
      };
      no_decision = none;
    } in
    root

pub returns-in-Some-clause-answer : goal.returns-in-Some-clause-answer
returns-in-Some-clause-answer c =
    let list : List (List ℤ) = literal_lists c.args.clauses.now.list.items in
    let new = c.propagate.new.trail in
    let e = c.in_ok-propagate.ensures in
    let none : new.starts.items ≡ [] = e.starts ∙ c.requires.no_decision in
    let root : IsRootRun (list ++ []) new c.propagate.new.self = record {
      run = record {
        fits = subst (λ k. FitsVariables k (list ++ [])) (sym c.propagate.ensures.variables) c.requires.run.fits;
        has_reasons = e.reasons_kept;
        watched = e.watched;
        known = c.propagate.ensures.known ∙ c.requires.run.known;
      };
      no_decision = none;
    } in
    let found = subst (IsOutcome (list ++ []) new.literals.items) c.in-Some.is e.outcome in
    ((λ _. subst (λ cs. PropagationRefutes cs []) (append-nil list) (false_refutes (list ++ []) new [] e.reasons_kept (none_decided [] new none) found.0 (contains_numbered (list ++ []) c.in-Some.field-0 found.0 found.1) found.2)), λ _. search rules)

pub returns-in-None-clause-answer : goal.returns-in-None-clause-answer
returns-in-None-clause-answer c =
    let list : List (List ℤ) = literal_lists c.args.clauses.now.list.items in
    let new = c.propagate.new.trail in
    let e = c.in_ok-propagate.ensures in
    let none : new.starts.items ≡ [] = e.starts ∙ c.requires.no_decision in
    let root : IsRootRun (list ++ []) new c.propagate.new.self = record {
      run = record {
        fits = subst (λ k. FitsVariables k (list ++ [])) (sym c.propagate.ensures.variables) c.requires.run.fits;
        has_reasons = e.reasons_kept;
        watched = e.watched;
        known = c.propagate.ensures.known ∙ c.requires.run.known;
      };
      no_decision = none;
    } in
    let quiet = subst (IsOutcome (list ++ []) new.literals.items) c.in-None.is e.outcome in
    let consistent = consistent_from_places new.literals.items new.places.items new.places_right in
    ((λ never. cc), λ refuted. absurd (refutes_nothing (list ++ []) new.literals.items [] consistent quiet (λ l w. absurd (none_in l w)) (subst (λ cs. PropagationRefutes cs []) (sym (append-nil list)) refuted)))
