use Rattle.std.proofs.Common.{arith, ◌≡◌, ℤ, ◌<◌, List, [], ◌++◌, ◌∙◌, length, sym, subst, ap}
use Rattle.std.specs.Prelude.{All}
use Rattle.clause_db.specs.Literal.{variable_of}
use Rattle.clause_db.specs.Log.{literal_lists, results}
use Rattle.clause_db.specs.Propagation.{StrengthensPropagation}
use Rattle.clause_db.proofs.Ordered.{contains_at}
use Rattle.unit_propagation.specs.Places.{literal_at}
use Rattle.clause_db.proofs.Places.{contains_numbered}
use Rattle.unit_propagation.specs.Status.{FitsVariables, IsOutcome}
use Rattle.refutation_check.specs.Budget.{opposites_but}
use Rattle.refutation_check.specs.Runs.{IsRun}
use Rattle.refutation_check.proofs.Assumed.{strengthens_by_place, place_of_strengthening}
use Rattle.refutation_check.proofs.Permuted.{new_there, all_there, distinct_ordered}
use Rattle.refutation_check.proofs.RunSteps.{none_decided, false_refutes, above_zero}
use Rattle.refutation_check.proofs.budget.strengthens.Goals as goal

pub returns-in-Some-clause-run : goal.returns-in-Some-clause-run
returns-in-Some-clause-run c =
    let clauses : List (List ℤ) = literal_lists c.args.clauses.now.list.items ++ results c.args.before.now in
    let clause : List ℤ = c.args.line.now.result.literals.items in
    let mid = c.propagate.new.trail in
    let f = c.in_ok-propagate.ensures in
    let none : mid.starts.items ≡ [] = f.starts ∙ c.requires.run.no_decision in
    let is_run : IsRun clauses mid c.propagate.new.self = record {
      fits = subst (λ k. FitsVariables k clauses) (sym c.propagate.ensures.variables) c.requires.run.run.fits;
      has_reasons = f.reasons_kept;
      watched = f.watched;
      known = c.propagate.ensures.known ∙ c.requires.run.run.known;
    } in
    record { run = is_run; no_decision = none }

pub returns-in-Some-clause-answer : goal.returns-in-Some-clause-answer
returns-in-Some-clause-answer c =
    let clauses : List (List ℤ) = literal_lists c.args.clauses.now.list.items ++ results c.args.before.now in
    let clause : List ℤ = c.args.line.now.result.literals.items in
    let mid = c.propagate.new.trail in
    let f = c.in_ok-propagate.ensures in
    let none : mid.starts.items ≡ [] = f.starts ∙ c.requires.run.no_decision in
    let is_run : IsRun clauses mid c.propagate.new.self = record {
      fits = subst (λ k. FitsVariables k clauses) (sym c.propagate.ensures.variables) c.requires.run.run.fits;
      has_reasons = f.reasons_kept;
      watched = f.watched;
      known = c.propagate.ensures.known ∙ c.requires.run.run.known;
    } in
    let found = subst (IsOutcome clauses mid.literals.items) c.in-Some.is f.outcome in
    let none_strengthens : StrengthensPropagation clauses clause → ⊥ = λ does. let w = place_of_strengthening clauses clause does in w.2.0 (false_refutes clauses mid (opposites_but clause w.0) f.reasons_kept (none_decided (opposites_but clause w.0) mid none) found.0 (contains_numbered clauses c.in-Some.field-0 found.0 found.1) found.2) in
    ((λ never. cc), λ does. absurd (none_strengthens does))

pub is_new_among-requires-clause-run : goal.is_new_among-requires-clause-run
is_new_among-requires-clause-run c =
    let clauses : List (List ℤ) = literal_lists c.args.clauses.now.list.items ++ results c.args.before.now in
    let clause : List ℤ = c.args.line.now.result.literals.items in
    let mid = c.propagate.new.trail in
    let f = c.in_ok-propagate.ensures in
    let none : mid.starts.items ≡ [] = f.starts ∙ c.requires.run.no_decision in
    let is_run : IsRun clauses mid c.propagate.new.self = record {
      fits = subst (λ k. FitsVariables k clauses) (sym c.propagate.ensures.variables) c.requires.run.run.fits;
      has_reasons = f.reasons_kept;
      watched = f.watched;
      known = c.propagate.ensures.known ∙ c.requires.run.run.known;
    } in
    record {
      run = is_run;
      handled = f.handled c.in-None.is;
      quiet = subst (IsOutcome clauses mid.literals.items) c.in-None.is f.outcome;
      started = λ k h. absurd (let e = ap length none in omega (arith, e, h));
    }

pub is_new_among-requires-clause-fits : goal.is_new_among-requires-clause-fits
is_new_among-requires-clause-fits c =
    let clause : List ℤ = c.args.line.now.result.literals.items in
    let order : List ℤ = c.in_ok-order.order.literals.items in
    let n = length c.propagate.new.trail.places.items in
    all_there (λ l. variable_of l < n) clause order (subst (λ m. All (λ l. variable_of l < m) clause) (sym c.propagate.ensures.variables) c.requires.fits) c.in_ok-order.ensures.1

pub is_new_among-requires-clause-some : goal.is_new_among-requires-clause-some
is_new_among-requires-clause-some c =
    let clause : List ℤ = c.args.line.now.result.literals.items in
    let order : List ℤ = c.in_ok-order.order.literals.items in
    let some : 0 < length clause = (let a = above_zero _ c.if-is_empty.ensures in omega (arith, a, c.args.line.now.result.literals.ok.0)) in
    let w = c.in_ok-order.ensures.0 (literal_at clause 0) (contains_at clause 0 some) in
    let h = w.1 in
    omega (arith, h, c.len.ensures, c.in_ok-order.order.literals.ok.0)

pub returns-clause-answer : goal.returns-clause-answer
returns-clause-answer c =
    let clauses : List (List ℤ) = literal_lists c.args.clauses.now.list.items ++ results c.args.before.now in
    let clause : List ℤ = c.args.line.now.result.literals.items in
    let order = c.in_ok-order.order in
    let same = c.in_ok-order.ensures in
    let long : c.len.result ≡ length order.literals.items = omega (arith, c.len.ensures, order.literals.ok.0) in
    let answer = c.in_ok-new.ensures.answer in (
      (λ is_new.
          let w = answer.0 is_new in
          let v = new_there clauses order.literals.items clause (distinct_ordered clause c.args.line.now.result.ordered) same.1 same.0 w.0 (let h = w.2 in omega (arith, h, long)) w.3 in
          strengthens_by_place clauses clause v.0 v.1 v.2),
      (λ does.
          let w = place_of_strengthening clauses clause does in
          let v = new_there clauses clause order.literals.items order.distinct same.0 same.1 w.0 w.1 w.2 in
          answer.1 (v.0, omega arith, (let h = v.1 in omega (arith, h, long)), v.2)),
    )
