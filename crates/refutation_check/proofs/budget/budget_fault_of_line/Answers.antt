use Rattle.std.proofs.Common.{ℤ, inl, inr, List, ◌++◌, length, subst, refl}
use Rattle.clause_db.specs.Log.{literal_lists, results}
use Rattle.refutation_check.specs.Faults.{IsVerdict}
use Rattle.refutation_check.proofs.Bounded.{line_below}
use Rattle.refutation_check.proofs.budget.budget_fault_of_line.Goals as goal

pub strengthens-requires-clause-fits : goal.strengthens-requires-clause-fits
strengthens-requires-clause-fits c k d h =
    let clauses : List (List ℤ) = literal_lists c.args.clauses.now.list.items ++ results c.args.before.now in
    let derived = subst (IsVerdict clauses c.args.line.now) c.in-None.is c.in_ok-fault.ensures in
    (line_below (length c.args.trail.now.places.items) clauses c.requires.run.fits c.args.line.now derived k d h).1

pub returns-in-Some-clause-verdict : goal.returns-in-Some-clause-verdict
returns-in-Some-clause-verdict c =
    let clauses : List (List ℤ) = literal_lists c.args.clauses.now.list.items ++ results c.args.before.now in
    inl (subst (IsVerdict clauses c.args.line.now) c.in-Some.is c.in_ok-fault.ensures)

pub returns-then-branch-clause-verdict : goal.returns-then-branch-clause-verdict
returns-then-branch-clause-verdict c =
    let clauses : List (List ℤ) = literal_lists c.args.clauses.now.list.items ++ results c.args.before.now in
    (subst (IsVerdict clauses c.args.line.now) c.in-None.is c.in_ok-fault.ensures, c.in_ok-strengthens.ensures.answer.0 c.if-branch.true)

pub returns-else-branch-clause-verdict : goal.returns-else-branch-clause-verdict
returns-else-branch-clause-verdict c =
    let clauses : List (List ℤ) = literal_lists c.args.clauses.now.list.items ++ results c.args.before.now in
    inr (subst (IsVerdict clauses c.args.line.now) c.in-None.is c.in_ok-fault.ensures, (λ does. let b = c.in_ok-strengthens.ensures.answer.1 does in cc (b, c.if-branch.false)), refl)
