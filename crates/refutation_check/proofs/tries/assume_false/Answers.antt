use Rattle.std.proofs.Common.{rules, ◌++◌, ℤ, w64, List, subst}
use Rattle.std.specs.Prelude.{Contains}
use Rattle.std.proofs.lemmas.Int.{to_z-of_z}
use mir.Val.{SFits}
use Rattle.clause_db.specs.Log.{literal_lists, results}
use Rattle.refutation_check.specs.Runs.{StaysDecided, RefutesWith}
use Rattle.std.specs.Bool.{OnFalse}
use Rattle.refutation_check.proofs.RunSteps.{true_refutes, on_true}
use Rattle.refutation_check.proofs.tries.assume_false.Goals as goal

pub returns-in-True-clause-refuted : goal.returns-in-True-clause-refuted
returns-in-True-clause-refuted c =
    let clauses : List (List ℤ) = literal_lists c.args.clauses.now.list.items ++ results c.args.before.now in
    let x : ℤ = c.args.literal in
    let fits : SFits w64 x = search rules in
    true_refutes clauses c.args.trail.now x c.requires.run.run.has_reasons (subst (Contains c.args.trail.now.literals.items) (to_z-of_z w64 _ fits) c.in-True.ensures)

pub returns-in_ok-fine-in-Free-clause-decided : goal.returns-in_ok-fine-in-Free-clause-decided
returns-in_ok-fine-in-Free-clause-decided c =
    let x : ℤ = c.args.literal in
    let fits : SFits w64 x = search rules in
    let d = subst (λ l. StaysDecided l c.args.trail.now c.decide_false.new.trail) (to_z-of_z w64 _ fits) c.in_ok-fine-in-Free.ensures.decided in
    on_true c.in_ok-fine-in-Free.fine d

pub returns-in_ok-fine-in-Free-clause-refuted : goal.returns-in_ok-fine-in-Free-clause-refuted
returns-in_ok-fine-in-Free-clause-refuted c =
    let clauses : List (List ℤ) = literal_lists c.args.clauses.now.list.items ++ results c.args.before.now in
    let x : ℤ = c.args.literal in
    let fits : SFits w64 x = search rules in
    subst (λ l. OnFalse c.in_ok-fine-in-Free.fine (RefutesWith clauses l c.args.trail.now)) (to_z-of_z w64 _ fits) c.in_ok-fine-in-Free.ensures.refuted
