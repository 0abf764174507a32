use Rattle.std.proofs.Common.{arith, ◌≡◌, ◌<◌, ◌≤◌, ◌+◌, ◌++◌, ℕ, ℤ, List, length, take, sym, subst, inl, inr, get_or, refl}
use Rattle.std.proofs.lemmas.List.{get_or_read}
use Rattle.std.proofs.lemmas.Bool.{cases_lt}
use Rattle.std.specs.Prelude.{All}
use Rattle.clause_db.specs.declared.clause.LogLine.{LogLine}
use Rattle.clause_db.specs.Literal.{variable_of}
use Rattle.clause_db.specs.Log.{literal_lists, results}
use Rattle.unit_propagation.proofs.Fits.{fits_list}
use Rattle.refutation_check.specs.Budget.{IsBudgetVerdict, IsBudgetLine, BudgetLineFault}
use Rattle.refutation_check.specs.declared.fault.LogFault.TheVariants.{Line}
use Rattle.refutation_check.specs.Runs.{IsRootRun}
use Rattle.refutation_check.proofs.Bounded.{line_below}
use Rattle.refutation_check.proofs.RunSteps.{run_add, results_next}
use Rattle.refutation_check.proofs.BudgetLogs.{budget_fault_refuses}
use Rattle.refutation_check.proofs.budget.check_budget.Goals as goal

pub returns-then-total-limit-clause-first_fault : goal.returns-then-total-limit-clause-first_fault
returns-then-total-limit-clause-first_fault c =
    inl ((λ e. c.if-total-limit.true (omega (arith, e, c.len-total.ensures, c.args.log.now.lines.ok.0))), refl, refl)

pub returns-then-total-limit-clause-refused : goal.returns-then-total-limit-clause-refused
returns-then-total-limit-clause-refused c =
    budget_fault_refuses (literal_lists c.args.clauses.now.list.items) c.args.log.now.lines.items c.args.limit (Line 0 56) (returns-then-total-limit-clause-first_fault c)

pub root_run-requires-clause-fits : goal.root_run-requires-clause-fits
root_run-requires-clause-fits c =
    let largest : ℕ = c.largest_variable-variables.result in
    fits_list c.args.clauses.now.list.items largest (subst (λ cs. All (λ x. All (λ l. variable_of l ≤ largest) x) (literal_lists cs)) c.deref.ensures.value c.largest_variable-variables.ensures.within)

pub returns-then-refuted-clause-first_fault : goal.returns-then-refuted-clause-first_fault
returns-then-refuted-clause-first_fault c =
    let total : length c.args.log.now.lines.items ≡ c.args.limit = omega (arith, c.len-total.ensures, c.args.log.now.lines.ok.0, c.if-total-limit.false) in
    inr (total, inl (c.in-Ok-is_refuted.ensures.answer.0 c.if-refuted.true, refl, refl))

pub returns-then-refuted-clause-refused : goal.returns-then-refuted-clause-refused
returns-then-refuted-clause-refused c =
    budget_fault_refuses (literal_lists c.args.clauses.now.list.items) c.args.log.now.lines.items c.args.limit (Line 0 57) (returns-then-refuted-clause-first_fault c)

pub budget_fault_of_line-requires : goal.budget_fault_of_line-requires
budget_fault_of_line-requires c = subst (λ (ls : List LogLine). IsRootRun (literal_lists c.args.clauses.now.list.items ++ results (take c.loop-index.index ls)) c.loop-index.trail c.loop-index.watches) (sym c.deref-in-loop-index.ensures.value) c.loop-index.invariant.run

pub returns-in-Ok-Some-clause-first_fault : goal.returns-in-Ok-Some-clause-first_fault
returns-in-Ok-Some-clause-first_fault c =
    let lines : List LogLine = c.args.log.now.lines.items in
    let list : List (List ℤ) = literal_lists c.args.clauses.now.list.items in
    let k : ℕ = c.loop-index.index in
    let line : LogLine = c.index.result.now in
    let total : length lines ≡ c.args.limit = omega (arith, c.len-total.ensures, c.args.log.now.lines.ok.0, c.if-total-limit.false) in
    let within : k < length lines = omega (arith, c.loop-index-test.true, c.len-total.ensures, c.args.log.now.lines.ok.0) in
    let verdict = subst (λ (ls : List LogLine). IsBudgetVerdict (list ++ results (take k ls)) line c.in-Ok-Some.field-0) c.deref-in-loop-index.ensures.value c.in-Ok-Some.ensures.verdict in
    let fault : BudgetLineFault (list ++ results (take k lines)) line c.in-Ok-Some.cause = subst (IsBudgetVerdict (list ++ results (take k lines)) line) c.in-Ok-Some.field-0-is verdict in
    inr (
      total,
      inr (
        (λ refuted. let b = c.in-Ok-is_refuted.ensures.answer.1 refuted in cc (b, c.if-refuted.false)),
        (k, refl, within, c.loop-index.invariant.lines, λ d. subst (λ (x : LogLine). BudgetLineFault (list ++ results (take k lines)) x c.in-Ok-Some.cause) (get_or_read lines k line within c.index.ensures d) fault),
      ),
    )

pub returns-in-Ok-Some-clause-refused : goal.returns-in-Ok-Some-clause-refused
returns-in-Ok-Some-clause-refused c =
    budget_fault_refuses (literal_lists c.args.clauses.now.list.items) c.args.log.now.lines.items c.args.limit (Line (c.loop-index.index + 1) c.in-Ok-Some.cause) (returns-in-Ok-Some-clause-first_fault c)

pub loop-index-preserved : goal.loop-index-preserved
loop-index-preserved c =
    let lines : List LogLine = c.args.log.now.lines.items in
    let list : List (List ℤ) = literal_lists c.args.clauses.now.list.items in
    let k : ℕ = c.loop-index.index in
    let line : LogLine = c.index.result.now in
    let within : k < length lines = omega (arith, c.loop-index-test.true, c.len-total.ensures, c.args.log.now.lines.ok.0) in
    let verdict = subst (λ (ls : List LogLine). IsBudgetVerdict (list ++ results (take k ls)) line c.in-Ok-None.field-0) c.deref-in-loop-index.ensures.value c.in-Ok-None.ensures.verdict in
    let good : IsBudgetLine (list ++ results (take k lines)) line = subst (IsBudgetVerdict (list ++ results (take k lines)) line) c.in-Ok-None.field-0-is verdict in
    let trail = c.budget_fault_of_line.new.trail in
    let root : IsRootRun (list ++ results (take k lines)) trail c.budget_fault_of_line.new.watches = subst (λ (ls : List LogLine). IsRootRun (list ++ results (take k ls)) trail c.budget_fault_of_line.new.watches) c.deref-in-loop-index.ensures.value c.in-Ok-None.ensures.run in
    let a = c.in-Ok-add.ensures in
    let below = line_below (length trail.places.items) (list ++ results (take k lines)) root.run.fits line good.0 in
    record {
      lines = λ j d h. elim (cases_lt j k) [
        | inl low ↦ c.loop-index.invariant.lines j d low
        | inr high ↦
            let e : k ≡ j = omega (arith, h, high) in
            subst (λ n. IsBudgetLine (list ++ results (take n lines)) (get_or lines n d)) e (subst (λ (x : LogLine). IsBudgetLine (list ++ results (take k lines)) x) (get_or_read lines k line within c.index.ensures d) good)
      ];
      run = subst (λ cs. IsRootRun cs trail c.add.new.self) (results_next list lines k line within c.index.ensures) (run_add (list ++ results (take k lines)) line.result trail c.budget_fault_of_line.new.watches c.add.new.self below a.pairs a.pending a.lists a.head root);
    }

pub returns-clause-budget_log : goal.returns-clause-budget_log
returns-clause-budget_log c = record {
  log = λ k d h. (c.loop-index.invariant.lines k d (omega (arith, h, c.loop-index-test.false, c.len-total.ensures, c.args.log.now.lines.ok.0))).0;
  lines_of_limit = omega (arith, c.len-total.ensures, c.args.log.now.lines.ok.0, c.if-total-limit.false);
  each_strengthens = λ k d h. (c.loop-index.invariant.lines k d (omega (arith, h, c.loop-index-test.false, c.len-total.ensures, c.args.log.now.lines.ok.0))).1;
  not_refuted = λ refuted. let b = c.in-Ok-is_refuted.ensures.answer.1 refuted in cc (b, c.if-refuted.false);
}
