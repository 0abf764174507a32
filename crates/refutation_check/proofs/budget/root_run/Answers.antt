use Rattle.std.proofs.Common.{arith, ap, ℤ, List, length, sym, subst}
use Rattle.std.proofs.lemmas.List.{append-nil}
use Rattle.clause_db.specs.Log.{literal_lists}
use Rattle.unit_propagation.specs.Status.{FitsVariables}
use Rattle.unit_propagation.proofs.Tables.{literal_lists_length}
use Rattle.refutation_check.specs.Runs.{IsRootRun}
use Rattle.refutation_check.proofs.budget.root_run.Goals as goal

pub returns : goal.returns
returns c =
    let list : List (List ℤ) = literal_lists c.args.clauses.now.list.items in
    let t = c.in_ok-trail.ensures in
    let w = c.in_ok-watches.watches in
    subst (λ cs. IsRootRun cs c.in_ok-trail.trail w) (sym (append-nil list)) (record {
      run = record {
        fits = subst (λ n. FitsVariables n list) (sym t.variables) c.requires.fits;
        has_reasons = λ p h. absurd (let e = ap length t.empty in omega (arith, e, h));
        watched = rw (t.empty, t.no_decision, t.variables) c.in_ok-watches.ensures.watched;
        known = (let long = literal_lists_length c.args.clauses.now.list.items in omega (arith, long, c.in_ok-watches.ensures.known));
      };
      no_decision = t.no_decision;
    })
