use Rattle.std.proofs.Common.{◌++◌, ◌∙◌, ℤ, List, length, sym, subst, w64}
use mir.Val.{of_z, to_z}
use Rattle.clause_db.specs.Log.{literal_lists, results}
use Rattle.unit_propagation.specs.Status.{FitsVariables}
use Rattle.unit_propagation.specs.Watching.{entries}
use Rattle.unit_propagation.specs.Visiting.{IsVisiting, IsVisitStep}
use Rattle.unit_propagation.proofs.Fits.{extends_trans}
use Rattle.unit_propagation.proofs.visits.visit_all.Goals as goal

pub visit-requires-clause-fits : goal.visit-requires-clause-fits
visit-requires-clause-fits c = subst (λ n. FitsVariables n (literal_lists c.args.clauses.now.list.items ++ results c.args.lines.now)) (sym c.entries.invariant.variables) c.requires.fits

pub entries-preserved : goal.entries-preserved
entries-preserved c =
    let clauses : List (List ℤ) = literal_lists c.args.clauses.now.list.items ++ results c.args.lines.now in
    let i = c.entries.invariant in
    let e = c.in_ok-next-in-Some.ensures in
    record {
      extends = extends_trans _ _ _ i.extends e.extends;
      starts = e.starts ∙ i.starts;
      variables = e.variables ∙ i.variables;
      reasons = e.reasons_kept;
      head = e.head ∙ i.head;
      pending = e.pending ∙ i.pending;
      known = e.known ∙ i.known;
      visiting =
          let step = subst (IsVisitStep clauses c.visit.new.trail.literals.items c.visit.new.trail.starts.items (length c.visit.new.trail.places.items) c.entries.watches.head (to_z w64 (of_z w64 c.args.falsified)) c.visit.new.watches.pairs.items (entries c.visit.new.watches.lists.items) c.visit.new.watches.pending.items) c.in-At.is e.step in
          subst (λ h. IsVisiting clauses c.visit.new.trail.literals.items c.visit.new.trail.starts.items (length c.visit.new.trail.places.items) h (to_z w64 (of_z w64 c.args.falsified)) c.in-At.next c.visit.new.watches.pairs.items (entries c.visit.new.watches.lists.items) c.visit.new.watches.pending.items) (sym e.head) step;
    }

pub returns-in-Fails-clause-extends : goal.returns-in-Fails-clause-extends
returns-in-Fails-clause-extends c = extends_trans _ _ _ c.entries.invariant.extends c.in_ok-next-in-Some.ensures.extends
