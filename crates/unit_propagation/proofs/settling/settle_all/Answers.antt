use Rattle.std.proofs.Common.{arith, ◌++◌, ◌∙◌, ℤ, List, length, sym, subst}
use Rattle.clause_db.specs.Log.{literal_lists, results}
use Rattle.unit_propagation.specs.Status.{FitsVariables}
use Rattle.unit_propagation.specs.Watching.{entries}
use Rattle.unit_propagation.specs.Settling.{IsSettleStep}
use Rattle.unit_propagation.proofs.Fits.{extends_trans}
use Rattle.unit_propagation.proofs.SettleSteps.{pending_hold}
use Rattle.unit_propagation.proofs.settling.settle_all.Goals as goal

pub settle_at-requires-clause-fits : goal.settle_at-requires-clause-fits
settle_at-requires-clause-fits c = subst (λ n. FitsVariables n (literal_lists c.args.clauses.now.list.items ++ results c.args.lines.now)) (sym c.entries.invariant.variables) c.requires.fits

pub entries-preserved : goal.entries-preserved
entries-preserved c =
    let clauses : List (List ℤ) = literal_lists c.args.clauses.now.list.items ++ results c.args.lines.now in
    let i = c.entries.invariant in
    let e = c.in_ok-next.ensures in
    record {
      extends = extends_trans _ _ _ i.extends e.extends;
      starts = e.starts ∙ i.starts;
      variables = e.variables ∙ i.variables;
      reasons = e.reasons_kept;
      head = e.head ∙ i.head;
      known = e.known ∙ i.known;
      settled = subst (IsSettleStep clauses c.settle_at.new.trail.literals.items c.settle_at.new.trail.starts.items (length c.settle_at.new.trail.places.items) c.settle_at.new.watches.head c.settle_at.new.watches.pairs.items (entries c.settle_at.new.watches.lists.items) c.settle_at.new.watches.pending.items) c.in-At.is e.step;
    }

pub returns-in-Fails-clause-extends : goal.returns-in-Fails-clause-extends
returns-in-Fails-clause-extends c = extends_trans _ _ _ c.entries.invariant.extends c.in_ok-next.ensures.extends

pub returns-clause-settled : goal.returns-clause-settled
returns-clause-settled c = (c.entries.invariant.settled.watched, pending_hold (literal_lists c.args.clauses.now.list.items ++ results c.args.lines.now) c.entries.trail.literals.items c.entries.trail.starts.items (length c.entries.trail.places.items) c.entries.watches.head c.entries.place c.entries.watches.pairs.items (entries c.entries.watches.lists.items) c.entries.watches.pending.items (omega (arith, c.entries-test.false, c.len.ensures, c.entries.watches.pending.ok.0)) c.entries.invariant.settled)
