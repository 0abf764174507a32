use Rattle.std.proofs.Common.{rules, arith, ◌≡◌, ◌<◌, ◌++◌, ◌∙◌, ◌+◌, ◌-ℤ◌, pos, [], ap, ℕ, ℤ, w64, Option, List, length, slice_index_or, sym, subst}
use Rattle.std.proofs.lemmas.Int.{fits_signed_from_abs}
use Rattle.std.proofs.lemmas.List.{get_or_read}
use Rattle.std.specs.Prelude.{Contains}
use mir.Val.{SFits, of_z, to_z}
use Rattle.clause_db.specs.Literal.{variable_of, opposite}
use Rattle.clause_db.specs.Log.{literal_lists, results}
use Rattle.clause_db.proofs.Ordered.{variable_of-opposite, opposite-opposite}
use Rattle.unit_propagation.specs.Places.{literal_at}
use Rattle.unit_propagation.specs.Status.{FitsVariables}
use Rattle.unit_propagation.specs.Watching.{entries, IsWatched}
use Rattle.unit_propagation.specs.Visiting.{IsVisiting, IsVisitEnd}
use Rattle.unit_propagation.specs.declared.watches.Watched.{Watched}
use Rattle.unit_propagation.proofs.Fits.{extends_trans}
use Rattle.unit_propagation.proofs.Trails.{trail_fits}
use Rattle.unit_propagation.proofs.VisitSteps.{visit_begins}
use Rattle.unit_propagation.proofs.SettleSteps.{holds_longer}
use Rattle.unit_propagation.proofs.Handled.{zero_minus, negated_read, quiet_handled}
use Rattle.unit_propagation.proofs.watches.Watches.propagate.Goals as goal

pub visit_all-requires-clause-fits : goal.visit_all-requires-clause-fits
visit_all-requires-clause-fits c = subst (λ n. FitsVariables n (literal_lists c.args.clauses.now.list.items ++ results c.args.lines.now)) (sym c.queue.invariant.variables) c.requires.fits

pub visit_all-requires-clause-visiting : goal.visit_all-requires-clause-visiting
visit_all-requires-clause-visiting c =
    let clauses : List (List ℤ) = literal_lists c.args.clauses.now.list.items ++ results c.args.lines.now in
    let trail = c.queue.trail in
    let head : ℕ = c.queue.self.head in
    let x : ℤ = c.index.result.now in
    let fits : SFits w64 x = search rules in
    let within : head < length trail.literals.items = omega (arith, c.queue-test.true, c.len.ensures, trail.literals.ok.0) in
    let is : x ≡ literal_at trail.literals.items head = get_or_read trail.literals.items head x within c.index.ensures (pos 0) in
    let has_place = trail.places_right.of_literal head within in
    let small = trail.places.small in
    let fits_minus : SFits w64 (pos 0 -ℤ x) = fits_signed_from_abs w64 (pos 0 -ℤ x) (let e : variable_of (pos 0 -ℤ x) ≡ variable_of (literal_at trail.literals.items head) = ap variable_of (zero_minus x) ∙ variable_of-opposite x ∙ ap variable_of is in omega (arith, e, has_place.1, small, trail.places.ok.0, trail.places.ok.1)) in
    let read : to_z w64 (of_z w64 (pos 0 -ℤ to_z w64 (of_z w64 x))) ≡ opposite (literal_at trail.literals.items head) = negated_read x fits fits_minus ∙ ap opposite is in
    subst (λ l. IsVisiting clauses trail.literals.items trail.starts.items (length trail.places.items) head l 0 c.queue.self.pairs.items (entries c.queue.self.lists.items) c.queue.self.pending.items) (sym read) (visit_begins clauses trail.literals.items trail.starts.items (length trail.places.items) head (opposite (literal_at trail.literals.items head)) c.queue.self.pairs.items (entries c.queue.self.lists.items) c.queue.self.pending.items within (sym (opposite-opposite (literal_at trail.literals.items head))) c.queue.invariant.watched)

pub returns-in-Some-2-clause-extends : goal.returns-in-Some-2-clause-extends
returns-in-Some-2-clause-extends c = extends_trans _ _ _ c.queue.invariant.extends c.in_ok-number-2.ensures.extends

pub queue-smaller : goal.queue-smaller
queue-smaller c =
    let fits = trail_fits c.queue.trail.literals.items c.queue.trail.places.items c.queue.trail.places_right in
    let e = c.in_ok-number-2.ensures in
    omega (arith, fits, e.head, e.variables, c.queue-test.true, c.len.ensures, c.queue.trail.literals.ok.0)

pub queue-preserved : goal.queue-preserved
queue-preserved c =
    let clauses : List (List ℤ) = literal_lists c.args.clauses.now.list.items ++ results c.args.lines.now in
    let i = c.queue.invariant in
    let e = c.in_ok-number-2.ensures in
    let trail = c.visit_all.new.trail in
    let pairs : List (Option Watched) = c.visit_all.new.watches.pairs.items in
    let lists : List (List ℕ) = entries c.visit_all.new.watches.lists.items in
    let pending : List ℕ = c.visit_all.new.watches.pending.items in
    record {
      extends = extends_trans _ _ _ i.extends e.extends;
      starts = e.starts ∙ i.starts;
      variables = e.variables ∙ i.variables;
      reasons = e.reasons_kept;
      known = e.known ∙ i.known;
      watched = subst (λ h. IsWatched clauses trail.literals.items trail.starts.items (length trail.places.items) (h + 1) pairs lists pending) (sym e.head) (subst (IsVisitEnd clauses trail.literals.items trail.starts.items (length trail.places.items) c.queue.self.head pairs lists pending) c.in-None-2.is e.visited);
      pending = λ k h has. holds_longer c.queue.trail.literals.items trail.literals.items (slice_index_or clauses k []) e.extends (i.pending k (omega (arith, h, e.known)) (subst (λ xs. Contains xs k) e.pending has));
    }

pub returns-clause-outcome : goal.returns-clause-outcome
returns-clause-outcome c =
    let clauses : List (List ℤ) = literal_lists c.args.clauses.now.list.items ++ results c.args.lines.now in
    let i = c.queue.invariant in
    quiet_handled clauses c.queue.trail.literals.items c.queue.trail.starts.items c.queue.trail.places.items c.queue.self.head c.queue.self.pairs.items (entries c.queue.self.lists.items) c.queue.self.pending.items c.queue.trail.places_right (subst (λ n. FitsVariables n clauses) (sym i.variables) c.requires.fits) (i.known ∙ c.requires.all_known) (omega (arith, c.queue-test.false, c.len.ensures, c.queue.trail.literals.ok.0)) i.pending i.watched
