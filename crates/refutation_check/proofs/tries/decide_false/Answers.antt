use Rattle.std.proofs.Common.{rules, arith, ◌≡◌, ◌++◌, ◌∷◌, [], ◌∙◌, ◌-ℤ◌, pos, ap, ℕ, ℤ, w64, List, length, sym, subst}
use Rattle.std.proofs.lemmas.Int.{fits_signed_from_abs}
use mir.Val.{SFits, of_z, to_z}
use Rattle.clause_db.specs.Literal.{variable_of, opposite}
use Rattle.clause_db.specs.Log.{literal_lists, results}
use Rattle.clause_db.proofs.Ordered.{variable_of-opposite}
use Rattle.clause_db.proofs.Places.{contains_numbered}
use Rattle.unit_propagation.specs.Status.{FitsVariables, Extends, IsOutcome}
use Rattle.unit_propagation.specs.Watching.{entries}
use Rattle.unit_propagation.proofs.Reasons.{reasons_open}
use Rattle.unit_propagation.proofs.Handled.{zero_minus, negated_read}
use Rattle.unit_propagation.proofs.SettleSteps.{watched-push}
use Rattle.unit_propagation.proofs.Watchings.{watched_open}
use Rattle.refutation_check.specs.Runs.{IsRun}
use Rattle.refutation_check.proofs.RunSteps.{stays_decided, decided_there, started_open, false_refutes}
use Rattle.refutation_check.proofs.GoingOn.{goes_on_decided}
use Rattle.refutation_check.proofs.tries.decide_false.Goals as goal

pub propagate-requires-clause-fits : goal.propagate-requires-clause-fits
propagate-requires-clause-fits c =
    let clauses : List (List ℤ) = literal_lists c.args.clauses.now.list.items ++ results c.args.before.now in
    subst (λ k. FitsVariables k clauses) (sym (c.push.ensures.variables ∙ c.open_level.ensures.variables)) c.requires.run.run.fits

pub propagate-requires-clause-reasons : goal.propagate-requires-clause-reasons
propagate-requires-clause-reasons c =
    let clauses : List (List ℤ) = literal_lists c.args.clauses.now.list.items ++ results c.args.before.now in
    let trail = c.args.trail.now in
    let n : ℕ = length trail.places.items in
    let run = c.requires.run.run in
    let x : ℤ = c.args.literal in
    let fits : SFits w64 x = search rules in
    let fits_minus : SFits w64 (pos 0 -ℤ x) = fits_signed_from_abs w64 (pos 0 -ℤ x) (let e : variable_of (pos 0 -ℤ x) ≡ variable_of x = ap variable_of (zero_minus x) ∙ variable_of-opposite x in omega (arith, e, c.requires.in_range)) in
    let read : to_z w64 (of_z w64 (pos 0 -ℤ to_z w64 (of_z w64 x))) ≡ opposite x = negated_read x fits fits_minus in
    let e = c.in_ok-push.ensures in
    let o = c.in_ok-open_level.ensures in
    rw (e.literals, e.reasons, e.starts, o.literals, o.reasons, o.starts, read) (reasons_open clauses trail.literals.items trail.starts.items trail.reasons.items (opposite x) run.has_reasons (λ p h g. c.requires.free p h (g ∙ variable_of-opposite x)))

pub propagate-requires-clause-watched : goal.propagate-requires-clause-watched
propagate-requires-clause-watched c =
    let clauses : List (List ℤ) = literal_lists c.args.clauses.now.list.items ++ results c.args.before.now in
    let trail = c.args.trail.now in
    let n : ℕ = length trail.places.items in
    let run = c.requires.run.run in
    let x : ℤ = c.args.literal in
    let fits : SFits w64 x = search rules in
    let fits_minus : SFits w64 (pos 0 -ℤ x) = fits_signed_from_abs w64 (pos 0 -ℤ x) (let e : variable_of (pos 0 -ℤ x) ≡ variable_of x = ap variable_of (zero_minus x) ∙ variable_of-opposite x in omega (arith, e, c.requires.in_range)) in
    let read : to_z w64 (of_z w64 (pos 0 -ℤ to_z w64 (of_z w64 x))) ≡ opposite x = negated_read x fits fits_minus in
    let e = c.in_ok-push.ensures in
    let o = c.in_ok-open_level.ensures in
    let w = c.args.watches.now in
    rw (c.push.ensures.variables, c.open_level.ensures.variables, e.literals, e.starts, o.literals, o.starts) (watched-push clauses trail.literals.items (trail.starts.items ++ length trail.literals.items ∷ []) n w.head w.pairs.items (entries w.lists.items) w.pending.items (watched_open trail.literals.items trail.starts.items clauses n w.head w.pairs.items (entries w.lists.items) w.pending.items c.requires.run.handled run.watched) _)

pub returns-in-Some-clause-run : goal.returns-in-Some-clause-run
returns-in-Some-clause-run c =
    let clauses : List (List ℤ) = literal_lists c.args.clauses.now.list.items ++ results c.args.before.now in
    let trail = c.args.trail.now in
    let n : ℕ = length trail.places.items in
    let run = c.requires.run.run in
    let x : ℤ = c.args.literal in
    let fits : SFits w64 x = search rules in
    let fits_minus : SFits w64 (pos 0 -ℤ x) = fits_signed_from_abs w64 (pos 0 -ℤ x) (let e : variable_of (pos 0 -ℤ x) ≡ variable_of x = ap variable_of (zero_minus x) ∙ variable_of-opposite x in omega (arith, e, c.requires.in_range)) in
    let read : to_z w64 (of_z w64 (pos 0 -ℤ to_z w64 (of_z w64 x))) ≡ opposite x = negated_read x fits fits_minus in
    let e = c.in_ok-push.ensures in
    let o = c.in_ok-open_level.ensures in
    let new = c.propagate.new.trail in
    let f = c.in_ok-propagate.ensures in
    let pushed : c.push.new.self.literals.items ≡ trail.literals.items ++ opposite x ∷ [] = e.literals ∙ ap (λ m. c.open_level.new.self.literals.items ++ m ∷ []) read ∙ ap (λ t. t ++ opposite x ∷ []) o.literals in
    let extends : Extends (trail.literals.items ++ opposite x ∷ []) new.literals.items = subst (λ t. Extends t new.literals.items) pushed f.extends in
    let starts : new.starts.items ≡ trail.starts.items ++ length trail.literals.items ∷ [] = f.starts ∙ e.starts ∙ o.starts in
    let variables : length new.places.items ≡ n = c.propagate.ensures.variables ∙ c.push.ensures.variables ∙ c.open_level.ensures.variables in
    let is_run : IsRun clauses new c.propagate.new.self = record {
      fits = subst (λ k. FitsVariables k clauses) (sym variables) run.fits;
      has_reasons = f.reasons_kept;
      watched = f.watched;
      known = c.propagate.ensures.known ∙ run.known;
    } in
    is_run

pub returns-in-Some-clause-false_there : goal.returns-in-Some-clause-false_there
returns-in-Some-clause-false_there c =
    let clauses : List (List ℤ) = literal_lists c.args.clauses.now.list.items ++ results c.args.before.now in
    let trail = c.args.trail.now in
    let n : ℕ = length trail.places.items in
    let run = c.requires.run.run in
    let x : ℤ = c.args.literal in
    let fits : SFits w64 x = search rules in
    let fits_minus : SFits w64 (pos 0 -ℤ x) = fits_signed_from_abs w64 (pos 0 -ℤ x) (let e : variable_of (pos 0 -ℤ x) ≡ variable_of x = ap variable_of (zero_minus x) ∙ variable_of-opposite x in omega (arith, e, c.requires.in_range)) in
    let read : to_z w64 (of_z w64 (pos 0 -ℤ to_z w64 (of_z w64 x))) ≡ opposite x = negated_read x fits fits_minus in
    let e = c.in_ok-push.ensures in
    let o = c.in_ok-open_level.ensures in
    let new = c.propagate.new.trail in
    let f = c.in_ok-propagate.ensures in
    let pushed : c.push.new.self.literals.items ≡ trail.literals.items ++ opposite x ∷ [] = e.literals ∙ ap (λ m. c.open_level.new.self.literals.items ++ m ∷ []) read ∙ ap (λ t. t ++ opposite x ∷ []) o.literals in
    let extends : Extends (trail.literals.items ++ opposite x ∷ []) new.literals.items = subst (λ t. Extends t new.literals.items) pushed f.extends in
    let starts : new.starts.items ≡ trail.starts.items ++ length trail.literals.items ∷ [] = f.starts ∙ e.starts ∙ o.starts in
    let variables : length new.places.items ≡ n = c.propagate.ensures.variables ∙ c.push.ensures.variables ∙ c.open_level.ensures.variables in
    let is_run : IsRun clauses new c.propagate.new.self = record {
      fits = subst (λ k. FitsVariables k clauses) (sym variables) run.fits;
      has_reasons = f.reasons_kept;
      watched = f.watched;
      known = c.propagate.ensures.known ∙ run.known;
    } in
    decided_there trail.literals.items new.literals.items (opposite x) extends

pub returns-in-Some-clause-decided : goal.returns-in-Some-clause-decided
returns-in-Some-clause-decided c =
    let clauses : List (List ℤ) = literal_lists c.args.clauses.now.list.items ++ results c.args.before.now in
    let trail = c.args.trail.now in
    let n : ℕ = length trail.places.items in
    let run = c.requires.run.run in
    let x : ℤ = c.args.literal in
    let fits : SFits w64 x = search rules in
    let fits_minus : SFits w64 (pos 0 -ℤ x) = fits_signed_from_abs w64 (pos 0 -ℤ x) (let e : variable_of (pos 0 -ℤ x) ≡ variable_of x = ap variable_of (zero_minus x) ∙ variable_of-opposite x in omega (arith, e, c.requires.in_range)) in
    let read : to_z w64 (of_z w64 (pos 0 -ℤ to_z w64 (of_z w64 x))) ≡ opposite x = negated_read x fits fits_minus in
    let e = c.in_ok-push.ensures in
    let o = c.in_ok-open_level.ensures in
    let new = c.propagate.new.trail in
    let f = c.in_ok-propagate.ensures in
    let pushed : c.push.new.self.literals.items ≡ trail.literals.items ++ opposite x ∷ [] = e.literals ∙ ap (λ m. c.open_level.new.self.literals.items ++ m ∷ []) read ∙ ap (λ t. t ++ opposite x ∷ []) o.literals in
    let extends : Extends (trail.literals.items ++ opposite x ∷ []) new.literals.items = subst (λ t. Extends t new.literals.items) pushed f.extends in
    let starts : new.starts.items ≡ trail.starts.items ++ length trail.literals.items ∷ [] = f.starts ∙ e.starts ∙ o.starts in
    let variables : length new.places.items ≡ n = c.propagate.ensures.variables ∙ c.push.ensures.variables ∙ c.open_level.ensures.variables in
    let is_run : IsRun clauses new c.propagate.new.self = record {
      fits = subst (λ k. FitsVariables k clauses) (sym variables) run.fits;
      has_reasons = f.reasons_kept;
      watched = f.watched;
      known = c.propagate.ensures.known ∙ run.known;
    } in
    stays_decided x trail new c.requires.run.started starts extends

pub returns-in-None-clause-run : goal.returns-in-None-clause-run
returns-in-None-clause-run c =
    let clauses : List (List ℤ) = literal_lists c.args.clauses.now.list.items ++ results c.args.before.now in
    let trail = c.args.trail.now in
    let n : ℕ = length trail.places.items in
    let run = c.requires.run.run in
    let x : ℤ = c.args.literal in
    let fits : SFits w64 x = search rules in
    let fits_minus : SFits w64 (pos 0 -ℤ x) = fits_signed_from_abs w64 (pos 0 -ℤ x) (let e : variable_of (pos 0 -ℤ x) ≡ variable_of x = ap variable_of (zero_minus x) ∙ variable_of-opposite x in omega (arith, e, c.requires.in_range)) in
    let read : to_z w64 (of_z w64 (pos 0 -ℤ to_z w64 (of_z w64 x))) ≡ opposite x = negated_read x fits fits_minus in
    let e = c.in_ok-push.ensures in
    let o = c.in_ok-open_level.ensures in
    let new = c.propagate.new.trail in
    let f = c.in_ok-propagate.ensures in
    let pushed : c.push.new.self.literals.items ≡ trail.literals.items ++ opposite x ∷ [] = e.literals ∙ ap (λ m. c.open_level.new.self.literals.items ++ m ∷ []) read ∙ ap (λ t. t ++ opposite x ∷ []) o.literals in
    let extends : Extends (trail.literals.items ++ opposite x ∷ []) new.literals.items = subst (λ t. Extends t new.literals.items) pushed f.extends in
    let starts : new.starts.items ≡ trail.starts.items ++ length trail.literals.items ∷ [] = f.starts ∙ e.starts ∙ o.starts in
    let variables : length new.places.items ≡ n = c.propagate.ensures.variables ∙ c.push.ensures.variables ∙ c.open_level.ensures.variables in
    let is_run : IsRun clauses new c.propagate.new.self = record {
      fits = subst (λ k. FitsVariables k clauses) (sym variables) run.fits;
      has_reasons = f.reasons_kept;
      watched = f.watched;
      known = c.propagate.ensures.known ∙ run.known;
    } in
    is_run

pub returns-in-None-clause-false_there : goal.returns-in-None-clause-false_there
returns-in-None-clause-false_there c =
    let clauses : List (List ℤ) = literal_lists c.args.clauses.now.list.items ++ results c.args.before.now in
    let trail = c.args.trail.now in
    let n : ℕ = length trail.places.items in
    let run = c.requires.run.run in
    let x : ℤ = c.args.literal in
    let fits : SFits w64 x = search rules in
    let fits_minus : SFits w64 (pos 0 -ℤ x) = fits_signed_from_abs w64 (pos 0 -ℤ x) (let e : variable_of (pos 0 -ℤ x) ≡ variable_of x = ap variable_of (zero_minus x) ∙ variable_of-opposite x in omega (arith, e, c.requires.in_range)) in
    let read : to_z w64 (of_z w64 (pos 0 -ℤ to_z w64 (of_z w64 x))) ≡ opposite x = negated_read x fits fits_minus in
    let e = c.in_ok-push.ensures in
    let o = c.in_ok-open_level.ensures in
    let new = c.propagate.new.trail in
    let f = c.in_ok-propagate.ensures in
    let pushed : c.push.new.self.literals.items ≡ trail.literals.items ++ opposite x ∷ [] = e.literals ∙ ap (λ m. c.open_level.new.self.literals.items ++ m ∷ []) read ∙ ap (λ t. t ++ opposite x ∷ []) o.literals in
    let extends : Extends (trail.literals.items ++ opposite x ∷ []) new.literals.items = subst (λ t. Extends t new.literals.items) pushed f.extends in
    let starts : new.starts.items ≡ trail.starts.items ++ length trail.literals.items ∷ [] = f.starts ∙ e.starts ∙ o.starts in
    let variables : length new.places.items ≡ n = c.propagate.ensures.variables ∙ c.push.ensures.variables ∙ c.open_level.ensures.variables in
    let is_run : IsRun clauses new c.propagate.new.self = record {
      fits = subst (λ k. FitsVariables k clauses) (sym variables) run.fits;
      has_reasons = f.reasons_kept;
      watched = f.watched;
      known = c.propagate.ensures.known ∙ run.known;
    } in
    decided_there trail.literals.items new.literals.items (opposite x) extends

pub returns-in-None-clause-decided : goal.returns-in-None-clause-decided
returns-in-None-clause-decided c =
    let clauses : List (List ℤ) = literal_lists c.args.clauses.now.list.items ++ results c.args.before.now in
    let trail = c.args.trail.now in
    let n : ℕ = length trail.places.items in
    let run = c.requires.run.run in
    let x : ℤ = c.args.literal in
    let fits : SFits w64 x = search rules in
    let fits_minus : SFits w64 (pos 0 -ℤ x) = fits_signed_from_abs w64 (pos 0 -ℤ x) (let e : variable_of (pos 0 -ℤ x) ≡ variable_of x = ap variable_of (zero_minus x) ∙ variable_of-opposite x in omega (arith, e, c.requires.in_range)) in
    let read : to_z w64 (of_z w64 (pos 0 -ℤ to_z w64 (of_z w64 x))) ≡ opposite x = negated_read x fits fits_minus in
    let e = c.in_ok-push.ensures in
    let o = c.in_ok-open_level.ensures in
    let new = c.propagate.new.trail in
    let f = c.in_ok-propagate.ensures in
    let pushed : c.push.new.self.literals.items ≡ trail.literals.items ++ opposite x ∷ [] = e.literals ∙ ap (λ m. c.open_level.new.self.literals.items ++ m ∷ []) read ∙ ap (λ t. t ++ opposite x ∷ []) o.literals in
    let extends : Extends (trail.literals.items ++ opposite x ∷ []) new.literals.items = subst (λ t. Extends t new.literals.items) pushed f.extends in
    let starts : new.starts.items ≡ trail.starts.items ++ length trail.literals.items ∷ [] = f.starts ∙ e.starts ∙ o.starts in
    let variables : length new.places.items ≡ n = c.propagate.ensures.variables ∙ c.push.ensures.variables ∙ c.open_level.ensures.variables in
    let is_run : IsRun clauses new c.propagate.new.self = record {
      fits = subst (λ k. FitsVariables k clauses) (sym variables) run.fits;
      has_reasons = f.reasons_kept;
      watched = f.watched;
      known = c.propagate.ensures.known ∙ run.known;
    } in
    stays_decided x trail new c.requires.run.started starts extends

pub returns-in-None-clause-quiet : goal.returns-in-None-clause-quiet
returns-in-None-clause-quiet c =
    let clauses : List (List ℤ) = literal_lists c.args.clauses.now.list.items ++ results c.args.before.now in
    let trail = c.args.trail.now in
    let n : ℕ = length trail.places.items in
    let run = c.requires.run.run in
    let x : ℤ = c.args.literal in
    let fits : SFits w64 x = search rules in
    let fits_minus : SFits w64 (pos 0 -ℤ x) = fits_signed_from_abs w64 (pos 0 -ℤ x) (let e : variable_of (pos 0 -ℤ x) ≡ variable_of x = ap variable_of (zero_minus x) ∙ variable_of-opposite x in omega (arith, e, c.requires.in_range)) in
    let read : to_z w64 (of_z w64 (pos 0 -ℤ to_z w64 (of_z w64 x))) ≡ opposite x = negated_read x fits fits_minus in
    let e = c.in_ok-push.ensures in
    let o = c.in_ok-open_level.ensures in
    let new = c.propagate.new.trail in
    let f = c.in_ok-propagate.ensures in
    let pushed : c.push.new.self.literals.items ≡ trail.literals.items ++ opposite x ∷ [] = e.literals ∙ ap (λ m. c.open_level.new.self.literals.items ++ m ∷ []) read ∙ ap (λ t. t ++ opposite x ∷ []) o.literals in
    let extends : Extends (trail.literals.items ++ opposite x ∷ []) new.literals.items = subst (λ t. Extends t new.literals.items) pushed f.extends in
    let starts : new.starts.items ≡ trail.starts.items ++ length trail.literals.items ∷ [] = f.starts ∙ e.starts ∙ o.starts in
    let variables : length new.places.items ≡ n = c.propagate.ensures.variables ∙ c.push.ensures.variables ∙ c.open_level.ensures.variables in
    let is_run : IsRun clauses new c.propagate.new.self = record {
      fits = subst (λ k. FitsVariables k clauses) (sym variables) run.fits;
      has_reasons = f.reasons_kept;
      watched = f.watched;
      known = c.propagate.ensures.known ∙ run.known;
    } in
    record {
      run = is_run;
      handled = f.handled c.in-None.is;
      quiet = subst (IsOutcome clauses new.literals.items) c.in-None.is f.outcome;
      started = started_open trail.starts.items trail.literals.items new.literals.items (opposite x) new.starts.items c.requires.run.started starts extends;
    }

pub returns-in-Some-clause-refuted : goal.returns-in-Some-clause-refuted
returns-in-Some-clause-refuted c assumed is decided =
    let clauses : List (List ℤ) = literal_lists c.args.clauses.now.list.items ++ results c.args.before.now in
    let trail = c.args.trail.now in
    let n : ℕ = length trail.places.items in
    let run = c.requires.run.run in
    let x : ℤ = c.args.literal in
    let fits : SFits w64 x = search rules in
    let fits_minus : SFits w64 (pos 0 -ℤ x) = fits_signed_from_abs w64 (pos 0 -ℤ x) (let e : variable_of (pos 0 -ℤ x) ≡ variable_of x = ap variable_of (zero_minus x) ∙ variable_of-opposite x in omega (arith, e, c.requires.in_range)) in
    let read : to_z w64 (of_z w64 (pos 0 -ℤ to_z w64 (of_z w64 x))) ≡ opposite x = negated_read x fits fits_minus in
    let e = c.in_ok-push.ensures in
    let o = c.in_ok-open_level.ensures in
    let new = c.propagate.new.trail in
    let f = c.in_ok-propagate.ensures in
    let pushed : c.push.new.self.literals.items ≡ trail.literals.items ++ opposite x ∷ [] = e.literals ∙ ap (λ m. c.open_level.new.self.literals.items ++ m ∷ []) read ∙ ap (λ t. t ++ opposite x ∷ []) o.literals in
    let extends : Extends (trail.literals.items ++ opposite x ∷ []) new.literals.items = subst (λ t. Extends t new.literals.items) pushed f.extends in
    let starts : new.starts.items ≡ trail.starts.items ++ length trail.literals.items ∷ [] = f.starts ∙ e.starts ∙ o.starts in
    let variables : length new.places.items ≡ n = c.propagate.ensures.variables ∙ c.push.ensures.variables ∙ c.open_level.ensures.variables in
    let is_run : IsRun clauses new c.propagate.new.self = record {
      fits = subst (λ k. FitsVariables k clauses) (sym variables) run.fits;
      has_reasons = f.reasons_kept;
      watched = f.watched;
      known = c.propagate.ensures.known ∙ run.known;
    } in
    let found = subst (IsOutcome clauses new.literals.items) c.in-Some.is f.outcome in
    false_refutes clauses new assumed f.reasons_kept (stays_decided x trail new c.requires.run.started starts extends assumed is decided) found.0 (contains_numbered clauses c.in-Some.field-0 found.0 found.1) found.2

pub returns-in-Some-clause-goes_on : goal.returns-in-Some-clause-goes_on
returns-in-Some-clause-goes_on c =
    let clauses : List (List ℤ) = literal_lists c.args.clauses.now.list.items ++ results c.args.before.now in
    let trail = c.args.trail.now in
    let n : ℕ = length trail.places.items in
    let run = c.requires.run.run in
    let x : ℤ = c.args.literal in
    let fits : SFits w64 x = search rules in
    let fits_minus : SFits w64 (pos 0 -ℤ x) = fits_signed_from_abs w64 (pos 0 -ℤ x) (let e : variable_of (pos 0 -ℤ x) ≡ variable_of x = ap variable_of (zero_minus x) ∙ variable_of-opposite x in omega (arith, e, c.requires.in_range)) in
    let read : to_z w64 (of_z w64 (pos 0 -ℤ to_z w64 (of_z w64 x))) ≡ opposite x = negated_read x fits fits_minus in
    let e = c.in_ok-push.ensures in
    let o = c.in_ok-open_level.ensures in
    let new = c.propagate.new.trail in
    let f = c.in_ok-propagate.ensures in
    let pushed : c.push.new.self.literals.items ≡ trail.literals.items ++ opposite x ∷ [] = e.literals ∙ ap (λ m. c.open_level.new.self.literals.items ++ m ∷ []) read ∙ ap (λ t. t ++ opposite x ∷ []) o.literals in
    let extends : Extends (trail.literals.items ++ opposite x ∷ []) new.literals.items = subst (λ t. Extends t new.literals.items) pushed f.extends in
    let starts : new.starts.items ≡ trail.starts.items ++ length trail.literals.items ∷ [] = f.starts ∙ e.starts ∙ o.starts in
    let variables : length new.places.items ≡ n = c.propagate.ensures.variables ∙ c.push.ensures.variables ∙ c.open_level.ensures.variables in
    goes_on_decided trail new (opposite x) c.propagate.new.self.head starts extends f.watched.starts_before

pub returns-in-None-clause-goes_on : goal.returns-in-None-clause-goes_on
returns-in-None-clause-goes_on c =
    let clauses : List (List ℤ) = literal_lists c.args.clauses.now.list.items ++ results c.args.before.now in
    let trail = c.args.trail.now in
    let n : ℕ = length trail.places.items in
    let run = c.requires.run.run in
    let x : ℤ = c.args.literal in
    let fits : SFits w64 x = search rules in
    let fits_minus : SFits w64 (pos 0 -ℤ x) = fits_signed_from_abs w64 (pos 0 -ℤ x) (let e : variable_of (pos 0 -ℤ x) ≡ variable_of x = ap variable_of (zero_minus x) ∙ variable_of-opposite x in omega (arith, e, c.requires.in_range)) in
    let read : to_z w64 (of_z w64 (pos 0 -ℤ to_z w64 (of_z w64 x))) ≡ opposite x = negated_read x fits fits_minus in
    let e = c.in_ok-push.ensures in
    let o = c.in_ok-open_level.ensures in
    let new = c.propagate.new.trail in
    let f = c.in_ok-propagate.ensures in
    let pushed : c.push.new.self.literals.items ≡ trail.literals.items ++ opposite x ∷ [] = e.literals ∙ ap (λ m. c.open_level.new.self.literals.items ++ m ∷ []) read ∙ ap (λ t. t ++ opposite x ∷ []) o.literals in
    let extends : Extends (trail.literals.items ++ opposite x ∷ []) new.literals.items = subst (λ t. Extends t new.literals.items) pushed f.extends in
    let starts : new.starts.items ≡ trail.starts.items ++ length trail.literals.items ∷ [] = f.starts ∙ e.starts ∙ o.starts in
    let variables : length new.places.items ≡ n = c.propagate.ensures.variables ∙ c.push.ensures.variables ∙ c.open_level.ensures.variables in
    goes_on_decided trail new (opposite x) c.propagate.new.self.head starts extends f.watched.starts_before
