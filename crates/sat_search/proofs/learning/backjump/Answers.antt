use Rattle.std.proofs.Common.{rules, arith, ◌≡◌, ◌+◌, ◌-◌, ◌++◌, ◌<◌, length, ℤ, pos, ◌-ℤ◌, List, ap, sym, ◌∙◌, w64, subst, slice_index, take, min, ℕ, length-append}
use Rattle.std.proofs.lemmas.Int.{fits_signed_from_abs}
use Rattle.std.proofs.lemmas.List.{get_or_read, length-map}
use mir.Val.{SFits, of_z, to_z}
use Rattle.clause_db.specs.Literal.{variable_of, opposite}
use Rattle.clause_db.specs.Log.{literal_lists, results}
use Rattle.clause_db.proofs.Ordered.{variable_of-opposite}
use Rattle.unit_propagation.specs.Places.{literal_at}
use Rattle.unit_propagation.specs.Truth.{IsFree}
use Rattle.unit_propagation.specs.Watching.{entries}
use Rattle.unit_propagation.proofs.SettleSteps.{watched-push}
use Rattle.unit_propagation.proofs.Watchings.{watched_cut}
use Rattle.unit_propagation.proofs.Handled.{zero_minus, negated_read}
use Rattle.sat_search.proofs.Levels.{last_within}
use Rattle.sat_search.proofs.Backjump.{asserted_free, asserted_fits, searching_after, level_below}
use Rattle.sat_search.proofs.learning.backjump.Goals as goal

pub push-requires-clause-positive : goal.push-requires-clause-positive
push-requires-clause-positive c =
    let trail = c.args.trail.now in
    let x : ℤ = c.index.result.now in
    let fits : SFits w64 x = search rules in
    let within = last_within trail.literals.items trail.places.items trail.places_right c.args.learnt.now.literals.items c.args.learnt.now.ordered c.requires.all_false c.args.latest.last c.args.latest.second c.requires.latest in
    let is : x ≡ literal_at trail.literals.items (c.args.latest.last - 1) = get_or_read trail.literals.items (c.args.latest.last - 1) x (omega (arith, within, c.requires.after)) c.index.ensures (pos 0) in
    let has_place = trail.places_right.of_literal (c.args.latest.last - 1) (omega (arith, within, c.requires.after)) in
    let small = trail.places.small in
    let fits_minus : SFits w64 (pos 0 -ℤ x) = fits_signed_from_abs w64 (pos 0 -ℤ x) (let e : variable_of (pos 0 -ℤ x) ≡ variable_of (literal_at trail.literals.items (c.args.latest.last - 1)) = ap variable_of (zero_minus x) ∙ variable_of-opposite x ∙ ap variable_of is in omega (arith, e, has_place.1, small, trail.places.ok.0, trail.places.ok.1)) in
    let read : to_z w64 (of_z w64 (pos 0 -ℤ to_z w64 (of_z w64 x))) ≡ opposite (literal_at trail.literals.items (c.args.latest.last - 1)) = negated_read x fits fits_minus ∙ ap opposite is in
    let clauses : List (List ℤ) = literal_lists c.args.clauses.now.list.items ++ results c.args.lines.now in
    subst (λ l. 0 < variable_of l) (sym read) (asserted_fits trail.literals.items trail.places.items trail.places_right trail.starts.items trail.starts_right clauses trail.reasons.items c.requires.searching c.args.learnt.now.literals.items c.args.learnt.now.ordered c.requires.all_false c.args.latest.last c.args.latest.second c.requires.latest c.requires.decided c.requires.after c.requires.before c.level_after-level.result c.level_after-level.ensures).0

pub push-requires-clause-within : goal.push-requires-clause-within
push-requires-clause-within c =
    let trail = c.args.trail.now in
    let x : ℤ = c.index.result.now in
    let fits : SFits w64 x = search rules in
    let within = last_within trail.literals.items trail.places.items trail.places_right c.args.learnt.now.literals.items c.args.learnt.now.ordered c.requires.all_false c.args.latest.last c.args.latest.second c.requires.latest in
    let is : x ≡ literal_at trail.literals.items (c.args.latest.last - 1) = get_or_read trail.literals.items (c.args.latest.last - 1) x (omega (arith, within, c.requires.after)) c.index.ensures (pos 0) in
    let has_place = trail.places_right.of_literal (c.args.latest.last - 1) (omega (arith, within, c.requires.after)) in
    let small = trail.places.small in
    let fits_minus : SFits w64 (pos 0 -ℤ x) = fits_signed_from_abs w64 (pos 0 -ℤ x) (let e : variable_of (pos 0 -ℤ x) ≡ variable_of (literal_at trail.literals.items (c.args.latest.last - 1)) = ap variable_of (zero_minus x) ∙ variable_of-opposite x ∙ ap variable_of is in omega (arith, e, has_place.1, small, trail.places.ok.0, trail.places.ok.1)) in
    let read : to_z w64 (of_z w64 (pos 0 -ℤ to_z w64 (of_z w64 x))) ≡ opposite (literal_at trail.literals.items (c.args.latest.last - 1)) = negated_read x fits fits_minus ∙ ap opposite is in
    let clauses : List (List ℤ) = literal_lists c.args.clauses.now.list.items ++ results c.args.lines.now in
    let below = subst (λ l. variable_of l < length trail.places.items) (sym read) (asserted_fits trail.literals.items trail.places.items trail.places_right trail.starts.items trail.starts_right clauses trail.reasons.items c.requires.searching c.args.learnt.now.literals.items c.args.learnt.now.ordered c.requires.all_false c.args.latest.last c.args.latest.second c.requires.latest c.requires.decided c.requires.after c.requires.before c.level_after-level.result c.level_after-level.ensures).1 in
    omega (arith, below, c.cut.ensures.variables)

pub push-requires-clause-free : goal.push-requires-clause-free
push-requires-clause-free c =
    let trail = c.args.trail.now in
    let x : ℤ = c.index.result.now in
    let fits : SFits w64 x = search rules in
    let within = last_within trail.literals.items trail.places.items trail.places_right c.args.learnt.now.literals.items c.args.learnt.now.ordered c.requires.all_false c.args.latest.last c.args.latest.second c.requires.latest in
    let is : x ≡ literal_at trail.literals.items (c.args.latest.last - 1) = get_or_read trail.literals.items (c.args.latest.last - 1) x (omega (arith, within, c.requires.after)) c.index.ensures (pos 0) in
    let has_place = trail.places_right.of_literal (c.args.latest.last - 1) (omega (arith, within, c.requires.after)) in
    let small = trail.places.small in
    let fits_minus : SFits w64 (pos 0 -ℤ x) = fits_signed_from_abs w64 (pos 0 -ℤ x) (let e : variable_of (pos 0 -ℤ x) ≡ variable_of (literal_at trail.literals.items (c.args.latest.last - 1)) = ap variable_of (zero_minus x) ∙ variable_of-opposite x ∙ ap variable_of is in omega (arith, e, has_place.1, small, trail.places.ok.0, trail.places.ok.1)) in
    let read : to_z w64 (of_z w64 (pos 0 -ℤ to_z w64 (of_z w64 x))) ≡ opposite (literal_at trail.literals.items (c.args.latest.last - 1)) = negated_read x fits fits_minus ∙ ap opposite is in
    let clauses : List (List ℤ) = literal_lists c.args.clauses.now.list.items ++ results c.args.lines.now in
    subst (λ t. IsFree t (to_z w64 (of_z w64 (pos 0 -ℤ to_z w64 (of_z w64 x))))) (sym c.cut.ensures.literals)
    (subst (IsFree (take (slice_index trail.starts.items c.level_after-level.result) trail.literals.items)) (sym read) (asserted_free trail.literals.items trail.places.items trail.places_right trail.starts.items trail.starts_right clauses trail.reasons.items c.requires.searching c.args.learnt.now.literals.items c.args.learnt.now.ordered c.requires.all_false c.args.latest.last c.args.latest.second c.requires.latest c.requires.decided c.requires.after c.requires.before c.level_after-level.result c.level_after-level.ensures))

pub returns-clause-searching : goal.returns-clause-searching
returns-clause-searching c =
    let trail = c.args.trail.now in
    let x : ℤ = c.index.result.now in
    let fits : SFits w64 x = search rules in
    let within = last_within trail.literals.items trail.places.items trail.places_right c.args.learnt.now.literals.items c.args.learnt.now.ordered c.requires.all_false c.args.latest.last c.args.latest.second c.requires.latest in
    let is : x ≡ literal_at trail.literals.items (c.args.latest.last - 1) = get_or_read trail.literals.items (c.args.latest.last - 1) x (omega (arith, within, c.requires.after)) c.index.ensures (pos 0) in
    let has_place = trail.places_right.of_literal (c.args.latest.last - 1) (omega (arith, within, c.requires.after)) in
    let small = trail.places.small in
    let fits_minus : SFits w64 (pos 0 -ℤ x) = fits_signed_from_abs w64 (pos 0 -ℤ x) (let e : variable_of (pos 0 -ℤ x) ≡ variable_of (literal_at trail.literals.items (c.args.latest.last - 1)) = ap variable_of (zero_minus x) ∙ variable_of-opposite x ∙ ap variable_of is in omega (arith, e, has_place.1, small, trail.places.ok.0, trail.places.ok.1)) in
    let read : to_z w64 (of_z w64 (pos 0 -ℤ to_z w64 (of_z w64 x))) ≡ opposite (literal_at trail.literals.items (c.args.latest.last - 1)) = negated_read x fits fits_minus ∙ ap opposite is in
    let clauses : List (List ℤ) = literal_lists c.args.clauses.now.list.items ++ results c.args.lines.now in
    let number : c.len.result + length c.args.lines.now + 1 ≡ length clauses + 1 = simp (length-append, length-map) (omega (arith, c.len.ensures, c.args.clauses.now.list.ok.0)) in
    let e = c.in_ok-push.ensures in
    rw (e.literals, e.reasons, e.starts, c.cut.ensures.literals, c.cut.ensures.reasons, c.cut.ensures.starts, read, number) (searching_after trail.literals.items trail.places.items trail.places_right trail.starts.items trail.starts_right clauses trail.reasons.items c.requires.searching c.args.learnt.now.literals.items c.args.learnt.now.ordered c.requires.all_false c.args.latest.last c.args.latest.second c.requires.latest c.requires.decided c.requires.after c.requires.before c.level_after-level.result c.level_after-level.ensures trail.same_variables)

pub returns-clause-watched : goal.returns-clause-watched
returns-clause-watched c =
    let trail = c.args.trail.now in
    let w = c.args.watches.now in
    let clauses : List (List ℤ) = literal_lists c.args.clauses.now.list.items ++ results c.args.lines.now in
    let n : ℕ = length trail.places.items in
    let level : ℕ = c.level_after-level.result in
    let e = c.in_ok-push.ensures in
    let low = level_below trail.literals.items trail.places.items trail.places_right trail.starts.items trail.starts_right clauses trail.reasons.items c.requires.searching c.args.learnt.now.literals.items c.args.learnt.now.ordered c.requires.all_false c.args.latest.last c.args.latest.second c.requires.latest c.requires.decided c.requires.after c.requires.before c.level_after-level.result c.level_after-level.ensures in
    let r = c.rewind.ensures in
    rw (c.push.ensures.variables, c.cut.ensures.variables, r.head, r.pairs, r.lists, r.pending, e.literals, e.starts, c.cut.ensures.literals, c.cut.ensures.starts) (watched-push clauses (take (slice_index trail.starts.items level) trail.literals.items) (take level trail.starts.items) n (min w.head (length (take (slice_index trail.starts.items level) trail.literals.items))) w.pairs.items (entries w.lists.items) w.pending.items (watched_cut trail.literals.items trail.starts.items trail.starts_right level low clauses n w.head w.pairs.items (entries w.lists.items) w.pending.items c.requires.watched) _)
