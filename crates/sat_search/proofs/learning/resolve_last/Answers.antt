use Rattle.std.proofs.Common.{rules, arith, ◌-◌, ◌++◌, ◌<◌, [], length, ℕ, ℤ, List, w64}
use mir.Val.{SFits}
use Rattle.clause_db.specs.Log.{literal_lists, results}
use Rattle.clause_db.proofs.Places.{contains_numbered}
use Rattle.chain_resolution.specs.Marked.{marked}
use Rattle.sat_search.proofs.Reading.{variable_read, reason_read}
use Rattle.sat_search.proofs.Resolving.{clash_at_last, resolvent_false, resolvent_earlier}
use Rattle.sat_search.proofs.Behind.{resolvent_behind}
use Rattle.sat_search.proofs.learning.resolve_last.Goals as goal

pub resolve_at-requires : goal.resolve_at-requires
resolve_at-requires c =
    let trail = c.args.trail.now in
    let clauses : List (List ℤ) = literal_lists c.args.clauses.now.list.items ++ results c.args.lines.now in
    let fits : SFits w64 c.index.result.now = search rules in
    let p : ℕ = c.args.last - 1 in
    let in_trail : p < length trail.literals.items = omega (arith, c.requires.positive, c.requires.within) in
    let pivot = variable_read trail.literals.items p c.index.result.now c.variable-pivot.result in_trail c.index.ensures fits c.variable-pivot.ensures in
    let has_place = trail.places_right.of_literal p in_trail in
    let old : List ℤ = marked c.args.marks.now.table.items in
    let other : List ℤ = c.in-Some.other.now.literals.items in
    let reason = reason_read clauses trail.literals.items trail.reasons.items p c.variable-pivot.result c.index-number.result.now other (omega (arith, pivot, has_place.1, trail.same_variables)) pivot c.index-number.ensures c.requires.reason c.in-Some.ensures.found in
    let clash = clash_at_last trail.literals.items trail.places.items trail.places_right old other [] c.args.last c.requires.positive c.requires.within c.requires.all_false reason c.requires.has_last in
    record { clash = rw pivot clash }

pub returns-clause-resolution : goal.returns-clause-resolution
returns-clause-resolution c =
    let trail = c.args.trail.now in
    let clauses : List (List ℤ) = literal_lists c.args.clauses.now.list.items ++ results c.args.lines.now in
    let fits : SFits w64 c.index.result.now = search rules in
    let p : ℕ = c.args.last - 1 in
    let in_trail : p < length trail.literals.items = omega (arith, c.requires.positive, c.requires.within) in
    let pivot = variable_read trail.literals.items p c.index.result.now c.variable-pivot.result in_trail c.index.ensures fits c.variable-pivot.ensures in
    let has_place = trail.places_right.of_literal p in_trail in
    let old : List ℤ = marked c.args.marks.now.table.items in
    let other : List ℤ = c.in-Some.other.now.literals.items in
    let reason = reason_read clauses trail.literals.items trail.reasons.items p c.variable-pivot.result c.index-number.result.now other (omega (arith, pivot, has_place.1, trail.same_variables)) pivot c.index-number.ensures c.requires.reason c.in-Some.ensures.found in
    let clash = clash_at_last trail.literals.items trail.places.items trail.places_right old other [] c.args.last c.requires.positive c.requires.within c.requires.all_false reason c.requires.has_last in
    let new : List ℤ = marked c.resolve_at.new.self.table.items in
    record { other = other; numbered = c.in-Some.ensures.found; clash = rw pivot clash; resolvent = c.in_ok-resolve_at.ensures }

pub returns-clause-still_false : goal.returns-clause-still_false
returns-clause-still_false c =
    let trail = c.args.trail.now in
    let clauses : List (List ℤ) = literal_lists c.args.clauses.now.list.items ++ results c.args.lines.now in
    let fits : SFits w64 c.index.result.now = search rules in
    let p : ℕ = c.args.last - 1 in
    let in_trail : p < length trail.literals.items = omega (arith, c.requires.positive, c.requires.within) in
    let pivot = variable_read trail.literals.items p c.index.result.now c.variable-pivot.result in_trail c.index.ensures fits c.variable-pivot.ensures in
    let has_place = trail.places_right.of_literal p in_trail in
    let old : List ℤ = marked c.args.marks.now.table.items in
    let other : List ℤ = c.in-Some.other.now.literals.items in
    let reason = reason_read clauses trail.literals.items trail.reasons.items p c.variable-pivot.result c.index-number.result.now other (omega (arith, pivot, has_place.1, trail.same_variables)) pivot c.index-number.ensures c.requires.reason c.in-Some.ensures.found in
    let new : List ℤ = marked c.resolve_at.new.self.table.items in
    resolvent_false trail.literals.items trail.places.items trail.places_right old other new c.args.last c.requires.positive c.requires.within c.requires.all_false reason (rw (← pivot) c.in_ok-resolve_at.ensures)

pub returns-clause-earlier : goal.returns-clause-earlier
returns-clause-earlier c =
    let trail = c.args.trail.now in
    let clauses : List (List ℤ) = literal_lists c.args.clauses.now.list.items ++ results c.args.lines.now in
    let fits : SFits w64 c.index.result.now = search rules in
    let p : ℕ = c.args.last - 1 in
    let in_trail : p < length trail.literals.items = omega (arith, c.requires.positive, c.requires.within) in
    let pivot = variable_read trail.literals.items p c.index.result.now c.variable-pivot.result in_trail c.index.ensures fits c.variable-pivot.ensures in
    let has_place = trail.places_right.of_literal p in_trail in
    let old : List ℤ = marked c.args.marks.now.table.items in
    let other : List ℤ = c.in-Some.other.now.literals.items in
    let reason = reason_read clauses trail.literals.items trail.reasons.items p c.variable-pivot.result c.index-number.result.now other (omega (arith, pivot, has_place.1, trail.same_variables)) pivot c.index-number.ensures c.requires.reason c.in-Some.ensures.found in
    let new : List ℤ = marked c.resolve_at.new.self.table.items in
    resolvent_earlier trail.literals.items trail.places.items trail.places_right old other new c.args.last c.requires.positive c.requires.within c.requires.all_false reason c.requires.none_later (rw (← pivot) c.in_ok-resolve_at.ensures)

pub returns-clause-still_behind : goal.returns-clause-still_behind
returns-clause-still_behind c =
    let trail = c.args.trail.now in
    let clauses : List (List ℤ) = literal_lists c.args.clauses.now.list.items ++ results c.args.lines.now in
    let fits : SFits w64 c.index.result.now = search rules in
    let p : ℕ = c.args.last - 1 in
    let in_trail : p < length trail.literals.items = omega (arith, c.requires.positive, c.requires.within) in
    let pivot = variable_read trail.literals.items p c.index.result.now c.variable-pivot.result in_trail c.index.ensures fits c.variable-pivot.ensures in
    let has_place = trail.places_right.of_literal p in_trail in
    let old : List ℤ = marked c.args.marks.now.table.items in
    let other : List ℤ = c.in-Some.other.now.literals.items in
    let reason = reason_read clauses trail.literals.items trail.reasons.items p c.variable-pivot.result c.index-number.result.now other (omega (arith, pivot, has_place.1, trail.same_variables)) pivot c.index-number.ensures c.requires.reason c.in-Some.ensures.found in
    let new : List ℤ = marked c.resolve_at.new.self.table.items in
    λ start above quiet. resolvent_behind trail.literals.items trail.places.items trail.places_right clauses other start c.args.last quiet (contains_numbered clauses _ other c.in-Some.ensures.found) c.requires.within above reason old new (rw (← pivot) c.in_ok-resolve_at.ensures)
