use Rattle.std.proofs.Common.{arith, ◌≡◌, ◌-◌, ◌++◌, ◌≤◌, length, ℕ, ℤ, List, sym, ◌∙◌, subst, slice_index, refl}
use Rattle.std.specs.Prelude.{All}
use Rattle.chain_resolution.specs.Marked.{marked}
use Rattle.chain_resolution.proofs.Tables.{marked_ordered}
use Rattle.clause_db.specs.Literal.{variable_of}
use Rattle.clause_db.specs.Log.{literal_lists, results}
use Rattle.clause_db.specs.Numbered.{IsNumbered}
use Rattle.clause_db.proofs.Places.{IsNumbered-same, contains_numbered}
use Rattle.unit_propagation.specs.Quiet.{IsFalseClause}
use Rattle.sat_search.specs.Learning.{last_start}
use Rattle.sat_search.proofs.Chain.{resolves_push}
use Rattle.sat_search.proofs.Behind.{opposite_of_mentioned, none_later_from, none_behind_trail, behind_quiet, one_behind_at, alone_at_last, empty_before_trail, reason_of_late}
use Rattle.sat_search.proofs.learning.resolve_back.Goals as goal

pub resolutions-init : goal.resolutions-init
resolutions-init c =
    let trail = c.args.trail.now in
    let places = trail.places.items in
    let clauses : List (List ℤ) = literal_lists c.args.clauses.now.list.items ++ results c.args.lines.now in
    let current : List ℤ = marked c.start.new.self.table.items in
    let is : c.requires.conflict.0 ≡ current = IsNumbered-same clauses c.args.conflict _ _ c.requires.conflict.1 c.in-Some.ensures.found ∙ sym c.in_ok-start.ensures in
    let numbered = subst (IsNumbered clauses c.args.conflict) is c.requires.conflict.1 in
    let all_false : IsFalseClause trail.literals.items current = subst (IsFalseClause trail.literals.items) is c.requires.conflict.2 in
    let from : ℕ = c.len.result in
    let long : from ≡ length trail.literals.items = omega (arith, c.len.ensures, trail.literals.ok.0) in
    let e = c.latest_up_to-last.ensures in
    let in_trail : All (λ m. slice_index places (variable_of m) ≤ from) current = subst (λ n. All (λ m. slice_index places (variable_of m) ≤ n) current) (sym long) (none_behind_trail trail.literals.items places trail.places_right current all_false) in
    record {
      chain = (current, numbered, rw c.new-pivots.ensures.items refl);
      all_false = all_false;
      within = omega (arith, e.within, long);
      none_later = none_later_from trail.literals.items places trail.places_right current from c.latest_up_to-last.result all_false in_trail e.none_between;
      stands = e.stands;
      behind = λ some. behind_quiet trail.literals.items places trail.places_right clauses current (last_start trail.starts.items) (c.requires.searching.quiet_before (length trail.starts.items - 1) (omega (arith, some))) (contains_numbered clauses c.args.conflict current numbered) all_false;
    }

pub resolve_last-requires-clause-reason : goal.resolve_last-requires-clause-reason
resolve_last-requires-clause-reason c =
    let trail = c.args.trail.now in
    let places = trail.places.items in
    let clauses : List (List ℤ) = literal_lists c.args.clauses.now.list.items ++ results c.args.lines.now in
    let current : List ℤ = marked c.resolutions.marks.table.items in
    let i = c.resolutions.invariant in
    let last : ℕ = c.resolutions.last in
    reason_of_late trail.literals.items places trail.places_right clauses trail.starts.items trail.reasons.items c.level_bound-bound.result last c.requires.searching.has_reasons trail.starts_right c.level_bound-bound.ensures.last (omega (arith, c.resolutions-test.true)) i.within

pub resolve_last-requires-clause-has_last : goal.resolve_last-requires-clause-has_last
resolve_last-requires-clause-has_last c =
    let trail = c.args.trail.now in
    let places = trail.places.items in
    let clauses : List (List ℤ) = literal_lists c.args.clauses.now.list.items ++ results c.args.lines.now in
    let current : List ℤ = marked c.resolutions.marks.table.items in
    let i = c.resolutions.invariant in
    let last : ℕ = c.resolutions.last in
    opposite_of_mentioned trail.literals.items places trail.places_right current i.all_false (last - 1) (omega (arith, i.within, c.resolutions-test.true)) (i.stands (omega (arith, c.resolutions-test.true)))

pub resolutions-preserved : goal.resolutions-preserved
resolutions-preserved c =
    let trail = c.args.trail.now in
    let places = trail.places.items in
    let clauses : List (List ℤ) = literal_lists c.args.clauses.now.list.items ++ results c.args.lines.now in
    let current : List ℤ = marked c.resolutions.marks.table.items in
    let i = c.resolutions.invariant in
    let last : ℕ = c.resolutions.last in
    let new : List ℤ = marked c.resolve_last.new.marks.table.items in
    let e = c.in_ok-step.ensures in
    let l = c.latest_up_to-last-in-resolutions.ensures in
    let ordered = marked_ordered c.resolve_last.new.marks.table.items c.resolve_last.new.marks.at_variables in
    let earlier : All (λ m. slice_index places (variable_of m) ≤ last - 1) new = λ k d h. (let low = e.earlier k d h in omega (arith, low)) in
    record {
      chain = (i.chain.0, i.chain.1, rw c.in-Ok.ensures.items (resolves_push clauses i.chain.0 c.resolutions.pivots.items current (c.in_ok-step.step.pivot, c.in_ok-step.step.number) new i.chain.2 e.resolution ordered));
      all_false = e.still_false;
      within = omega (arith, l.within, i.within);
      none_later = none_later_from trail.literals.items places trail.places_right new (last - 1) c.latest_up_to-last-in-resolutions.result e.still_false earlier l.none_between;
      stands = l.stands;
      behind = λ some. e.still_behind (last_start trail.starts.items) (let b = c.level_bound-bound.ensures.last some in omega (arith, b, c.resolutions-test.true)) (c.requires.searching.quiet_before (length trail.starts.items - 1) (omega (arith, some)));
    }

pub returns-then-is_alone-clause-empty : goal.returns-then-is_alone-clause-empty
returns-then-is_alone-clause-empty c none =
    absurd (let b = c.level_bound-bound.ensures.none none in let s = c.is_alone.ensures.bounded c.if-is_alone.true in omega (arith, b, s))

pub returns-then-is_alone-clause-one_behind : goal.returns-then-is_alone-clause-one_behind
returns-then-is_alone-clause-one_behind c some =
    let trail = c.args.trail.now in
    let places = trail.places.items in
    let clauses : List (List ℤ) = literal_lists c.args.clauses.now.list.items ++ results c.args.lines.now in
    let current : List ℤ = marked c.resolutions.marks.table.items in
    let i = c.resolutions.invariant in
    let last : ℕ = c.resolutions.last in
    let bound = c.level_bound-bound.ensures.last some in
    let alone = c.is_alone.ensures.none c.if-is_alone.true in
    one_behind_at trail.literals.items places trail.places_right current (last_start trail.starts.items) last i.all_false (i.behind some) (alone_at_last trail.literals.items places trail.places_right current (last_start trail.starts.items) last i.all_false i.none_later (λ p high low. alone p (omega (arith, high, bound)) low))

pub returns-clause-empty : goal.returns-clause-empty
returns-clause-empty c none =
    let trail = c.args.trail.now in
    let places = trail.places.items in
    let clauses : List (List ℤ) = literal_lists c.args.clauses.now.list.items ++ results c.args.lines.now in
    let current : List ℤ = marked c.resolutions.marks.table.items in
    let i = c.resolutions.invariant in
    let last : ℕ = c.resolutions.last in
    let b = c.level_bound-bound.ensures.none none in
    empty_before_trail trail.literals.items places trail.places_right current i.all_false (λ k d h. let low = i.none_later k d h in omega (arith, low, b, c.resolutions-test.false))

pub returns-clause-one_behind : goal.returns-clause-one_behind
returns-clause-one_behind c some =
    let trail = c.args.trail.now in
    let places = trail.places.items in
    let clauses : List (List ℤ) = literal_lists c.args.clauses.now.list.items ++ results c.args.lines.now in
    let current : List ℤ = marked c.resolutions.marks.table.items in
    let i = c.resolutions.invariant in
    let last : ℕ = c.resolutions.last in
    let bound = c.level_bound-bound.ensures.last some in
    one_behind_at trail.literals.items places trail.places_right current (last_start trail.starts.items) last i.all_false (i.behind some) (alone_at_last trail.literals.items places trail.places_right current (last_start trail.starts.items) last i.all_false i.none_later (λ p high low. absurd (omega (arith, high, low, bound, c.resolutions-test.false))))
