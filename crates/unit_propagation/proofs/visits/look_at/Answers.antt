use Rattle.std.proofs.Common.{rules, arith, ◌≡◌, ◌<◌, ◌++◌, ◌∙◌, ◌+◌, ℕ, w64, Option, ℤ, List, length, slice_index_or, sym, subst, Some, None, []}
use Rattle.std.specs.Prelude.{Contains}
use Rattle.std.proofs.lemmas.List.{get_or_read}
use Rattle.std.proofs.lemmas.Int.{to_z-of_z}
use mir.Val.{SFits}
use Rattle.clause_db.specs.Log.{literal_lists, results}
use Rattle.unit_propagation.specs.Watching.{entries, IsCovered, IsWatching}
use Rattle.unit_propagation.specs.declared.watches.Watched.{Watched}
use Rattle.unit_propagation.specs.Visiting.{IsLook}
use Rattle.unit_propagation.proofs.Fits.{fits_numbered}
use Rattle.unit_propagation.proofs.LookSteps.{numbered_at, look_at_from_look}
use Rattle.unit_propagation.proofs.visits.look_at.Goals as goal

pub look_by-requires-clause-fits : goal.look_by-requires-clause-fits
look_by-requires-clause-fits c =
    let n : ℕ = length c.args.trail.now.places.items in
    let f = fits_numbered n (c.args.index + 1) (literal_lists c.args.clauses.now.list.items ++ results c.args.lines.now) c.in-Some-clause_at.clause.now.literals.items c.requires.fits c.in-Some-clause_at.ensures.found in
    λ k d h. (f.1 k d h).1

pub look_by-requires-clause-has_first : goal.look_by-requires-clause-has_first
look_by-requires-clause-has_first c =
    let clauses : List (List ℤ) = literal_lists c.args.clauses.now.list.items ++ results c.args.lines.now in
    let pairs : List (Option Watched) = c.args.watches.now.pairs.items in
    let low : c.args.index < length pairs = omega (arith, c.if-index-len.false, c.len.ensures, c.args.watches.now.pairs.ok.0) in
    let pair : slice_index_or pairs c.args.index None ≡ Some c.in-Some.watched = sym (get_or_read pairs c.args.index c.index.result.now low c.index.ensures None) ∙ c.in-Some.is in
    let clause = numbered_at clauses c.args.index c.in-Some-clause_at.clause.now.literals.items c.in-Some-clause_at.ensures.found in
    let watching : IsWatching c.args.trail.now.literals.items c.args.trail.now.starts.items c.args.watches.now.head (entries c.args.watches.now.lists.items) c.args.index (slice_index_or clauses c.args.index []) c.in-Some.watched = subst (IsCovered c.args.trail.now.literals.items c.args.trail.now.starts.items c.args.watches.now.head (entries c.args.watches.now.lists.items) c.args.watches.now.pending.items c.args.index (slice_index_or clauses c.args.index [])) pair (c.requires.watched.each c.args.index low) in
    subst (λ xs. Contains xs c.in-Some.watched.first) (sym clause) watching.has_first

pub look_by-requires-clause-has_second : goal.look_by-requires-clause-has_second
look_by-requires-clause-has_second c =
    let clauses : List (List ℤ) = literal_lists c.args.clauses.now.list.items ++ results c.args.lines.now in
    let pairs : List (Option Watched) = c.args.watches.now.pairs.items in
    let low : c.args.index < length pairs = omega (arith, c.if-index-len.false, c.len.ensures, c.args.watches.now.pairs.ok.0) in
    let pair : slice_index_or pairs c.args.index None ≡ Some c.in-Some.watched = sym (get_or_read pairs c.args.index c.index.result.now low c.index.ensures None) ∙ c.in-Some.is in
    let clause = numbered_at clauses c.args.index c.in-Some-clause_at.clause.now.literals.items c.in-Some-clause_at.ensures.found in
    let watching : IsWatching c.args.trail.now.literals.items c.args.trail.now.starts.items c.args.watches.now.head (entries c.args.watches.now.lists.items) c.args.index (slice_index_or clauses c.args.index []) c.in-Some.watched = subst (IsCovered c.args.trail.now.literals.items c.args.trail.now.starts.items c.args.watches.now.head (entries c.args.watches.now.lists.items) c.args.watches.now.pending.items c.args.index (slice_index_or clauses c.args.index [])) pair (c.requires.watched.each c.args.index low) in
    subst (λ xs. Contains xs c.in-Some.watched.second) (sym clause) watching.has_second

pub returns-in-Some-clause_at : goal.returns-in-Some-clause_at
returns-in-Some-clause_at c =
    let fits : SFits w64 c.args.falsified = search rules in
    let clauses : List (List ℤ) = literal_lists c.args.clauses.now.list.items ++ results c.args.lines.now in
    let pairs : List (Option Watched) = c.args.watches.now.pairs.items in
    let low : c.args.index < length pairs = omega (arith, c.if-index-len.false, c.len.ensures, c.args.watches.now.pairs.ok.0) in
    let pair : slice_index_or pairs c.args.index None ≡ Some c.in-Some.watched = sym (get_or_read pairs c.args.index c.index.result.now low c.index.ensures None) ∙ c.in-Some.is in
    let clause = numbered_at clauses c.args.index c.in-Some-clause_at.clause.now.literals.items c.in-Some-clause_at.ensures.found in
    look_at_from_look clauses c.args.trail.now.literals.items pairs c.args.index c.args.falsified c.in-Some-clause_at.clause.now.literals.items c.in-Some.watched c.look_by.result low clause pair (subst (λ l. IsLook c.args.trail.now.literals.items c.in-Some-clause_at.clause.now.literals.items c.in-Some.watched l c.look_by.result) (to_z-of_z w64 _ fits) c.look_by.ensures)
