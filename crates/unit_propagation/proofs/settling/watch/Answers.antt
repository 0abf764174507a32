use Rattle.std.proofs.Common.{rules, arith, refl, ◌≡◌, ◌<◌, ◌++◌, ◌∷◌, [], ◌∙◌, ap, ℕ, ℤ, w64, List, length, slice_index_or, slice_set, sym, subst, Some}
use Rattle.std.proofs.lemmas.Int.{to_z-of_z}
use mir.Val.{SFits, of_z, to_z}
use Rattle.clause_db.specs.Log.{literal_lists, results}
use Rattle.std.proofs.Math.ListN.{length-set}
use Rattle.unit_propagation.specs.Watching.{entries, code_of, IsWatched}
use Rattle.unit_propagation.proofs.Tables.{code_within, entries_length}
use Rattle.unit_propagation.proofs.VisitSteps.{member_fits, pair_of}
use Rattle.unit_propagation.proofs.SettleSteps.{watch_two, entered_is, entered}
use Rattle.unit_propagation.proofs.settling.watch.Goals as goal

pub code-place_of_first-requires : goal.code-place_of_first-requires
code-place_of_first-requires c =
    let clauses : List (List ℤ) = literal_lists c.args.clauses.now.list.items ++ results c.args.lines.now in
    let n : ℕ = length c.args.trail.now.places.items in
    let a : ℤ = c.args.first in
    let b : ℤ = c.args.second in
    let a_fits : SFits w64 a = search rules in
    let b_fits : SFits w64 b = search rules in
    let lists : List (List ℕ) = entries c.args.watches.now.lists.items in
    let low : c.args.index < length clauses = (let h = c.requires.within in let k = c.requires.watched.known in omega (arith, h, k)) in
    let tables = c.requires.watched.tables in
    let long = entries_length c.args.watches.now.lists.items in
    let a_low : code_of a < length c.args.watches.now.lists.items = (let at = code_within a n (member_fits n clauses c.args.index a c.requires.fits low c.requires.has_first).1 in omega (arith, at, tables, long)) in
    let b_low : code_of b < length c.args.watches.now.lists.items = (let at = code_within b n (member_fits n clauses c.args.index b c.requires.fits low c.requires.has_second).1 in omega (arith, at, tables, long)) in
    let view = ap length c.deref.ensures.value in
    subst (λ m. code_of m < length c.deref.result.now) (sym (to_z-of_z w64 _ a_fits)) (omega (arith, a_low, view))

pub enter-requires : goal.enter-requires
enter-requires c =
    let clauses : List (List ℤ) = literal_lists c.args.clauses.now.list.items ++ results c.args.lines.now in
    let n : ℕ = length c.args.trail.now.places.items in
    let a : ℤ = c.args.first in
    let b : ℤ = c.args.second in
    let a_fits : SFits w64 a = search rules in
    let b_fits : SFits w64 b = search rules in
    let lists : List (List ℕ) = entries c.args.watches.now.lists.items in
    let low : c.args.index < length clauses = (let h = c.requires.within in let k = c.requires.watched.known in omega (arith, h, k)) in
    let tables = c.requires.watched.tables in
    let long = entries_length c.args.watches.now.lists.items in
    let a_low : code_of a < length c.args.watches.now.lists.items = (let at = code_within a n (member_fits n clauses c.args.index a c.requires.fits low c.requires.has_first).1 in omega (arith, at, tables, long)) in
    let b_low : code_of b < length c.args.watches.now.lists.items = (let at = code_within b n (member_fits n clauses c.args.index b c.requires.fits low c.requires.has_second).1 in omega (arith, at, tables, long)) in
    let a_code : c.code-place_of_first.result ≡ code_of a = c.code-place_of_first.ensures ∙ ap code_of (to_z-of_z w64 _ a_fits) in
    let fine : c.code-place_of_first.result < length c.args.watches.now.lists.items = omega (arith, a_code, a_low) in
    fine

pub code-place_of_second-requires : goal.code-place_of_second-requires
code-place_of_second-requires c =
    let clauses : List (List ℤ) = literal_lists c.args.clauses.now.list.items ++ results c.args.lines.now in
    let n : ℕ = length c.args.trail.now.places.items in
    let a : ℤ = c.args.first in
    let b : ℤ = c.args.second in
    let a_fits : SFits w64 a = search rules in
    let b_fits : SFits w64 b = search rules in
    let lists : List (List ℕ) = entries c.args.watches.now.lists.items in
    let low : c.args.index < length clauses = (let h = c.requires.within in let k = c.requires.watched.known in omega (arith, h, k)) in
    let tables = c.requires.watched.tables in
    let long = entries_length c.args.watches.now.lists.items in
    let a_low : code_of a < length c.args.watches.now.lists.items = (let at = code_within a n (member_fits n clauses c.args.index a c.requires.fits low c.requires.has_first).1 in omega (arith, at, tables, long)) in
    let b_low : code_of b < length c.args.watches.now.lists.items = (let at = code_within b n (member_fits n clauses c.args.index b c.requires.fits low c.requires.has_second).1 in omega (arith, at, tables, long)) in
    let mid_long : length c.enter.new.lists.items ≡ length c.args.watches.now.lists.items = (let x = entries_length c.enter.new.lists.items in let y = ap length c.in_ok-enter.ensures in let z = length-set lists c.code-place_of_first.result (slice_index_or lists c.code-place_of_first.result [] ++ c.args.index ∷ []) in omega (arith, x, y, z, long)) in
    let view = ap length c.deref-2.ensures.value in
    subst (λ m. code_of m < length c.deref-2.result.now) (sym (to_z-of_z w64 _ b_fits)) (omega (arith, b_low, view, mid_long))

pub enter-requires-2 : goal.enter-requires-2
enter-requires-2 c =
    let clauses : List (List ℤ) = literal_lists c.args.clauses.now.list.items ++ results c.args.lines.now in
    let n : ℕ = length c.args.trail.now.places.items in
    let a : ℤ = c.args.first in
    let b : ℤ = c.args.second in
    let a_fits : SFits w64 a = search rules in
    let b_fits : SFits w64 b = search rules in
    let lists : List (List ℕ) = entries c.args.watches.now.lists.items in
    let low : c.args.index < length clauses = (let h = c.requires.within in let k = c.requires.watched.known in omega (arith, h, k)) in
    let tables = c.requires.watched.tables in
    let long = entries_length c.args.watches.now.lists.items in
    let a_low : code_of a < length c.args.watches.now.lists.items = (let at = code_within a n (member_fits n clauses c.args.index a c.requires.fits low c.requires.has_first).1 in omega (arith, at, tables, long)) in
    let b_low : code_of b < length c.args.watches.now.lists.items = (let at = code_within b n (member_fits n clauses c.args.index b c.requires.fits low c.requires.has_second).1 in omega (arith, at, tables, long)) in
    let mid_long : length c.enter.new.lists.items ≡ length c.args.watches.now.lists.items = (let x = entries_length c.enter.new.lists.items in let y = ap length c.in_ok-enter.ensures in let z = length-set lists c.code-place_of_first.result (slice_index_or lists c.code-place_of_first.result [] ++ c.args.index ∷ []) in omega (arith, x, y, z, long)) in
    let b_code : c.code-place_of_second.result ≡ code_of b = c.code-place_of_second.ensures ∙ ap code_of (to_z-of_z w64 _ b_fits) in
    omega (arith, b_code, b_low, mid_long)

pub returns-clause-watched : goal.returns-clause-watched
returns-clause-watched c =
    let clauses : List (List ℤ) = literal_lists c.args.clauses.now.list.items ++ results c.args.lines.now in
    let n : ℕ = length c.args.trail.now.places.items in
    let a : ℤ = c.args.first in
    let b : ℤ = c.args.second in
    let a_fits : SFits w64 a = search rules in
    let b_fits : SFits w64 b = search rules in
    let lists : List (List ℕ) = entries c.args.watches.now.lists.items in
    let low : c.args.index < length clauses = (let h = c.requires.within in let k = c.requires.watched.known in omega (arith, h, k)) in
    let tables = c.requires.watched.tables in
    let long = entries_length c.args.watches.now.lists.items in
    let a_low : code_of a < length c.args.watches.now.lists.items = (let at = code_within a n (member_fits n clauses c.args.index a c.requires.fits low c.requires.has_first).1 in omega (arith, at, tables, long)) in
    let b_low : code_of b < length c.args.watches.now.lists.items = (let at = code_within b n (member_fits n clauses c.args.index b c.requires.fits low c.requires.has_second).1 in omega (arith, at, tables, long)) in
    let a_code : c.code-place_of_first.result ≡ code_of a = c.code-place_of_first.ensures ∙ ap code_of (to_z-of_z w64 _ a_fits) in
    let b_code : c.code-place_of_second.result ≡ code_of b = c.code-place_of_second.ensures ∙ ap code_of (to_z-of_z w64 _ b_fits) in
    let a_listed : code_of a < length lists = omega (arith, a_low, long) in
    let b_listed : code_of b < length lists = omega (arith, b_low, long) in
    let entered_a = entered_is lists lists (entries c.enter.new.lists.items) a c.args.index c.code-place_of_first.result refl a_code c.in_ok-enter.ensures in
    let entered_b = entered_is (entered lists a c.args.index) (entries c.enter.new.lists.items) (entries c.enter-2.new.lists.items) b c.args.index c.code-place_of_second.result entered_a b_code c.in_ok-enter-2.ensures in
    subst (λ p. IsWatched clauses c.args.trail.now.literals.items c.args.trail.now.starts.items n c.args.watches.now.head (slice_set c.args.watches.now.pairs.items c.args.index (Some p)) (entries c.enter-2.new.lists.items) c.args.watches.now.pending.items) (sym (ap (λ m. pair_of m (to_z w64 (of_z w64 b))) (to_z-of_z w64 _ a_fits) ∙ ap (pair_of a) (to_z-of_z w64 _ b_fits)))
    (subst (λ ls. IsWatched clauses c.args.trail.now.literals.items c.args.trail.now.starts.items n c.args.watches.now.head (slice_set c.args.watches.now.pairs.items c.args.index (Some (pair_of a b))) ls c.args.watches.now.pending.items) (sym entered_b)
    (watch_two clauses c.args.trail.now.literals.items c.args.trail.now.starts.items n c.args.watches.now.head c.args.watches.now.pairs.items lists c.args.watches.now.pending.items c.requires.watched c.args.index a b c.requires.within a_listed b_listed c.requires.has_first c.requires.has_second c.requires.differ c.requires.first_guarded c.requires.second_guarded))
