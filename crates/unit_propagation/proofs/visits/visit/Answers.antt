use Rattle.std.proofs.Common.{rules, arith, ◌≡◌, ◌≢◌, ◌<◌, ◌++◌, ◌∷◌, [], ◌∙◌, ◌+◌, ap, ℕ, ℤ, w64, List, length, slice_index_or, slice_set, sym, subst, Some}
use Rattle.std.specs.Prelude.{Contains}
use Rattle.std.proofs.lemmas.Int.{to_z-of_z}
use mir.Val.{SFits, of_z, to_z}
use Rattle.clause_db.specs.Literal.{variable_of, opposite}
use Rattle.clause_db.specs.Log.{literal_lists, results}
use Rattle.clause_db.proofs.Ordered.{contains_at}
use Rattle.unit_propagation.specs.Watching.{entries, code_of, watching}
use Rattle.unit_propagation.specs.Visiting.{IsVisiting, IsLookAt}
use Rattle.unit_propagation.specs.declared.visits.Look.TheVariants.{Keeps, Moves}
use Rattle.std.proofs.Math.ListN.{length-set}
use Rattle.unit_propagation.proofs.Reasons.{reasons_forced}
use Rattle.unit_propagation.proofs.Tables.{code_within, entries_length}
use Rattle.unit_propagation.proofs.VisitSteps.{watched_at, visit_keeps, visit_forces, visit_moves, visit_moves_nearer, moved_is, still_listed, member_fits, numbered_here, falsified_fits, pair_of, moved_lists}
use Rattle.unit_propagation.proofs.visits.visit.Goals as goal

pub code-place_of_second-requires : goal.code-place_of_second-requires
code-place_of_second-requires c =
    let clauses : List (List ℤ) = literal_lists c.args.clauses.now.list.items ++ results c.args.lines.now in
    let n : ℕ = length c.args.trail.now.places.items in
    let v = c.requires.visiting in
    let a : ℤ = c.in-Moves.first in
    let b : ℤ = c.in-Moves.second in
    let l : ℤ = c.args.falsified in
    let a_fits : SFits w64 a = search rules in
    let b_fits : SFits w64 b = search rules in
    let l_fits : SFits w64 l = search rules in
    let moves = subst (λ m. IsLookAt clauses c.args.trail.now.literals.items c.args.watches.now.pairs.items c.args.index m (Moves a b)) (to_z-of_z w64 _ l_fits) c.in-Moves.ensures in
    let low : c.args.index < length clauses = (let h = moves.0 in let k = v.known in omega (arith, h, k)) in
    let b_low : variable_of b < n = (member_fits n clauses c.args.index b c.requires.fits low moves.2).1 in
    let l_low : variable_of l < n = falsified_fits c.args.trail.now.literals.items c.args.trail.now.places.items c.args.watches.now.head l c.args.trail.now.places_right v.head_within v.falsified in
    let at = code_within b n b_low in
    let long = entries_length c.args.watches.now.lists.items in
    let tables = v.tables in
    let view = ap length c.deref.ensures.value in
    subst (λ m. code_of m < length c.deref.result.now) (sym (to_z-of_z w64 _ b_fits)) (omega (arith, at, long, tables, view))

pub code-place_of_falsified-requires : goal.code-place_of_falsified-requires
code-place_of_falsified-requires c =
    let clauses : List (List ℤ) = literal_lists c.args.clauses.now.list.items ++ results c.args.lines.now in
    let n : ℕ = length c.args.trail.now.places.items in
    let v = c.requires.visiting in
    let a : ℤ = c.in-Moves.first in
    let b : ℤ = c.in-Moves.second in
    let l : ℤ = c.args.falsified in
    let a_fits : SFits w64 a = search rules in
    let b_fits : SFits w64 b = search rules in
    let l_fits : SFits w64 l = search rules in
    let moves = subst (λ m. IsLookAt clauses c.args.trail.now.literals.items c.args.watches.now.pairs.items c.args.index m (Moves a b)) (to_z-of_z w64 _ l_fits) c.in-Moves.ensures in
    let low : c.args.index < length clauses = (let h = moves.0 in let k = v.known in omega (arith, h, k)) in
    let b_low : variable_of b < n = (member_fits n clauses c.args.index b c.requires.fits low moves.2).1 in
    let l_low : variable_of l < n = falsified_fits c.args.trail.now.literals.items c.args.trail.now.places.items c.args.watches.now.head l c.args.trail.now.places_right v.head_within v.falsified in
    let at = code_within l n l_low in
    let long = entries_length c.args.watches.now.lists.items in
    let new_long = entries_length c.enter.new.lists.items in
    let same = ap length c.in_ok-enter-in-Moves.ensures in
    let lists : List (List ℕ) = entries c.args.watches.now.lists.items in
    let set_long = length-set lists c.code-place_of_second.result (slice_index_or lists c.code-place_of_second.result [] ++ c.args.index ∷ []) in
    let tables = v.tables in
    let view = ap length c.deref-in-Moves.ensures.value in
    subst (λ m. code_of m < length c.deref-in-Moves.result.now) (sym (to_z-of_z w64 _ l_fits)) (omega (arith, at, long, tables, view, new_long, same, set_long))

pub enter-requires : goal.enter-requires
enter-requires c =
    let clauses : List (List ℤ) = literal_lists c.args.clauses.now.list.items ++ results c.args.lines.now in
    let n : ℕ = length c.args.trail.now.places.items in
    let v = c.requires.visiting in
    let a : ℤ = c.in-Moves.first in
    let b : ℤ = c.in-Moves.second in
    let l : ℤ = c.args.falsified in
    let a_fits : SFits w64 a = search rules in
    let b_fits : SFits w64 b = search rules in
    let l_fits : SFits w64 l = search rules in
    let moves = subst (λ m. IsLookAt clauses c.args.trail.now.literals.items c.args.watches.now.pairs.items c.args.index m (Moves a b)) (to_z-of_z w64 _ l_fits) c.in-Moves.ensures in
    let low : c.args.index < length clauses = (let h = moves.0 in let k = v.known in omega (arith, h, k)) in
    let b_low : variable_of b < n = (member_fits n clauses c.args.index b c.requires.fits low moves.2).1 in
    let l_low : variable_of l < n = falsified_fits c.args.trail.now.literals.items c.args.trail.now.places.items c.args.watches.now.head l c.args.trail.now.places_right v.head_within v.falsified in
    let lists : List (List ℕ) = entries c.args.watches.now.lists.items in
    let b_code : c.code-place_of_second.result ≡ code_of b = c.code-place_of_second.ensures ∙ ap code_of (to_z-of_z w64 _ b_fits) in
    let at = code_within b n b_low in
    let long = entries_length c.args.watches.now.lists.items in
    let tables = v.tables in
    omega (arith, b_code, at, long, tables)

pub leave-requires-clause-within : goal.leave-requires-clause-within
leave-requires-clause-within c =
    let clauses : List (List ℤ) = literal_lists c.args.clauses.now.list.items ++ results c.args.lines.now in
    let n : ℕ = length c.args.trail.now.places.items in
    let v = c.requires.visiting in
    let a : ℤ = c.in-Moves.first in
    let b : ℤ = c.in-Moves.second in
    let l : ℤ = c.args.falsified in
    let a_fits : SFits w64 a = search rules in
    let b_fits : SFits w64 b = search rules in
    let l_fits : SFits w64 l = search rules in
    let moves = subst (λ m. IsLookAt clauses c.args.trail.now.literals.items c.args.watches.now.pairs.items c.args.index m (Moves a b)) (to_z-of_z w64 _ l_fits) c.in-Moves.ensures in
    let low : c.args.index < length clauses = (let h = moves.0 in let k = v.known in omega (arith, h, k)) in
    let b_low : variable_of b < n = (member_fits n clauses c.args.index b c.requires.fits low moves.2).1 in
    let l_low : variable_of l < n = falsified_fits c.args.trail.now.literals.items c.args.trail.now.places.items c.args.watches.now.head l c.args.trail.now.places_right v.head_within v.falsified in
    let lists : List (List ℕ) = entries c.args.watches.now.lists.items in
    let b_code : c.code-place_of_second.result ≡ code_of b = c.code-place_of_second.ensures ∙ ap code_of (to_z-of_z w64 _ b_fits) in
    let l_code : c.code-place_of_falsified.result ≡ code_of l = c.code-place_of_falsified.ensures ∙ ap code_of (to_z-of_z w64 _ l_fits) in
    let apart : b ≢ l = (λ e. moves.4 (subst (Contains c.args.trail.now.literals.items) (v.falsified ∙ ap opposite (sym e)) (contains_at c.args.trail.now.literals.items c.args.watches.now.head v.head_within))) in
    let at = code_within l n l_low in
    let new_long = entries_length c.enter.new.lists.items in
    let same = ap length c.in_ok-enter-in-Moves.ensures in
    let set_long = length-set lists c.code-place_of_second.result (slice_index_or lists c.code-place_of_second.result [] ++ c.args.index ∷ []) in
    let tables = v.tables in
    omega (arith, l_code, at, new_long, same, set_long, tables)

pub leave-requires-clause-in_list : goal.leave-requires-clause-in_list
leave-requires-clause-in_list c =
    let clauses : List (List ℤ) = literal_lists c.args.clauses.now.list.items ++ results c.args.lines.now in
    let n : ℕ = length c.args.trail.now.places.items in
    let v = c.requires.visiting in
    let a : ℤ = c.in-Moves.first in
    let b : ℤ = c.in-Moves.second in
    let l : ℤ = c.args.falsified in
    let a_fits : SFits w64 a = search rules in
    let b_fits : SFits w64 b = search rules in
    let l_fits : SFits w64 l = search rules in
    let moves = subst (λ m. IsLookAt clauses c.args.trail.now.literals.items c.args.watches.now.pairs.items c.args.index m (Moves a b)) (to_z-of_z w64 _ l_fits) c.in-Moves.ensures in
    let low : c.args.index < length clauses = (let h = moves.0 in let k = v.known in omega (arith, h, k)) in
    let b_low : variable_of b < n = (member_fits n clauses c.args.index b c.requires.fits low moves.2).1 in
    let l_low : variable_of l < n = falsified_fits c.args.trail.now.literals.items c.args.trail.now.places.items c.args.watches.now.head l c.args.trail.now.places_right v.head_within v.falsified in
    let lists : List (List ℕ) = entries c.args.watches.now.lists.items in
    let b_code : c.code-place_of_second.result ≡ code_of b = c.code-place_of_second.ensures ∙ ap code_of (to_z-of_z w64 _ b_fits) in
    let l_code : c.code-place_of_falsified.result ≡ code_of l = c.code-place_of_falsified.ensures ∙ ap code_of (to_z-of_z w64 _ l_fits) in
    let apart : b ≢ l = (λ e. moves.4 (subst (Contains c.args.trail.now.literals.items) (v.falsified ∙ ap opposite (sym e)) (contains_at c.args.trail.now.literals.items c.args.watches.now.head v.head_within))) in
    still_listed lists (entries c.enter.new.lists.items) b l c.args.place c.args.index c.code-place_of_second.result c.code-place_of_falsified.result b_code l_code (let at = code_within b n b_low in let tables = v.tables in omega (arith, at, tables)) apart c.in_ok-enter-in-Moves.ensures c.requires.within

pub push-requires-clause-positive : goal.push-requires-clause-positive
push-requires-clause-positive c =
    let clauses : List (List ℤ) = literal_lists c.args.clauses.now.list.items ++ results c.args.lines.now in
    let l : ℤ = c.in-Forces.literal in
    let fits : SFits w64 l = search rules in
    let low : c.args.index < length clauses = (let a = c.in-Forces.ensures.0 in let b = c.requires.visiting.known in omega (arith, a, b)) in
    subst (λ m. 0 < variable_of m) (sym (to_z-of_z w64 _ fits)) (member_fits (length c.args.trail.now.places.items) clauses c.args.index l c.requires.fits low c.in-Forces.ensures.1).0

pub push-requires-clause-within : goal.push-requires-clause-within
push-requires-clause-within c =
    let clauses : List (List ℤ) = literal_lists c.args.clauses.now.list.items ++ results c.args.lines.now in
    let l : ℤ = c.in-Forces.literal in
    let fits : SFits w64 l = search rules in
    let low : c.args.index < length clauses = (let a = c.in-Forces.ensures.0 in let b = c.requires.visiting.known in omega (arith, a, b)) in
    subst (λ m. variable_of m < length c.args.trail.now.places.items) (sym (to_z-of_z w64 _ fits)) (member_fits (length c.args.trail.now.places.items) clauses c.args.index l c.requires.fits low c.in-Forces.ensures.1).1

pub returns-in-Keeps-clause-step : goal.returns-in-Keeps-clause-step
returns-in-Keeps-clause-step c =
    let clauses : List (List ℤ) = literal_lists c.args.clauses.now.list.items ++ results c.args.lines.now in
    let fits : SFits w64 c.args.falsified = search rules in
    visit_keeps clauses c.args.trail.now.literals.items c.args.trail.now.starts.items (length c.args.trail.now.places.items) c.args.watches.now.head c.args.falsified c.args.place c.args.index c.args.watches.now.pairs.items (entries c.args.watches.now.lists.items) c.args.watches.now.pending.items c.requires.here (subst (λ l. IsLookAt clauses c.args.trail.now.literals.items c.args.watches.now.pairs.items c.args.index l Keeps) (to_z-of_z w64 _ fits) c.in-Keeps.ensures) c.requires.visiting

pub returns-in_ok-enter-in-Moves-clause-step : goal.returns-in_ok-enter-in-Moves-clause-step
returns-in_ok-enter-in-Moves-clause-step c =
    let clauses : List (List ℤ) = literal_lists c.args.clauses.now.list.items ++ results c.args.lines.now in
    let n : ℕ = length c.args.trail.now.places.items in
    let v = c.requires.visiting in
    let a : ℤ = c.in-Moves.first in
    let b : ℤ = c.in-Moves.second in
    let l : ℤ = c.args.falsified in
    let a_fits : SFits w64 a = search rules in
    let b_fits : SFits w64 b = search rules in
    let l_fits : SFits w64 l = search rules in
    let moves = subst (λ m. IsLookAt clauses c.args.trail.now.literals.items c.args.watches.now.pairs.items c.args.index m (Moves a b)) (to_z-of_z w64 _ l_fits) c.in-Moves.ensures in
    let low : c.args.index < length clauses = (let h = moves.0 in let k = v.known in omega (arith, h, k)) in
    let b_low : variable_of b < n = (member_fits n clauses c.args.index b c.requires.fits low moves.2).1 in
    let l_low : variable_of l < n = falsified_fits c.args.trail.now.literals.items c.args.trail.now.places.items c.args.watches.now.head l c.args.trail.now.places_right v.head_within v.falsified in
    let lists : List (List ℕ) = entries c.args.watches.now.lists.items in
    let b_code : c.code-place_of_second.result ≡ code_of b = c.code-place_of_second.ensures ∙ ap code_of (to_z-of_z w64 _ b_fits) in
    let l_code : c.code-place_of_falsified.result ≡ code_of l = c.code-place_of_falsified.ensures ∙ ap code_of (to_z-of_z w64 _ l_fits) in
    let apart : b ≢ l = (λ e. moves.4 (subst (Contains c.args.trail.now.literals.items) (v.falsified ∙ ap opposite (sym e)) (contains_at c.args.trail.now.literals.items c.args.watches.now.head v.head_within))) in
    let same_lists : entries c.leave.new.lists.items ≡ moved_lists lists b l c.args.place c.args.index = moved_is lists (entries c.enter.new.lists.items) (entries c.leave.new.lists.items) b l c.args.place c.args.index c.code-place_of_second.result c.code-place_of_falsified.result b_code l_code c.in_ok-enter-in-Moves.ensures c.leave.ensures in
    subst (λ p. IsVisiting clauses c.args.trail.now.literals.items c.args.trail.now.starts.items n c.args.watches.now.head l c.args.place (slice_set c.args.watches.now.pairs.items c.args.index (Some p)) (entries c.leave.new.lists.items) c.args.watches.now.pending.items) (sym (ap (λ m. pair_of m (to_z w64 (of_z w64 b))) (to_z-of_z w64 _ a_fits) ∙ ap (pair_of a) (to_z-of_z w64 _ b_fits)))
    (subst (λ ls. IsVisiting clauses c.args.trail.now.literals.items c.args.trail.now.starts.items n c.args.watches.now.head l c.args.place (slice_set c.args.watches.now.pairs.items c.args.index (Some (pair_of a b))) ls c.args.watches.now.pending.items) (sym same_lists)
    (visit_moves clauses c.args.trail.now.literals.items c.args.trail.now.starts.items n c.args.watches.now.head l c.args.place c.args.watches.now.pairs.items lists c.args.watches.now.pending.items v c.args.index c.requires.within c.requires.here a b b_low l_low moves.0 moves.1 moves.2 moves.3 moves.4))

pub returns-in_ok-enter-in-Moves-clause-nearer : goal.returns-in_ok-enter-in-Moves-clause-nearer
returns-in_ok-enter-in-Moves-clause-nearer c =
    let clauses : List (List ℤ) = literal_lists c.args.clauses.now.list.items ++ results c.args.lines.now in
    let n : ℕ = length c.args.trail.now.places.items in
    let v = c.requires.visiting in
    let a : ℤ = c.in-Moves.first in
    let b : ℤ = c.in-Moves.second in
    let l : ℤ = c.args.falsified in
    let a_fits : SFits w64 a = search rules in
    let b_fits : SFits w64 b = search rules in
    let l_fits : SFits w64 l = search rules in
    let moves = subst (λ m. IsLookAt clauses c.args.trail.now.literals.items c.args.watches.now.pairs.items c.args.index m (Moves a b)) (to_z-of_z w64 _ l_fits) c.in-Moves.ensures in
    let low : c.args.index < length clauses = (let h = moves.0 in let k = v.known in omega (arith, h, k)) in
    let b_low : variable_of b < n = (member_fits n clauses c.args.index b c.requires.fits low moves.2).1 in
    let l_low : variable_of l < n = falsified_fits c.args.trail.now.literals.items c.args.trail.now.places.items c.args.watches.now.head l c.args.trail.now.places_right v.head_within v.falsified in
    let lists : List (List ℕ) = entries c.args.watches.now.lists.items in
    let b_code : c.code-place_of_second.result ≡ code_of b = c.code-place_of_second.ensures ∙ ap code_of (to_z-of_z w64 _ b_fits) in
    let l_code : c.code-place_of_falsified.result ≡ code_of l = c.code-place_of_falsified.ensures ∙ ap code_of (to_z-of_z w64 _ l_fits) in
    let apart : b ≢ l = (λ e. moves.4 (subst (Contains c.args.trail.now.literals.items) (v.falsified ∙ ap opposite (sym e)) (contains_at c.args.trail.now.literals.items c.args.watches.now.head v.head_within))) in
    let same_lists : entries c.leave.new.lists.items ≡ moved_lists lists b l c.args.place c.args.index = moved_is lists (entries c.enter.new.lists.items) (entries c.leave.new.lists.items) b l c.args.place c.args.index c.code-place_of_second.result c.code-place_of_falsified.result b_code l_code c.in_ok-enter-in-Moves.ensures c.leave.ensures in
    let short = visit_moves_nearer clauses c.args.trail.now.literals.items c.args.trail.now.starts.items n c.args.watches.now.head l c.args.place c.args.watches.now.pairs.items lists c.args.watches.now.pending.items v c.args.index c.requires.within c.requires.here a b b_low l_low moves.0 moves.1 moves.2 moves.3 moves.4 in
    let same = ap (λ ls. length (watching ls l)) same_lists in
    (omega arith, omega (arith, short, same))

pub returns-in_ok-push-in-Forces-clause-reasons_kept : goal.returns-in_ok-push-in-Forces-clause-reasons_kept
returns-in_ok-push-in-Forces-clause-reasons_kept c =
    let clauses : List (List ℤ) = literal_lists c.args.clauses.now.list.items ++ results c.args.lines.now in
    let l : ℤ = c.in-Forces.literal in
    let fits : SFits w64 l = search rules in
    let same : to_z w64 (of_z w64 l) ≡ l = to_z-of_z w64 _ fits in
    let low : c.args.index < length clauses = (let a = c.in-Forces.ensures.0 in let b = c.requires.visiting.known in omega (arith, a, b)) in
    let below : variable_of l < length c.args.trail.now.places.items = (member_fits (length c.args.trail.now.places.items) clauses c.args.index l c.requires.fits low c.in-Forces.ensures.1).1 in
    rw (c.in_ok-push-in-Forces.ensures.literals, c.in_ok-push-in-Forces.ensures.reasons, c.in_ok-push-in-Forces.ensures.starts, same)
    (reasons_forced clauses c.args.trail.now.literals.items c.args.trail.now.starts.items c.args.trail.now.reasons.items c.requires.reasons l c.in-Forces.ensures.2 (c.args.index + 1) (slice_index_or clauses c.args.index []) (numbered_here clauses c.args.index low) c.in-Forces.ensures.1 c.in-Forces.ensures.3 (omega (arith, below, c.args.trail.now.same_variables)))

pub returns-in_ok-push-in-Forces-clause-step : goal.returns-in_ok-push-in-Forces-clause-step
returns-in_ok-push-in-Forces-clause-step c =
    let clauses : List (List ℤ) = literal_lists c.args.clauses.now.list.items ++ results c.args.lines.now in
    let l : ℤ = c.in-Forces.literal in
    let fits : SFits w64 l = search rules in
    let same : to_z w64 (of_z w64 l) ≡ l = to_z-of_z w64 _ fits in
    rw (c.in_ok-push-in-Forces.ensures.literals, c.in_ok-push-in-Forces.ensures.starts, c.push.ensures.variables, same)
    (visit_forces clauses c.args.trail.now.literals.items c.args.trail.now.starts.items (length c.args.trail.now.places.items) c.args.watches.now.head c.args.falsified l c.args.place c.args.index c.args.watches.now.pairs.items (entries c.args.watches.now.lists.items) c.args.watches.now.pending.items c.requires.here c.in-Forces.ensures.1 c.requires.visiting)

pub returns-in-Falsified-clause-step : goal.returns-in-Falsified-clause-step
returns-in-Falsified-clause-step c =
    let clauses : List (List ℤ) = literal_lists c.args.clauses.now.list.items ++ results c.args.lines.now in
    let low : c.args.index < length clauses = (let a = c.in-Falsified.ensures.0 in let b = c.requires.visiting.known in omega (arith, a, b)) in
    (watched_at clauses c.args.trail.now.literals.items c.args.trail.now.starts.items (length c.args.trail.now.places.items) c.args.watches.now.head c.args.falsified c.args.place c.args.watches.now.pairs.items (entries c.args.watches.now.lists.items) c.args.watches.now.pending.items c.requires.visiting, (slice_index_or clauses c.args.index [], numbered_here clauses c.args.index low, c.in-Falsified.ensures.1))
