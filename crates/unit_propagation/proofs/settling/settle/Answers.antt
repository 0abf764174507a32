use Rattle.std.proofs.Common.{rules, arith, ◌≡◌, ◌<◌, ◌++◌, ◌∷◌, [], ◌∙◌, ◌+◌, ap, pos, ℕ, ℤ, w64, List, length, slice_index_or, sym, subst}
use Rattle.std.specs.Prelude.{Contains, All}
use Rattle.std.proofs.lemmas.Int.{to_z-of_z}
use mir.Val.{SFits, of_z, to_z}
use Rattle.clause_db.specs.Literal.{variable_of}
use Rattle.clause_db.specs.Log.{literal_lists, results}
use Rattle.std.proofs.lemmas.List.{get_or_read}
use Rattle.clause_db.proofs.Ordered.{contains_at}
use Rattle.unit_propagation.specs.Places.{literal_at}
use Rattle.unit_propagation.specs.Quiet.{IsFalseClause}
use Rattle.unit_propagation.specs.Watching.{entries, IsGuarded, Holds}
use Rattle.unit_propagation.specs.Visiting.{OthersAreFalse}
use Rattle.unit_propagation.proofs.Reasons.{reasons_forced}
use Rattle.unit_propagation.proofs.Covers.{guarded_not_false, holds_from_contains}
use Rattle.unit_propagation.proofs.VisitSteps.{member_fits, numbered_here}
use Rattle.unit_propagation.proofs.SettleSteps.{true_not_false, guarded_late, watched-push, holds-push}
use Rattle.unit_propagation.proofs.settling.settle.Goals as goal

pub standing_of-requires-clause-fits : goal.standing_of-requires-clause-fits
standing_of-requires-clause-fits c =
    let clauses : List (List ℤ) = literal_lists c.args.clauses.now.list.items ++ results c.args.lines.now in
    let n : ℕ = length c.args.trail.now.places.items in
    let clause : List ℤ = slice_index_or clauses c.args.index [] in
    let low : c.args.index < length clauses = (let h = c.requires.within in let k = c.requires.watched.known in omega (arith, h, k)) in
    let is : c.deref.result.now ≡ clause = c.deref.ensures.value ∙ c.requires.here in
    subst (All (λ l. variable_of l < n)) (sym is) (λ k d h. ((c.requires.fits c.args.index [] low).1 k d h).1)

pub watch-requires-clause-has_second : goal.watch-requires-clause-has_second
watch-requires-clause-has_second c =
    let clauses : List (List ℤ) = literal_lists c.args.clauses.now.list.items ++ results c.args.lines.now in
    let n : ℕ = length c.args.trail.now.places.items in
    let clause : List ℤ = slice_index_or clauses c.args.index [] in
    let low : c.args.index < length clauses = (let h = c.requires.within in let k = c.requires.watched.known in omega (arith, h, k)) in
    let is : c.deref.result.now ≡ clause = c.deref.ensures.value ∙ c.requires.here in
    let b : ℤ = c.in-Two.second in
    let fits : SFits w64 b = search rules in
    subst (Contains clause) (sym (to_z-of_z w64 _ fits)) (subst (λ xs. Contains xs b) is c.in-Two.ensures.1)

pub partner-requires-clause-fits : goal.partner-requires-clause-fits
partner-requires-clause-fits c =
    let clauses : List (List ℤ) = literal_lists c.args.clauses.now.list.items ++ results c.args.lines.now in
    let n : ℕ = length c.args.trail.now.places.items in
    let clause : List ℤ = slice_index_or clauses c.args.index [] in
    let low : c.args.index < length clauses = (let h = c.requires.within in let k = c.requires.watched.known in omega (arith, h, k)) in
    let is : c.deref.result.now ≡ clause = c.deref.ensures.value ∙ c.requires.here in
    subst (All (λ l. variable_of l < n)) (sym (c.deref-in-OneTrue.ensures.value ∙ c.requires.here)) (λ k d h. ((c.requires.fits c.args.index [] low).1 k d h).1)

pub watch-requires-in-Some-clause-has_first : goal.watch-requires-in-Some-clause-has_first
watch-requires-in-Some-clause-has_first c =
    let clauses : List (List ℤ) = literal_lists c.args.clauses.now.list.items ++ results c.args.lines.now in
    let n : ℕ = length c.args.trail.now.places.items in
    let clause : List ℤ = slice_index_or clauses c.args.index [] in
    let low : c.args.index < length clauses = (let h = c.requires.within in let k = c.requires.watched.known in omega (arith, h, k)) in
    let is : c.deref.result.now ≡ clause = c.deref.ensures.value ∙ c.requires.here in
    let place : ℕ = c.in-OneTrue.place in
    let within : place < length clause = subst (λ xs. place < length xs) is c.in-OneTrue.ensures.0 in
    let true_here : Contains c.args.trail.now.literals.items (literal_at clause place) = subst (λ xs. Contains c.args.trail.now.literals.items (literal_at xs place)) is c.in-OneTrue.ensures.1 in
    let holds : Holds c.args.trail.now.literals.items clause = holds_from_contains c.args.trail.now.literals.items clause (literal_at clause place) (contains_at clause place within) true_here in
    let first : ℤ = c.index-first.result.now in
    let first_fits : SFits w64 first = search rules in
    let first_is : to_z w64 (of_z w64 first) ≡ literal_at clause place = to_z-of_z w64 _ first_fits ∙ get_or_read c.args.clause.now.literals.items place first (subst (λ xs. place < length xs) (sym c.requires.here) within) c.index-first.ensures (pos 0) ∙ ap (λ xs. literal_at xs place) c.requires.here in
    subst (Contains clause) (sym first_is) (contains_at clause place within)

pub watch-requires-in-Some-clause-first_guarded : goal.watch-requires-in-Some-clause-first_guarded
watch-requires-in-Some-clause-first_guarded c =
    let clauses : List (List ℤ) = literal_lists c.args.clauses.now.list.items ++ results c.args.lines.now in
    let n : ℕ = length c.args.trail.now.places.items in
    let clause : List ℤ = slice_index_or clauses c.args.index [] in
    let low : c.args.index < length clauses = (let h = c.requires.within in let k = c.requires.watched.known in omega (arith, h, k)) in
    let is : c.deref.result.now ≡ clause = c.deref.ensures.value ∙ c.requires.here in
    let place : ℕ = c.in-OneTrue.place in
    let within : place < length clause = subst (λ xs. place < length xs) is c.in-OneTrue.ensures.0 in
    let true_here : Contains c.args.trail.now.literals.items (literal_at clause place) = subst (λ xs. Contains c.args.trail.now.literals.items (literal_at xs place)) is c.in-OneTrue.ensures.1 in
    let holds : Holds c.args.trail.now.literals.items clause = holds_from_contains c.args.trail.now.literals.items clause (literal_at clause place) (contains_at clause place within) true_here in
    let first : ℤ = c.index-first.result.now in
    let first_fits : SFits w64 first = search rules in
    let first_is : to_z w64 (of_z w64 first) ≡ literal_at clause place = to_z-of_z w64 _ first_fits ∙ get_or_read c.args.clause.now.literals.items place first (subst (λ xs. place < length xs) (sym c.requires.here) within) c.index-first.ensures (pos 0) ∙ ap (λ xs. literal_at xs place) c.requires.here in
    subst (IsGuarded c.args.trail.now.literals.items c.args.trail.now.starts.items c.args.watches.now.head clause) (sym first_is) (guarded_not_false c.args.trail.now.literals.items c.args.trail.now.starts.items c.args.watches.now.head clause (literal_at clause place) c.requires.watched.head_within (true_not_false c.args.trail.now.literals.items c.args.trail.now.places.items (literal_at clause place) c.args.trail.now.places_right true_here))

pub watch-requires-in-Some-clause-second_guarded : goal.watch-requires-in-Some-clause-second_guarded
watch-requires-in-Some-clause-second_guarded c =
    let clauses : List (List ℤ) = literal_lists c.args.clauses.now.list.items ++ results c.args.lines.now in
    let n : ℕ = length c.args.trail.now.places.items in
    let clause : List ℤ = slice_index_or clauses c.args.index [] in
    let low : c.args.index < length clauses = (let h = c.requires.within in let k = c.requires.watched.known in omega (arith, h, k)) in
    let is : c.deref.result.now ≡ clause = c.deref.ensures.value ∙ c.requires.here in
    let place : ℕ = c.in-OneTrue.place in
    let within : place < length clause = subst (λ xs. place < length xs) is c.in-OneTrue.ensures.0 in
    let true_here : Contains c.args.trail.now.literals.items (literal_at clause place) = subst (λ xs. Contains c.args.trail.now.literals.items (literal_at xs place)) is c.in-OneTrue.ensures.1 in
    let holds : Holds c.args.trail.now.literals.items clause = holds_from_contains c.args.trail.now.literals.items clause (literal_at clause place) (contains_at clause place within) true_here in
    let second : ℤ = c.in-Some.second in
    let fits : SFits w64 second = search rules in
    subst (IsGuarded c.args.trail.now.literals.items c.args.trail.now.starts.items c.args.watches.now.head clause) (sym (to_z-of_z w64 _ fits)) (guarded_late c.args.trail.now.literals.items c.args.trail.now.starts.items c.args.trail.now.places.items c.args.watches.now.head clause second c.args.trail.now.places_right c.requires.watched.head_within c.in-Some.ensures.late holds)

pub push-requires-clause-within : goal.push-requires-clause-within
push-requires-clause-within c =
    let clauses : List (List ℤ) = literal_lists c.args.clauses.now.list.items ++ results c.args.lines.now in
    let n : ℕ = length c.args.trail.now.places.items in
    let clause : List ℤ = slice_index_or clauses c.args.index [] in
    let low : c.args.index < length clauses = (let h = c.requires.within in let k = c.requires.watched.known in omega (arith, h, k)) in
    let is : c.deref.result.now ≡ clause = c.deref.ensures.value ∙ c.requires.here in
    let l : ℤ = c.in-Forces.literal in
    let fits : SFits w64 l = search rules in
    subst (λ m. variable_of m < n) (sym (to_z-of_z w64 _ fits)) (member_fits n clauses c.args.index l c.requires.fits low (subst (λ xs. Contains xs l) is c.in-Forces.ensures.0)).1

pub returns-in-None-clause-settled : goal.returns-in-None-clause-settled
returns-in-None-clause-settled c =
    let clauses : List (List ℤ) = literal_lists c.args.clauses.now.list.items ++ results c.args.lines.now in
    let n : ℕ = length c.args.trail.now.places.items in
    let clause : List ℤ = slice_index_or clauses c.args.index [] in
    let low : c.args.index < length clauses = (let h = c.requires.within in let k = c.requires.watched.known in omega (arith, h, k)) in
    let is : c.deref.result.now ≡ clause = c.deref.ensures.value ∙ c.requires.here in
    let place : ℕ = c.in-OneTrue.place in
    let within : place < length clause = subst (λ xs. place < length xs) is c.in-OneTrue.ensures.0 in
    let true_here : Contains c.args.trail.now.literals.items (literal_at clause place) = subst (λ xs. Contains c.args.trail.now.literals.items (literal_at xs place)) is c.in-OneTrue.ensures.1 in
    let holds : Holds c.args.trail.now.literals.items clause = holds_from_contains c.args.trail.now.literals.items clause (literal_at clause place) (contains_at clause place within) true_here in
    holds

pub returns-in_ok-push-in-Forces-clause-reasons_kept : goal.returns-in_ok-push-in-Forces-clause-reasons_kept
returns-in_ok-push-in-Forces-clause-reasons_kept c =
    let clauses : List (List ℤ) = literal_lists c.args.clauses.now.list.items ++ results c.args.lines.now in
    let n : ℕ = length c.args.trail.now.places.items in
    let clause : List ℤ = slice_index_or clauses c.args.index [] in
    let low : c.args.index < length clauses = (let h = c.requires.within in let k = c.requires.watched.known in omega (arith, h, k)) in
    let is : c.deref.result.now ≡ clause = c.deref.ensures.value ∙ c.requires.here in
    let l : ℤ = c.in-Forces.literal in
    let fits : SFits w64 l = search rules in
    let same : to_z w64 (of_z w64 l) ≡ l = to_z-of_z w64 _ fits in
    let has : Contains clause l = subst (λ xs. Contains xs l) is c.in-Forces.ensures.0 in
    let below : variable_of l < n = (member_fits n clauses c.args.index l c.requires.fits low has).1 in
    let others = subst (λ xs. OthersAreFalse c.args.trail.now.literals.items xs l) is c.in-Forces.ensures.2 in
    rw (c.in_ok-push-in-Forces.ensures.literals, c.in_ok-push-in-Forces.ensures.reasons, c.in_ok-push-in-Forces.ensures.starts, same)
    (reasons_forced clauses c.args.trail.now.literals.items c.args.trail.now.starts.items c.args.trail.now.reasons.items c.requires.reasons l c.in-Forces.ensures.1 (c.args.index + 1) clause (numbered_here clauses c.args.index low) has others (omega (arith, below, c.args.trail.now.same_variables)))

pub returns-in_ok-push-in-Forces-clause-watched : goal.returns-in_ok-push-in-Forces-clause-watched
returns-in_ok-push-in-Forces-clause-watched c =
    let clauses : List (List ℤ) = literal_lists c.args.clauses.now.list.items ++ results c.args.lines.now in
    let n : ℕ = length c.args.trail.now.places.items in
    let clause : List ℤ = slice_index_or clauses c.args.index [] in
    let low : c.args.index < length clauses = (let h = c.requires.within in let k = c.requires.watched.known in omega (arith, h, k)) in
    let is : c.deref.result.now ≡ clause = c.deref.ensures.value ∙ c.requires.here in
    let l : ℤ = c.in-Forces.literal in
    let fits : SFits w64 l = search rules in
    let same : to_z w64 (of_z w64 l) ≡ l = to_z-of_z w64 _ fits in
    rw (c.in_ok-push-in-Forces.ensures.literals, c.in_ok-push-in-Forces.ensures.starts, c.push.ensures.variables, same)
    (watched-push clauses c.args.trail.now.literals.items c.args.trail.now.starts.items n c.args.watches.now.head c.args.watches.now.pairs.items (entries c.args.watches.now.lists.items) c.args.watches.now.pending.items c.requires.watched l)

pub returns-in_ok-push-in-Forces-clause-settled : goal.returns-in_ok-push-in-Forces-clause-settled
returns-in_ok-push-in-Forces-clause-settled c =
    let clauses : List (List ℤ) = literal_lists c.args.clauses.now.list.items ++ results c.args.lines.now in
    let n : ℕ = length c.args.trail.now.places.items in
    let clause : List ℤ = slice_index_or clauses c.args.index [] in
    let low : c.args.index < length clauses = (let h = c.requires.within in let k = c.requires.watched.known in omega (arith, h, k)) in
    let is : c.deref.result.now ≡ clause = c.deref.ensures.value ∙ c.requires.here in
    let l : ℤ = c.in-Forces.literal in
    let fits : SFits w64 l = search rules in
    subst (λ t. Holds t clause) (sym (c.in_ok-push-in-Forces.ensures.literals ∙ ap (λ m. c.args.trail.now.literals.items ++ m ∷ []) (to_z-of_z w64 _ fits))) (holds-push c.args.trail.now.literals.items clause l (subst (λ xs. Contains xs l) is c.in-Forces.ensures.0))

pub returns-in-AllFalse-clause-settled : goal.returns-in-AllFalse-clause-settled
returns-in-AllFalse-clause-settled c =
    let clauses : List (List ℤ) = literal_lists c.args.clauses.now.list.items ++ results c.args.lines.now in
    let n : ℕ = length c.args.trail.now.places.items in
    let clause : List ℤ = slice_index_or clauses c.args.index [] in
    let low : c.args.index < length clauses = (let h = c.requires.within in let k = c.requires.watched.known in omega (arith, h, k)) in
    let is : c.deref.result.now ≡ clause = c.deref.ensures.value ∙ c.requires.here in
    subst (IsFalseClause c.args.trail.now.literals.items) is c.in-AllFalse.ensures
