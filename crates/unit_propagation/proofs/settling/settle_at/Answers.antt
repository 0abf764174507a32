use Rattle.std.proofs.Common.{arith, ◌≡◌, ◌≢◌, ◌<◌, ◌++◌, [], ◌∙◌, ap, inl, inr, ℕ, ℤ, Option, List, length, slice_index, slice_index_or, sym, subst, None, swap_remove, vec_len, eqb→eq}
use Rattle.std.proofs.lemmas.Float.{T_from_true}
use Rattle.std.proofs.lemmas.List.{get_or_read}
use Rattle.clause_db.specs.Log.{literal_lists, results}
use Rattle.unit_propagation.specs.Watching.{entries, Holds}
use Rattle.unit_propagation.specs.Settling.{IsSettled, AreSettled}
use Rattle.unit_propagation.specs.declared.watches.Watched.{Watched}
use Rattle.unit_propagation.proofs.Tables.{swap_remove_default}
use Rattle.unit_propagation.proofs.VisitSteps.{numbered_here}
use Rattle.unit_propagation.proofs.SettleSteps.{settled_longer, settled_fewer, settled_more, good_without_decisions}
use Rattle.unit_propagation.proofs.settling.settle_at.Goals as goal

pub returns-in-Falsified-clause-step : goal.returns-in-Falsified-clause-step
returns-in-Falsified-clause-step c =
    let clauses : List (List ℤ) = literal_lists c.args.clauses.now.list.items ++ results c.args.lines.now in
    let index : ℕ = c.index-index.result.now in
    let pending : List ℕ = c.args.watches.now.pending.items in
    let trail : List ℤ = c.settle.new.trail.literals.items in
    let starts : List ℕ = c.settle.new.trail.starts.items in
    let n : ℕ = length c.settle.new.trail.places.items in
    let head : ℕ = c.settle.new.watches.head in
    let pairs : List (Option Watched) = c.settle.new.watches.pairs.items in
    let lists : List (List ℕ) = entries c.settle.new.watches.lists.items in
    let here : slice_index pending c.args.place ≡ index = sym (get_or_read pending c.args.place index c.requires.within c.index-index.ensures 0) in
    let e = c.in_ok-settle-in-Some.ensures in
    let low : index < length clauses = (let a = c.if-index-len.false in let b = c.len.ensures in let k = c.requires.settled.watched.known in omega (arith, a, b, k, c.args.watches.now.pairs.ok.0)) in
    (e.watched, (slice_index_or clauses index [], numbered_here clauses index low, subst (IsSettled trail (slice_index_or clauses index []) (slice_index_or pairs index None)) c.in-Falsified.is e.settled))

pub returns-in-Guarded-clause-step : goal.returns-in-Guarded-clause-step
returns-in-Guarded-clause-step c =
    let clauses : List (List ℤ) = literal_lists c.args.clauses.now.list.items ++ results c.args.lines.now in
    let index : ℕ = c.index-index.result.now in
    let pending : List ℕ = c.args.watches.now.pending.items in
    let trail : List ℤ = c.settle.new.trail.literals.items in
    let starts : List ℕ = c.settle.new.trail.starts.items in
    let n : ℕ = length c.settle.new.trail.places.items in
    let head : ℕ = c.settle.new.watches.head in
    let pairs : List (Option Watched) = c.settle.new.watches.pairs.items in
    let lists : List (List ℕ) = entries c.settle.new.watches.lists.items in
    let here : slice_index pending c.args.place ≡ index = sym (get_or_read pending c.args.place index c.requires.within c.index-index.ensures 0) in
    let e = c.in_ok-settle-in-Some.ensures in
    let new_pending : List ℕ = c.settle.new.watches.pending.items in
    let new_here : slice_index new_pending c.args.place ≡ index = ap (λ xs. slice_index xs c.args.place) e.pending ∙ here in
    let within : c.args.place < length new_pending = subst (λ xs. c.args.place < length xs) (sym e.pending) c.requires.within in
    let now : AreSettled clauses trail starts n head c.args.place pairs lists new_pending = settled_longer clauses c.args.trail.now.literals.items trail c.args.trail.now.starts.items starts (length c.args.trail.now.places.items) n c.args.watches.now.head head c.args.place c.args.watches.now.pairs.items pairs (entries c.args.watches.now.lists.items) lists pending new_pending e.extends e.pending e.known e.watched c.requires.settled in
    let some : slice_index_or pairs index None ≢ None = subst (IsSettled trail (slice_index_or clauses index []) (slice_index_or pairs index None)) c.in-Guarded.is e.settled in
    let items : c.swap_remove.new.self.items ≡ swap_remove new_pending c.args.place 0 = c.swap_remove.ensures.items ∙ swap_remove_default new_pending c.args.place c.swap_remove.result 0 within in
    subst (AreSettled clauses trail starts n head c.args.place pairs lists) (sym items) (settled_fewer clauses trail starts n head pairs lists new_pending c.args.place index within new_here (inl some) now)

pub returns-then-is_empty-clause-step : goal.returns-then-is_empty-clause-step
returns-then-is_empty-clause-step c =
    let clauses : List (List ℤ) = literal_lists c.args.clauses.now.list.items ++ results c.args.lines.now in
    let index : ℕ = c.index-index.result.now in
    let pending : List ℕ = c.args.watches.now.pending.items in
    let trail : List ℤ = c.settle.new.trail.literals.items in
    let starts : List ℕ = c.settle.new.trail.starts.items in
    let n : ℕ = length c.settle.new.trail.places.items in
    let head : ℕ = c.settle.new.watches.head in
    let pairs : List (Option Watched) = c.settle.new.watches.pairs.items in
    let lists : List (List ℕ) = entries c.settle.new.watches.lists.items in
    let here : slice_index pending c.args.place ≡ index = sym (get_or_read pending c.args.place index c.requires.within c.index-index.ensures 0) in
    let e = c.in_ok-settle-in-Some.ensures in
    let new_pending : List ℕ = c.settle.new.watches.pending.items in
    let new_here : slice_index new_pending c.args.place ≡ index = ap (λ xs. slice_index xs c.args.place) e.pending ∙ here in
    let within : c.args.place < length new_pending = subst (λ xs. c.args.place < length xs) (sym e.pending) c.requires.within in
    let now : AreSettled clauses trail starts n head c.args.place pairs lists new_pending = settled_longer clauses c.args.trail.now.literals.items trail c.args.trail.now.starts.items starts (length c.args.trail.now.places.items) n c.args.watches.now.head head c.args.place c.args.watches.now.pairs.items pairs (entries c.args.watches.now.lists.items) lists pending new_pending e.extends e.pending e.known e.watched c.requires.settled in
    let holds : Holds trail (slice_index_or clauses index []) = subst (IsSettled trail (slice_index_or clauses index []) (slice_index_or pairs index None)) c.in-Satisfied.is e.settled in
    let items : c.swap_remove-then-is_empty.new.self.items ≡ swap_remove new_pending c.args.place 0 = c.swap_remove-then-is_empty.ensures.items ∙ swap_remove_default new_pending c.args.place c.swap_remove-then-is_empty.result 0 within in
    let none : length starts ≡ 0 = (let z = eqb→eq (vec_len c.settle.new.trail.starts) 0 (T_from_true _ (sym c.if-is_empty.ensures)) in omega (arith, z, c.settle.new.trail.starts.ok.0)) in
    subst (AreSettled clauses trail starts n head c.args.place pairs lists) (sym items) (settled_fewer clauses trail starts n head pairs lists new_pending c.args.place index within new_here (inr (good_without_decisions trail (slice_index_or clauses index []) starts none holds)) now)

pub returns-else-is_empty-clause-step : goal.returns-else-is_empty-clause-step
returns-else-is_empty-clause-step c =
    let clauses : List (List ℤ) = literal_lists c.args.clauses.now.list.items ++ results c.args.lines.now in
    let index : ℕ = c.index-index.result.now in
    let pending : List ℕ = c.args.watches.now.pending.items in
    let trail : List ℤ = c.settle.new.trail.literals.items in
    let starts : List ℕ = c.settle.new.trail.starts.items in
    let n : ℕ = length c.settle.new.trail.places.items in
    let head : ℕ = c.settle.new.watches.head in
    let pairs : List (Option Watched) = c.settle.new.watches.pairs.items in
    let lists : List (List ℕ) = entries c.settle.new.watches.lists.items in
    let here : slice_index pending c.args.place ≡ index = sym (get_or_read pending c.args.place index c.requires.within c.index-index.ensures 0) in
    let e = c.in_ok-settle-in-Some.ensures in
    let new_pending : List ℕ = c.settle.new.watches.pending.items in
    let new_here : slice_index new_pending c.args.place ≡ index = ap (λ xs. slice_index xs c.args.place) e.pending ∙ here in
    let within : c.args.place < length new_pending = subst (λ xs. c.args.place < length xs) (sym e.pending) c.requires.within in
    let now : AreSettled clauses trail starts n head c.args.place pairs lists new_pending = settled_longer clauses c.args.trail.now.literals.items trail c.args.trail.now.starts.items starts (length c.args.trail.now.places.items) n c.args.watches.now.head head c.args.place c.args.watches.now.pairs.items pairs (entries c.args.watches.now.lists.items) lists pending new_pending e.extends e.pending e.known e.watched c.requires.settled in
    let holds : Holds trail (slice_index_or clauses index []) = subst (IsSettled trail (slice_index_or clauses index []) (slice_index_or pairs index None)) c.in-Satisfied.is e.settled in
    settled_more clauses trail starts n head pairs lists new_pending c.args.place index within new_here (λ h. holds) now
