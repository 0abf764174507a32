-- What is to be done about a clause, from what is to be done beside one of its watched literals.
use Rattle.std.proofs.Common.{◌≡◌, inl, inr, ℕ, ℤ, ◌<◌, ◌+◌, List, [], length, slice_index_or, sym, ap, ◌∙◌, arith, subst, Option, Some, None, w64}
use Rattle.std.specs.Prelude.{Contains}
use Rattle.std.proofs.lemmas.Int.{to_z-of_z}
use Rattle.std.proofs.lemmas.Option.{get_or_from_slice_get}
use mir.Val.{SFits, of_z, to_z}
use Rattle.clause_db.specs.Literal.{opposite}
use Rattle.clause_db.specs.Numbered.{IsNumbered}
use Rattle.unit_propagation.specs.Watching.{Holds}
use Rattle.unit_propagation.specs.Visiting.{IsLookBeside, IsLook, IsLookAt, IsBeside, WatchesNot, WatchesBeside}
use Rattle.unit_propagation.specs.declared.watches.Watched.{Watched}
use Rattle.unit_propagation.specs.declared.visits.Look.{Look}
use Rattle.unit_propagation.specs.declared.visits.Look.TheVariants.{Keeps, Moves, Forces, Falsified}
use Rattle.unit_propagation.proofs.Covers.{holds_from_contains}

pub same_read : (x y : ℤ) → SFits w64 x → SFits w64 y → of_z w64 x ≡ of_z w64 y → x ≡ y
same_read x y fx fy e = sym (to_z-of_z w64 x fx) ∙ ap (to_z w64) e ∙ to_z-of_z w64 y fy

pub look_from_beside : (trail clause : List ℤ) (watched : Watched) (l other : ℤ) (look : Look) → Contains clause other → IsBeside watched l other → IsLookBeside trail clause other look → IsLook trail clause watched l look
look_from_beside trail clause watched l other Keeps has beside w = inl (holds_from_contains trail clause other has w)
look_from_beside trail clause watched l other (Moves a b) has beside w = (subst (IsBeside watched l) (sym w.0) beside, w.1, w.2, w.3)
look_from_beside trail clause watched l other (Forces a) has beside w = w
look_from_beside trail clause watched l other Falsified has beside w = w

pub numbered_at : (clauses : List (List ℤ)) (index : ℕ) (clause : List ℤ) → IsNumbered clauses (index + 1) clause → clause ≡ slice_index_or clauses index []
numbered_at clauses index clause (k, is, at) =
    let same : k ≡ index = omega arith in
    sym (get_or_from_slice_get clauses k clause [] at) ∙ ap (λ i. slice_index_or clauses i []) same

pub look_at_from_look : (clauses : List (List ℤ)) (trail : List ℤ) (pairs : List (Option Watched)) (index : ℕ) (l : ℤ) (clause : List ℤ) (watched : Watched) (look : Look) → index < length pairs → clause ≡ slice_index_or clauses index [] → slice_index_or pairs index None ≡ Some watched → IsLook trail clause watched l look → IsLookAt clauses trail pairs index l look
look_at_from_look clauses trail pairs index l clause watched Keeps low is pair (inl w) = λ h. inl (subst (Holds trail) is w)
look_at_from_look clauses trail pairs index l clause watched Keeps low is pair (inr w) = λ h. inr (subst (λ p. WatchesNot p l) (sym pair) w)
look_at_from_look clauses trail pairs index l clause watched (Moves a b) low is pair w =
    (low, subst (λ p. WatchesBeside p l a) (sym pair) w.0, subst (λ xs. Contains xs b) is w.1, w.2, w.3)
look_at_from_look clauses trail pairs index l clause watched (Forces a) low is pair w =
    (low, subst (λ xs. Contains xs a) is w.0, w.1, λ m h ne. w.2 m (subst (λ xs. Contains xs m) (sym is) h) ne)
look_at_from_look clauses trail pairs index l clause watched Falsified low is pair w =
    (low, λ k d h. subst (λ xs. Contains trail (opposite (slice_index_or xs k d))) is (w k d (subst (λ xs. k < length xs) (sym is) h)))
