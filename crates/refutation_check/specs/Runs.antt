-- One trail and one set of watches serve all the tries of a check.
use Rattle.std.specs.Prelude.{◌≡◌, ◌⊎◌, ℕ, ◌<◌, ◌≤◌, ℤ, List, [], ◌∷◌, ◌++◌, length, slice_index, Contains}
use Rattle.clause_db.specs.Literal.{opposite}
use Rattle.clause_db.specs.Propagation.{PropagationRefutes}
use Rattle.unit_propagation.specs.Places.{literal_at}
use Rattle.unit_propagation.specs.Quiet.{HasReasons, IsQuiet}
use Rattle.unit_propagation.specs.Status.{FitsVariables}
use Rattle.unit_propagation.specs.Watching.{entries, IsWatched}
use Rattle.unit_propagation.specs.declared.trail.Trail.{Trail}
use Rattle.unit_propagation.specs.declared.watches.Watches.{Watches}

-- a trail and watches over these clauses
pub record IsRun (clauses : List (List ℤ)) (trail : Trail) (watches : Watches) : Type 0 where
  pub fits : FitsVariables (length trail.places.items) clauses
  pub has_reasons : HasReasons clauses trail.literals.items trail.starts.items trail.reasons.items
  pub watched : IsWatched clauses trail.literals.items trail.starts.items (length trail.places.items) watches.head watches.pairs.items (entries watches.lists.items) watches.pending.items
  pub known : length watches.pairs.items ≡ length clauses

-- the same, where propagation is complete
pub record IsQuietRun (clauses : List (List ℤ)) (trail : Trail) (watches : Watches) : Type 0 where
  pub run : IsRun clauses trail watches
  pub handled : watches.head ≡ length trail.literals.items
  pub quiet : IsQuiet trail.literals.items clauses
  pub started : (k : ℕ) → k < length trail.starts.items → slice_index trail.starts.items k < length trail.literals.items

-- no decision is on the trail
pub record IsRootRun (clauses : List (List ℤ)) (trail : Trail) (watches : Watches) : Type 0 where
  pub run : IsRun clauses trail watches
  pub no_decision : trail.starts.items ≡ []

-- each decision is one of these literals
abbrev pub AreDecidedFrom : List ℤ → Trail → Type 0
AreDecidedFrom assumed trail =
    (p : ℕ) → p < length trail.literals.items → Contains trail.starts.items p → Contains assumed (literal_at trail.literals.items p)

-- the literal is assumed to be false, and not also to be true
abbrev pub IsAssumedFalse : List ℤ → ℤ → Type 0
IsAssumedFalse assumed l = Contains assumed (opposite l) × (Contains assumed l → ⊥)

-- where this literal too is assumed to be false, the decisions still are what is assumed
abbrev pub StaysDecided : ℤ → Trail → Trail → Type 0
StaysDecided l old new =
    (assumed : List ℤ) → IsAssumedFalse assumed l → AreDecidedFrom assumed old → AreDecidedFrom assumed new

-- where this literal too is assumed to be false, propagation refutes the clauses
abbrev pub RefutesWith : List (List ℤ) → ℤ → Trail → Type 0
RefutesWith clauses l old =
    (assumed : List ℤ) → IsAssumedFalse assumed l → AreDecidedFrom assumed old → PropagationRefutes clauses assumed

-- a place is not among those from one on and before another
abbrev pub IsOutside : ℕ → ℕ → ℕ → Type 0
IsOutside from to k = from ≤ k → k < to → ⊥

-- the literals at these places of a clause are false
abbrev pub AreFalseWithin : List ℤ → ℕ → ℕ → List ℤ → Type 0
AreFalseWithin clause from to trail =
    (k : ℕ) → from ≤ k → k < to → Contains trail (opposite (literal_at clause k))

-- the literals at all other places are
abbrev pub AreFalseOutside : List ℤ → ℕ → ℕ → List ℤ → Type 0
AreFalseOutside clause from to trail =
    (k : ℕ) → k < length clause → IsOutside from to k → Contains trail (opposite (literal_at clause k))

-- the literals at all places other than these and those are
abbrev pub AreFalseOutsideBoth : List ℤ → ℕ → ℕ → ℕ → ℕ → List ℤ → Type 0
AreFalseOutsideBoth clause from to other_from other_to trail =
    (k : ℕ) → k < length clause → IsOutside from to k → IsOutside other_from other_to k → Contains trail (opposite (literal_at clause k))

-- the trail has the same literals, on the same decisions
abbrev pub IsSameTrail : Trail → Trail → Type 0
IsSameTrail old new = (new.literals.items ≡ old.literals.items) × (new.starts.items ≡ old.starts.items)

-- a decision was taken right behind the trail
abbrev pub HasDecidedMore : Trail → Trail → Type 0
HasDecidedMore old new =
    (more : List ℤ) × (later : List ℕ) × (new.literals.items ≡ old.literals.items ++ more) × (new.starts.items ≡ old.starts.items ++ length old.literals.items ∷ later)

-- what came onto the trail stands on decisions of its own, and all that was on it is still handled
abbrev pub GoesOn : Trail → Trail → ℕ → Type 0
GoesOn old new head = (length old.literals.items ≤ head) × (IsSameTrail old new ⊎ HasDecidedMore old new)

-- the trail is as it was, and handled as far
abbrev pub IsBack : Trail → Trail → ℕ → Type 0
IsBack base new head = (length base.literals.items ≤ head) × IsSameTrail base new
