-- Clauses within a bound, by number, and trails that grow.
use Rattle.std.proofs.Common.{ℕ, zero, suc, ℤ, ◌<◌, ◌≤◌, ◌+◌, List, [], ◌∷◌, ◌++◌, length, slice_index_or, ap, ◌∙◌, arith, subst, length-append, append_assoc, map}
use Rattle.std.specs.Prelude.{All}
use Rattle.std.proofs.lemmas.List.{get_or_default}
use Rattle.std.proofs.lemmas.Option.{slice_get_within, get_or_from_slice_get}
use Rattle.clause_db.specs.declared.clause.Clause.{Clause}
use Rattle.clause_db.specs.Literal.{variable_of, IsOrdered}
use Rattle.clause_db.specs.Log.{literal_lists}
use Rattle.clause_db.specs.Numbered.{IsNumbered}
use Rattle.unit_propagation.specs.Quiet.{IsQuietClause, IsQuiet}
use Rattle.unit_propagation.specs.Status.{FitsVariables, Extends}

pub fits_numbered : (n number : ℕ) (clauses : List (List ℤ)) (clause : List ℤ) → FitsVariables n clauses → IsNumbered clauses number clause → IsOrdered clause × All (λ l. (0 < variable_of l) × (variable_of l < n)) clause
fits_numbered n number clauses clause fits (k, is, at) =
    subst (λ c. IsOrdered c × All (λ l. (0 < variable_of l) × (variable_of l < n)) c) (get_or_from_slice_get clauses k clause [] at) (fits k [] (slice_get_within clauses k clause at))

pub extends_trans : (a b c : List ℤ) → Extends a b → Extends b c → Extends a c
extends_trans a b c (x, e) (y, f) = (x ++ y, f ∙ ap (λ z. z ++ y) e ∙ append_assoc a x y)

pub extends_length : (a b : List ℤ) → Extends a b → length a ≤ length b
extends_length a b (x, e) = rw (e, length-append) (omega arith)

pub quiet_all : (trail : List ℤ) (clauses : List (List ℤ)) → ((k : ℕ) → k < length clauses → IsQuietClause trail (slice_index_or clauses k [])) → IsQuiet trail clauses
quiet_all trail clauses each k d h = subst (IsQuietClause trail) (get_or_default clauses k [] d h) (each k h)

-- a fact of each image
pub all_map : {X : Type 0} (f : X → List ℤ) (P : List ℤ → Type 0) → ((x : X) → P (f x)) → (xs : List X) → All P (map f xs)
all_map f P each [] k d h = absurd (omega arith)
all_map f P each (x ∷ xs) zero d h = each x
all_map f P each (x ∷ xs) (suc k) d h = all_map f P each xs k d (omega arith)

-- the variables stand once each, and are above 0
abbrev pub IsProper : List ℤ → Type 0
IsProper clause = IsOrdered clause × All (λ l. 0 < variable_of l) clause

pub proper_clauses : (clauses : List Clause) → All IsProper (literal_lists clauses)
proper_clauses clauses = all_map (λ c. c.literals.items) IsProper (λ c. (c.ordered, λ k d h. (c.in_range k d h).0)) clauses

-- the clauses of a list, whose variables are at most this one
pub fits_list : (clauses : List Clause) (largest : ℕ) → All (λ c. All (λ l. variable_of l ≤ largest) c) (literal_lists clauses) → FitsVariables (largest + 1) (literal_lists clauses)
fits_list clauses largest within k d h =
    let proper = proper_clauses clauses k d h in
    (proper.0, λ j e w. (proper.1 j e w, let low = within k d h j e w in omega (arith, low)))
