-- Two literals of each clause are watched.
use Rattle.std.specs.Prelude.{◌≡◌, ◌≢◌, ◌⊎◌, ℕ, ◌+◌, ◌*◌, ◌<◌, ◌≤◌, List, [], map, ℤ, pos, negsuc, length, slice_index, slice_index_or, Contains, Option, Some, None, Vec}
use Rattle.std.specs.Global.{Global}
use Rattle.clause_db.specs.Literal.{variable_of, opposite}
use Rattle.unit_propagation.specs.Places.{literal_at}
use Rattle.unit_propagation.specs.declared.watches.Watched.{Watched}

-- 1 where the literal has a minus sign
abbrev pub sign_of : ℤ → ℕ
sign_of (pos n) = 0
sign_of (negsuc n) = 1

-- the place of a literal in a table
abbrev pub code_of : ℤ → ℕ
code_of l = 2 * variable_of l + sign_of l

-- the lists of a table
abbrev pub entries : List (Vec ℕ Global) → List (List ℕ)
entries lists = map (λ v. v.items) lists

-- the clauses that are in the list of a literal
abbrev pub watching : List (List ℕ) → ℤ → List ℕ
watching lists l = slice_index_or lists (code_of l) []

-- a literal of the clause is true
abbrev pub Holds : List ℤ → List ℤ → Type 0
Holds trail clause = (q : ℕ) × (q < length trail) × Contains clause (literal_at trail q)

-- a literal of the clause is true, and no decision stands between a place and it
abbrev pub HoldsBy : List ℤ → List ℕ → ℕ → List ℤ → Type 0
HoldsBy trail starts place clause =
    (q : ℕ) × (q < length trail) × Contains clause (literal_at trail q) × ((j : ℕ) → j < length starts → place < slice_index starts j → q < slice_index starts j)

-- a literal of the clause is true, by no decision
abbrev pub HoldsForGood : List ℤ → List ℕ → List ℤ → Type 0
HoldsForGood trail starts clause =
    (q : ℕ) × (q < length trail) × Contains clause (literal_at trail q) × ((j : ℕ) → j < length starts → q < slice_index starts j)

-- where the literal is false by the part of the trail that is handled, the clause has a true one that stays
-- true for as long
abbrev pub IsGuarded : List ℤ → List ℕ → ℕ → List ℤ → ℤ → Type 0
IsGuarded trail starts head clause l =
    (p : ℕ) → p < head → literal_at trail p ≡ opposite l → HoldsBy trail starts p clause

-- the clause watches two of its literals
pub record IsWatching (trail : List ℤ) (starts : List ℕ) (head : ℕ) (lists : List (List ℕ)) (index : ℕ) (clause : List ℤ) (watched : Watched) : Type 0 where
  pub has_first : Contains clause watched.first
  pub has_second : Contains clause watched.second
  pub differ : watched.first ≢ watched.second
  pub in_first : Contains (watching lists watched.first) index
  pub in_second : Contains (watching lists watched.second) index
  pub first_guarded : IsGuarded trail starts head clause watched.first
  pub second_guarded : IsGuarded trail starts head clause watched.second

-- the clause watches two of its literals, or it is pending, or it needs no watch
abbrev pub IsCovered : List ℤ → List ℕ → ℕ → List (List ℕ) → List ℕ → ℕ → List ℤ → Option Watched → Type 0
IsCovered trail starts head lists pending index clause None = Contains pending index ⊎ HoldsForGood trail starts clause
IsCovered trail starts head lists pending index clause (Some watched) = IsWatching trail starts head lists index clause watched

-- how watches stand to a trail of which so many literals are handled
pub record IsWatched (clauses : List (List ℤ)) (trail : List ℤ) (starts : List ℕ) (variables head : ℕ) (pairs : List (Option Watched)) (lists : List (List ℕ)) (pending : List ℕ) : Type 0 where
  pub head_within : head ≤ length trail
  pub starts_before : (j : ℕ) → j < length starts → slice_index starts j ≤ head
  pub known : length pairs ≤ length clauses
  pub tables : length lists ≡ 2 * variables
  pub each : (k : ℕ) → k < length pairs → IsCovered trail starts head lists pending k (slice_index_or clauses k []) (slice_index_or pairs k None)
