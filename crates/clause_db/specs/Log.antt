use Rattle.std.specs.Prelude.{◌≡◌, ℕ, ◌<◌, ℤ, List, [], ◌∷◌, ◌++◌, map, take, length, slice_index_or}
use Rattle.clause_db.specs.declared.clause.Clause.{Clause}
use Rattle.clause_db.specs.declared.clause.LogLine.{LogLine}
use Rattle.clause_db.specs.Literal.{IsOrdered}
use Rattle.clause_db.specs.Resolution.{ClashesOnlyAt, IsResolvent}
use Rattle.clause_db.specs.Numbered.{IsNumbered}

-- the clauses as lists of literals
abbrev pub literal_lists : List Clause → List (List ℤ)
literal_lists clauses = map (λ c. c.literals.items) clauses

-- the clauses that lines come to
abbrev pub results : List LogLine → List (List ℤ)
results lines = map (λ line. line.result.literals.items) lines

-- resolving a clause in turn on variables with the clauses of these numbers comes to the last clause
abbrev pub ResolvesTo : List (List ℤ) → List ℤ → List (ℕ × ℕ) → List ℤ → Type 0
ResolvesTo earlier from [] to = from ≡ to
ResolvesTo earlier from (pivot ∷ pivots) to =
    (other next : List ℤ) × IsNumbered earlier pivot.1 other × ClashesOnlyAt pivot.0 from other × IsResolvent pivot.0 from other next × IsOrdered next × ResolvesTo earlier next pivots to

-- the line resolves earlier clauses to its result
pub record IsDerived (earlier : List (List ℤ)) (line : LogLine) : Type 0 where
  pub start : List ℤ
  pub is_earlier : IsNumbered earlier line.first start
  pub chain : ResolvesTo earlier start line.pivots.items line.result.literals.items

-- each line is derived from the clauses and the lines before it
abbrev pub IsLog : List (List ℤ) → List LogLine → Type 0
IsLog clauses lines =
    (k : ℕ) (d : LogLine) → k < length lines → IsDerived (clauses ++ results (take k lines)) (slice_index_or lines k d)

-- a log whose last line is the empty clause
pub record IsRefutation (clauses : List (List ℤ)) (lines : List LogLine) : Type 0 where
  pub log : IsLog clauses lines
  pub empty_at_end : (before : List LogLine) × (last : LogLine) × (lines ≡ before ++ last ∷ []) × (last.result.literals.items ≡ [])
