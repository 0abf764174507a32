-- An assignment that satisfies the clauses satisfies each line of a log over them.
use Rattle.std.proofs.Common.{◌≡◌, ◌≢◌, inl, inr, ℕ, zero, suc, ℤ, pos, negsuc, ◌<◌, ◌≤◌, ◌+◌, List, [], ◌∷◌, ◌++◌, length, take, map, slice_index_or, sym, ap, ◌∙◌, arith, subst, length-append, append_assoc, true, false, Bool, not}
use Rattle.std.specs.Prelude.{Contains, All}
use Rattle.std.proofs.lemmas.Bool.{cases_eq}
use Rattle.std.proofs.lemmas.List.{append-nil, map-append}
use Rattle.std.proofs.Math.Seq.{take-suc, get_or-append_seam}
use Rattle.std.proofs.lemmas.List.Elements.{All-append, All-push}
use Rattle.clause_db.specs.declared.clause.Clause.{Clause}
use Rattle.clause_db.specs.declared.clause.LogLine.{LogLine}
use Rattle.clause_db.specs.Assignment.{truth_under, SatisfiesClause, Satisfies, IsUnsatisfiable}
use Rattle.clause_db.specs.Literal.{variable_of, opposite, IsOrdered}
use Rattle.clause_db.specs.Log.{literal_lists, results, ResolvesTo, IsDerived, IsLog, IsRefutation}
use Rattle.clause_db.specs.Numbered.{IsNumbered}
use Rattle.clause_db.specs.Resolution.{ClashesOnlyAt, IsResolvent}
use Rattle.clause_db.proofs.Merge.{same_member}
use Rattle.clause_db.proofs.Ordered.{variable_of-opposite, at_member}
use Rattle.clause_db.proofs.Places.{contains_numbered}

-- a fact of each image
pub all_map : {X : Type 0} (f : X → List ℤ) (P : List ℤ → Type 0) → ((x : X) → P (f x)) → (xs : List X) → All P (map f xs)
all_map f P each [] k d h = absurd (omega arith)
all_map f P each (x ∷ xs) zero d h = each x
all_map f P each (x ∷ xs) (suc k) d h = all_map f P each xs k d (omega arith)

-- the variables stand once each, and are above 0
abbrev pub IsProper : List ℤ → Type 0
IsProper clause = IsOrdered clause × All (λ l. 0 < variable_of l) clause

pub proper_clauses : (clauses : List Clause) → All IsProper (literal_lists clauses)
proper_clauses clauses = all_map (λ c. c.literals.items) IsProper (λ c. (c.ordered, λ k d h. (c.in_range k d h).0)) clauses

pub proper_results : (lines : List LogLine) → All IsProper (results lines)
proper_results lines = all_map (λ line. line.result.literals.items) IsProper (λ line. (line.result.ordered, λ k d h. (line.result.in_range k d h).0)) lines

not_both : (v : ℕ → Bool) (l : ℤ) → 0 < variable_of l → truth_under v l ≡ true → truth_under v (opposite l) ≡ true → ⊥
not_both v (pos zero) h a b = omega arith
not_both v (pos (suc n)) h a b = of_bool (v (suc n)) a b where
  of_bool : (t : Bool) → t ≡ true → not t ≡ true → ⊥
  of_bool true a b = cc
  of_bool false a b = cc
not_both v (negsuc n) h a b = of_bool (v (suc n)) a b where
  of_bool : (t : Bool) → not t ≡ true → t ≡ true → ⊥
  of_bool true a b = cc
  of_bool false a b = cc

satisfied_by : (v : ℕ → Bool) (clause : List ℤ) (l : ℤ) → Contains clause l → truth_under v l ≡ true → SatisfiesClause v clause
satisfied_by v clause l (k, h, e) t = (k, l, h, e, t)

module _ (v : ℕ → Bool) (variable : ℕ) (a b c : List ℤ) (proper_a : IsProper a) (proper_b : IsProper b) (clash : ClashesOnlyAt variable a b) (resolvent : IsResolvent variable a b c) where
  pub resolvent_satisfied : SatisfiesClause v a → SatisfiesClause v b → SatisfiesClause v c
  resolvent_satisfied sat_a sat_b =
      let l : ℤ = sat_a.1 in
      let m : ℤ = sat_b.1 in
      let in_a : Contains a l = (sat_a.0, sat_a.2, sat_a.3) in
      let in_b : Contains b m = (sat_b.0, sat_b.2, sat_b.3) in
      elim (cases_eq (variable_of l) variable) [
        | inr away ↦ satisfied_by v c l (at_member (λ n. variable_of n ≢ variable → Contains c n) a l resolvent.keeps_first in_a away) sat_a.4
        | inl e ↦ elim (cases_eq (variable_of m) variable) [
          | inr away ↦ satisfied_by v c m (at_member (λ n. variable_of n ≢ variable → Contains c n) b m resolvent.keeps_second in_b away) sat_b.4
          | inl f ↦ absurd (
              let pivot : ℤ = clash.here.0 in
              let same_l : l ≡ pivot = same_member a l pivot proper_a.0 in_a clash.here.1 (e ∙ sym clash.here.3) in
              let same_m : m ≡ opposite pivot = same_member b m (opposite pivot) proper_b.0 in_b clash.here.2 (f ∙ sym clash.here.3 ∙ sym (variable_of-opposite pivot)) in
              not_both v pivot (at_member (λ n. 0 < variable_of n) a pivot proper_a.1 clash.here.1) (subst (λ n. truth_under v n ≡ true) same_l sat_a.4) (subst (λ n. truth_under v n ≡ true) same_m sat_b.4))
        ]
      ]

  pub resolvent_positive : All (λ l. 0 < variable_of l) c
  resolvent_positive k d h = elim (resolvent.from_either k d h).0 [
    | inl w ↦ at_member (λ n. 0 < variable_of n) a _ proper_a.1 w
    | inr w ↦ at_member (λ n. 0 < variable_of n) b _ proper_b.1 w
  ]

module _ (v : ℕ → Bool) (earlier : List (List ℤ)) (satisfied : Satisfies v earlier) (proper : All IsProper earlier) where
  at_number : (P : List ℤ → Type 0) → All P earlier → (number : ℕ) (clause : List ℤ) → IsNumbered earlier number clause → P clause
  at_number P all number clause numbered = let w = contains_numbered earlier number clause numbered in subst P w.2 (all w.0 clause w.1)

  pub chain_satisfied : (from : List ℤ) (pivots : List (ℕ × ℕ)) (to : List ℤ) → IsProper from → SatisfiesClause v from → ResolvesTo earlier from pivots to → SatisfiesClause v to
  chain_satisfied from [] to p s e = subst (SatisfiesClause v) e s
  chain_satisfied from (pivot ∷ pivots) to p s w =
      let other : List ℤ = w.0 in
      let proper_other = at_number IsProper proper pivot.1 other w.2 in
      chain_satisfied w.1 pivots to (w.5, resolvent_positive v pivot.0 from other w.1 p proper_other w.3 w.4)
      (resolvent_satisfied v pivot.0 from other w.1 p proper_other w.3 w.4 s (at_number (SatisfiesClause v) satisfied pivot.1 other w.2)) w.6

  pub line_satisfied : (line : LogLine) → IsDerived earlier line → SatisfiesClause v line.result.literals.items
  line_satisfied line derived = chain_satisfied derived.start line.pivots.items line.result.literals.items (at_number IsProper proper line.first derived.start derived.is_earlier) (at_number (SatisfiesClause v) satisfied line.first derived.start derived.is_earlier) derived.chain

-- the clauses and the lines before one
pub lines_satisfied : (v : ℕ → Bool) (clauses : List Clause) (lines : List LogLine) → IsLog (literal_lists clauses) lines → Satisfies v (literal_lists clauses) → (d : LogLine) (k : ℕ) → k ≤ length lines → Satisfies v (literal_lists clauses ++ results (take k lines))
lines_satisfied v clauses lines log sat d zero h = subst (Satisfies v) (sym (append-nil (literal_lists clauses))) sat
lines_satisfied v clauses lines log sat d (suc k) h =
    let before = lines_satisfied v clauses lines log sat d k (omega arith) in
    let proper = All-append IsProper (literal_lists clauses) (results (take k lines)) (proper_clauses clauses) (proper_results (take k lines)) in
    let line : LogLine = slice_index_or lines k d in
    let this = line_satisfied v (literal_lists clauses ++ results (take k lines)) before proper line (log k d (omega arith)) in
    let more : take (suc k) lines ≡ take k lines ++ line ∷ [] = take-suc lines k d (omega arith) in
    subst (λ ls. Satisfies v (literal_lists clauses ++ results ls)) (sym more)
    (subst (λ cs. Satisfies v (literal_lists clauses ++ cs)) (sym (map-append (λ (x : LogLine). x.result.literals.items) (take k lines) (line ∷ [])))
    (subst (Satisfies v) (append_assoc (literal_lists clauses) (results (take k lines)) (line.result.literals.items ∷ []))
    (All-push (SatisfiesClause v) (literal_lists clauses ++ results (take k lines)) line.result.literals.items before this)))

-- a log that ends in the empty clause leaves no assignment
pub refutation_unsatisfiable : (clauses : List Clause) (lines : List LogLine) → IsRefutation (literal_lists clauses) lines → IsUnsatisfiable (literal_lists clauses)
refutation_unsatisfiable clauses lines refutation v sat =
    let e = refutation.empty_at_end in
    let before : List LogLine = e.0 in
    let last : LogLine = e.1 in
    let k : ℕ = length before in
    let total : length lines ≡ k + 1 = ap length e.2 ∙ (let g = length-append before (last ∷ []) in omega (arith, g)) in
    let all = lines_satisfied v clauses lines refutation.log sat last k (omega arith) in
    let proper = All-append IsProper (literal_lists clauses) (results (take k lines)) (proper_clauses clauses) (proper_results (take k lines)) in
    let is_last : slice_index_or lines k last ≡ last = ap (λ ls. slice_index_or ls k last) e.2 ∙ get_or-append_seam before last [] last in
    let this = line_satisfied v (literal_lists clauses ++ results (take k lines)) all proper (slice_index_or lines k last) (refutation.log k last (omega arith)) in
    let empty : SatisfiesClause v [] = subst (SatisfiesClause v) (ap (λ (x : LogLine). x.result.literals.items) is_last ∙ e.3) this in
    omega (arith, empty.2)
