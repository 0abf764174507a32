-- A chain of resolutions comes to one clause alone, so a line with a fault is not derived.
use Rattle.std.proofs.Common.{◌≡◌, ◌≢◌, ◌⊎◌, inl, inr, ℕ, ℤ, ◌<◌, List, [], ◌∷◌, ◌++◌, length, take, slice_index_or, arith, subst}
use Rattle.std.specs.Prelude.{Contains}
use Rattle.clause_db.specs.declared.clause.LogLine.{LogLine}
use Rattle.clause_db.specs.Literal.{variable_of, IsOrdered}
use Rattle.clause_db.specs.Log.{results, ResolvesTo, IsDerived}
use Rattle.clause_db.specs.Resolution.{ClashesOnlyAt, IsResolvent}
use Rattle.clause_db.proofs.Ordered.{at_member}
use Rattle.clause_db.proofs.Places.{IsNumbered-same}
use Rattle.chain_resolution.proofs.Lists.{ordered_same}
use Rattle.refutation_check.specs.Faults.{ChainFault, LineFault, IsFirstFault, IsRefusal}
use Rattle.refutation_check.specs.declared.fault.LogFault.{LogFault}
use Rattle.refutation_check.specs.declared.fault.LogFault.TheVariants.{Line, Memory}

-- a resolvent has no literal that another one lacks
covers : (variable : ℕ) (a b r s : List ℤ) → IsResolvent variable a b r → IsResolvent variable a b s → (l : ℤ) → Contains r l → Contains s l
covers variable a b r s one two l w =
    let from = at_member (λ m. (Contains a m ⊎ Contains b m) × (variable_of m ≢ variable)) r l one.from_either w in
    elim from.0 [
      | inl x ↦ at_member (λ m. variable_of m ≢ variable → Contains s m) a l two.keeps_first x from.1
      | inr x ↦ at_member (λ m. variable_of m ≢ variable → Contains s m) b l two.keeps_second x from.1
    ]

-- two clauses have one resolvent at a variable
pub resolvent_same : (variable : ℕ) (a b r s : List ℤ) → IsResolvent variable a b r → IsResolvent variable a b s → IsOrdered r → IsOrdered s → r ≡ s
resolvent_same variable a b r s one two or os = ordered_same r s or os (covers variable a b r s one two) (covers variable a b s r two one)

module _ (earlier : List (List ℤ)) where
  pub chain_excludes : (from : List ℤ) (pivots : List (ℕ × ℕ)) (to : List ℤ) (cause : ℕ) → ChainFault earlier from pivots to cause → ResolvesTo earlier from pivots to → ⊥
  chain_excludes from [] to cause fault e = fault.0 e
  chain_excludes from (pivot ∷ pivots) to cause (inl fault) w = fault.0 w.0 w.2
  chain_excludes from (pivot ∷ pivots) to cause (inr (other, numbered, inl fault)) w =
      fault.0 (subst (ClashesOnlyAt pivot.0 from) (IsNumbered-same earlier pivot.1 w.0 other w.2 numbered) w.3)
  chain_excludes from (pivot ∷ pivots) to cause (inr (other, numbered, inr (next, clash, resolvent, ordered, fault))) w =
      let same : w.0 ≡ other = IsNumbered-same earlier pivot.1 w.0 other w.2 numbered in
      let next_same : w.1 ≡ next = resolvent_same pivot.0 from other w.1 next (subst (λ o. IsResolvent pivot.0 from o w.1) same w.4) resolvent w.5 ordered in
      chain_excludes next pivots to cause fault (subst (λ n. ResolvesTo earlier n pivots to) next_same w.6)

  pub fault_excludes : (line : LogLine) (cause : ℕ) → LineFault earlier line cause → IsDerived earlier line → ⊥
  fault_excludes line cause (inl fault) derived = fault.0 derived.start derived.is_earlier
  fault_excludes line cause (inr (start, numbered, chain)) derived =
      chain_excludes start line.pivots.items line.result.literals.items cause chain (subst (λ s. ResolvesTo earlier s line.pivots.items line.result.literals.items) (IsNumbered-same earlier line.first derived.start start derived.is_earlier numbered) derived.chain)

-- a line that stands in a log
pub some_line : (lines : List LogLine) (k : ℕ) → k < length lines → LogLine
some_line [] k h = absurd (omega arith)
some_line (line ∷ lines) k h = line

-- a log with a first fault is no refutation
pub fault_refuses : (clauses : List (List ℤ)) (lines : List LogLine) (fault : LogFault) → IsFirstFault clauses lines fault → IsRefusal clauses lines fault
fault_refuses clauses lines (Line number cause) (inl w) =
    λ refutation. let d : LogLine = some_line lines w.0 w.2 in
    fault_excludes (clauses ++ results (take w.0 lines)) (slice_index_or lines w.0 d) cause (w.4 d) (refutation.log w.0 d w.2)
fault_refuses clauses lines (Line number cause) (inr w) = w.1
fault_refuses clauses lines Memory w = tt
