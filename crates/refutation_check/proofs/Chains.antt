-- A chain of resolutions, read pivot by pivot.
use Rattle.std.proofs.Common.{◌≡◌, inl, inr, ℕ, suc, ℤ, ◌<◌, ◌≤◌, ◌+◌, List, [], ◌∷◌, ◌++◌, length, drop, get_or, refl, sym, ap, ◌∙◌, arith, subst, length-append, length-drop, true, false}
use Rattle.std.proofs.Math.Seq.{drop-cons}
use Rattle.std.proofs.lemmas.List.{length-map}
use Rattle.std.proofs.lemmas.Option.{slice_get_within}
use Rattle.clause_db.specs.declared.clause.Clause.{Clause}
use Rattle.clause_db.specs.declared.clause.LogLine.{LogLine}
use Rattle.clause_db.specs.Literal.{IsOrdered}
use Rattle.clause_db.specs.Log.{literal_lists, results, ResolvesTo}
use Rattle.clause_db.specs.Numbered.{IsNumbered}
use Rattle.clause_db.specs.Resolution.{ClashesOnlyAt, IsResolvent}
use Rattle.refutation_check.specs.Faults.{HasNoClause, ChainFault}

-- numbers out of range have no clause
pub no_clause : (clauses : List Clause) (lines : List LogLine) (number : ℕ) → ((0 < number) × (number ≤ length clauses + length lines) → false ≡ true) → HasNoClause (literal_lists clauses ++ results lines) number
no_clause clauses lines number never clause (k, is, at) =
    let within : k < length (literal_lists clauses ++ results lines) = slice_get_within _ k clause at in
    let counted : k < length clauses + length lines = simp (length-append, length-map) at within in
    cc (never (omega (arith, is), omega (arith, is, counted)))

module _ (earlier : List (List ℤ)) (from : List ℤ) (pivots : List (ℕ × ℕ)) (i : ℕ) (within : i < length pivots) (to : List ℤ) where
  -- what is left of the pivots
  left : drop i pivots ≡ get_or pivots i (0, 0) ∷ drop (i + 1) pivots
  left = drop-cons pivots i (0, 0) within ∙ ap (λ n. get_or pivots i (0, 0) ∷ drop n pivots) (let e : suc i ≡ i + 1 = omega arith in e)

  pub chain_without_clause : HasNoClause earlier (get_or pivots i (0, 0)).1 → ChainFault earlier from (drop i pivots) to 51
  chain_without_clause none = subst (λ ps. ChainFault earlier from ps to 51) (sym left) (inl (none, refl))

  module _ (other : List ℤ) (numbered : IsNumbered earlier (get_or pivots i (0, 0)).1 other) where
    pub chain_without_clash : (ClashesOnlyAt (get_or pivots i (0, 0)).0 from other → ⊥) → ChainFault earlier from (drop i pivots) to 52
    chain_without_clash none = subst (λ ps. ChainFault earlier from ps to 52) (sym left) (inr (other, numbered, inl (none, refl)))

    module _ (next : List ℤ) (clash : ClashesOnlyAt (get_or pivots i (0, 0)).0 from other) (resolvent : IsResolvent (get_or pivots i (0, 0)).0 from other next) (ordered : IsOrdered next) where
      pub fault_behind : (cause : ℕ) → ChainFault earlier next (drop (i + 1) pivots) to cause → ChainFault earlier from (drop i pivots) to cause
      fault_behind cause fault = subst (λ ps. ChainFault earlier from ps to cause) (sym left) (inr (other, numbered, inr (next, clash, resolvent, ordered, fault)))

      pub resolves_behind : ResolvesTo earlier next (drop (i + 1) pivots) to → ResolvesTo earlier from (drop i pivots) to
      resolves_behind chain = subst (λ ps. ResolvesTo earlier from ps to) (sym left) (other, next, numbered, clash, resolvent, ordered, chain)

pub nothing_left : (pivots : List (ℕ × ℕ)) (i : ℕ) → length pivots ≤ i → drop i pivots ≡ []
nothing_left pivots i h = is_empty (drop i pivots) (let g = length-drop i pivots in omega (arith, g, h)) where
  is_empty : (xs : List (ℕ × ℕ)) → length xs ≡ 0 → xs ≡ []
  is_empty [] h = refl
  is_empty (x ∷ xs) h = absurd (omega arith)
