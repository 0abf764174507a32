-- Lines that are derived have the variables of the clauses alone.
use Rattle.std.proofs.Common.{inl, inr, ℕ, ℤ, ◌<◌, List, [], ◌∷◌, subst}
use Rattle.std.specs.Prelude.{All}
use Rattle.clause_db.specs.declared.clause.LogLine.{LogLine}
use Rattle.clause_db.specs.Literal.{variable_of}
use Rattle.clause_db.specs.Log.{ResolvesTo, IsDerived}
use Rattle.clause_db.specs.Resolution.{IsResolvent}
use Rattle.clause_db.proofs.Ordered.{at_member}
use Rattle.unit_propagation.specs.Status.{FitsVariables}
use Rattle.unit_propagation.proofs.Fits.{fits_numbered}

-- the variables are above 0 and below a bound
abbrev pub AreBelow : ℕ → List ℤ → Type 0
AreBelow bound clause = All (λ l. (0 < variable_of l) × (variable_of l < bound)) clause

module _ (bound : ℕ) (earlier : List (List ℤ)) (fits : FitsVariables bound earlier) where
  resolvent_below : (variable : ℕ) (a b c : List ℤ) → AreBelow bound a → AreBelow bound b → IsResolvent variable a b c → AreBelow bound c
  resolvent_below variable a b c in_a in_b resolvent k d h = elim (resolvent.from_either k d h).0 [
    | inl w ↦ at_member (λ l. (0 < variable_of l) × (variable_of l < bound)) a _ in_a w
    | inr w ↦ at_member (λ l. (0 < variable_of l) × (variable_of l < bound)) b _ in_b w
  ]

  chain_below : (from : List ℤ) (pivots : List (ℕ × ℕ)) (to : List ℤ) → AreBelow bound from → ResolvesTo earlier from pivots to → AreBelow bound to
  chain_below from [] to below e = subst (AreBelow bound) e below
  chain_below from (pivot ∷ pivots) to below w =
      chain_below w.1 pivots to (resolvent_below pivot.0 from w.0 w.1 below (fits_numbered bound pivot.1 earlier w.0 fits w.2).1 w.4) w.6

  pub line_below : (line : LogLine) → IsDerived earlier line → AreBelow bound line.result.literals.items
  line_below line derived = chain_below derived.start line.pivots.items line.result.literals.items (fits_numbered bound line.first earlier derived.start fits derived.is_earlier).1 derived.chain
