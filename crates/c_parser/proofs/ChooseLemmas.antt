-- What the first row that passes tells.
use Rattle.std.proofs.Common.{◌≡◌, Bool, true, false, if◌then◌else◌, List, [], ◌∷◌, Some, None, refl, subst}
use Rattle.c_parser.specs.Rules.{Row, OneOf, here, later}
use Rattle.c_parser.specs.LookAhead.{first_row}

module _ {C L A : Type 0} (p : Row C L A → Bool) where
  first_found_by : (first : Row C L A) (rows : List (Row C L A)) (row : Row C L A) (b : Bool) → p first ≡ b → (if b then Some first else first_row p rows) ≡ Some row
      → (first_row p rows ≡ Some row → OneOf row rows × (p row ≡ true)) → OneOf row (first ∷ rows) × (p row ≡ true)
  first_found_by first rows row true e h go =
      let same_row : first ≡ row = cc in
      (subst (λ (r : Row C L A). OneOf r (first ∷ rows)) same_row here, subst (λ (r : Row C L A). p r ≡ true) same_row e)
  first_found_by first rows row false e h go = let rest = go h in (later rest.0, rest.1)

  pub first_found : (rows : List (Row C L A)) (row : Row C L A) → first_row p rows ≡ Some row → OneOf row rows × (p row ≡ true)
  first_found [] row h = cc
  first_found (first ∷ rows) row h = first_found_by first rows row (p first) refl h (first_found rows row)

  none_by : (first : Row C L A) (rows : List (Row C L A)) (b : Bool) → p first ≡ b → (if b then Some first else first_row p rows) ≡ None
      → (p first ≡ false) × (first_row p rows ≡ None)
  none_by first rows true e h = cc
  none_by first rows false e h = (e, h)

  pub none_found : (rows : List (Row C L A)) → first_row p rows ≡ None → (row : Row C L A) → OneOf row rows → p row ≡ false
  none_found [] h row one = elim one [ ]
  none_found (first ∷ rows) h row here = (none_by first rows (p first) refl h).0
  none_found (first ∷ rows) h row (later one) = none_found rows (none_by first rows (p first) refl h).1 row one
