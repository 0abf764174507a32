-- The test on classes.
use Rattle.std.proofs.Common.{◌≡◌, ◌≢◌, true, false, not, Some, sym, ◌∙◌, ap, eq-eqb, eqb-true}
use Rattle.std.proofs.lemmas.Bool.{ne_eqb}
use Rattle.c_parser.specs.Rules.{Rules, same}
use Rattle.c_parser.specs.LookAhead.{nth, Table, IsRight}

pub same_class : {C L A : Type 0} (rules : Rules C L A) (c d : C) → c ≡ d → same rules c d ≡ true
same_class rules c d e = eq-eqb _ _ (ap rules.number e)

module _ {C L A : Type 0} (rules : Rules C L A) (table : Table C L) (right : IsRight rules table) where
  pub number_one : (c d : C) → rules.number c ≡ rules.number d → c ≡ d
  number_one c d e = let joined : Some c ≡ Some d = sym (right.class_at c) ∙ ap (nth table.classes) e ∙ right.class_at d in cc

  pub same_true : (c d : C) → same rules c d ≡ true → c ≡ d
  same_true c d h = number_one c d (eqb-true _ _ h)

  pub same_false : (c d : C) → c ≢ d → same rules c d ≡ false
  same_false c d h = ne_eqb _ _ (λ e. h (number_one c d e))

  pub not_same : (c d : C) → c ≢ d → not (same rules d c) ≡ true
  not_same c d h = ap not (same_false d c (λ e. h (sym e)))
