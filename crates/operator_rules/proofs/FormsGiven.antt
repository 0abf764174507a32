-- What a form of expression gives, from what its operands give.
use Rattle.std.proofs.Common.{◌≡◌, ◌∙◌, Option, Some, option_map, true, false, ap, sym, if◌then◌else◌}
use Rattle.std.specs.Prelude.{option_and_then}
use Rattle.rvt_num.specs.declared.operations.BinOp.{BinOp}
use Rattle.rvt_num.specs.Number.{Number}
use Rattle.rvt_num.specs.Operations.{binary_of}
use Rattle.rvt_tree.specs.Syntax.{Expression, binary, logical_and, logical_or, conditional}
use Rattle.expression_typing.specs.ConstantExpressions.{number_given, holds, truth_number, unless_trapped}

module _ (whole a b p q : Expression) (x y r : Option Number) (p_is : p ≡ a) (q_is : q ≡ b) (x_is : x ≡ number_given p) (y_is : y ≡ number_given q) where
  left : x ≡ number_given a
  left = x_is ∙ ap number_given p_is

  right : y ≡ number_given b
  right = y_is ∙ ap number_given q_is

  pub binary_given : (op : BinOp) → whole ≡ binary op a b → r ≡ option_and_then (λ u. option_and_then (λ v. unless_trapped (binary_of op u v)) y) x
      → r ≡ number_given whole
  binary_given op is r_is =
      r_is ∙ (λ i. option_and_then (λ u. option_and_then (λ v. unless_trapped (binary_of op u v)) (right i)) (left i)) ∙ sym (ap number_given is)

  pub and_given : whole ≡ logical_and a b → r ≡ option_and_then (λ u. if holds u then option_map (λ v. truth_number (holds v)) y else Some (truth_number false)) x
      → r ≡ number_given whole
  and_given is r_is =
      r_is ∙ (λ i. option_and_then (λ u. if holds u then option_map (λ v. truth_number (holds v)) (right i) else Some (truth_number false)) (left i))
      ∙ sym (ap number_given is)

  pub or_given : whole ≡ logical_or a b → r ≡ option_and_then (λ u. if holds u then Some (truth_number true) else option_map (λ v. truth_number (holds v)) y) x
      → r ≡ number_given whole
  or_given is r_is =
      r_is ∙ (λ i. option_and_then (λ u. if holds u then Some (truth_number true) else option_map (λ v. truth_number (holds v)) (right i)) (left i))
      ∙ sym (ap number_given is)

  pub choice_given : (test t : Expression) (c : Option Number) → t ≡ test → c ≡ number_given t → whole ≡ conditional test a b
      → r ≡ option_and_then (λ u. if holds u then x else y) c → r ≡ number_given whole
  choice_given test t c t_is c_is is r_is =
      r_is ∙ (λ i. option_and_then (λ u. if holds u then left i else right i) ((c_is ∙ ap number_given t_is) i)) ∙ sym (ap number_given is)
