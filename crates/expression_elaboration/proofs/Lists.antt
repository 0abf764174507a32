-- The loops over arguments and over dimensions, and the forms with several operands.
use Rattle.std.proofs.Common.{◌≡◌, ◌∙◌, List, [], ◌∷◌, ◌++◌, ℕ, suc, ◌+◌, length, length-append, Option, Some, ℤ, ap, refl, sym, arith, append_assoc}
use Rattle.rvt_num.specs.Number.{Number}
use Rattle.rvt_tree.specs.declared.expressions.Expr.{Expr}
use Rattle.rvt_tree.specs.Syntax.{Arguments as TypedArguments, argument as typed_argument}
use Rattle.rvt_tree.specs.Views.{expr_view, exprs_before}
use Rattle.c_types.specs.Layout.{Shape}
use Rattle.c_syntax.specs.Syntax.{Expression, Arguments, Arguments as a, Dimension, unsized, sized, Dimensions, Dimensions as d}
use Rattle.expression_typing.specs.Entities.{Scope}
use Rattle.expression_typing.specs.Progress.{Notes}
use Rattle.expression_typing.specs.FirstTokens.{first_token}
use Rattle.expression_typing.specs.FunctionCalls.{passed_as, later, count}
use Rattle.expression_typing.specs.TypeNames.{Lengths}
use Rattle.expression_typing.specs.Outcomes.{Outcome, Made, Broken, go_on, give, and_then}
use Rattle.expression_typing.specs.Expressions.{operand, passed, lengths, constant}
use Rattle.expression_elaboration.specs.Chains.{length_of}

exprs_before_append : (made : List Expr) (e : Expr) (others : TypedArguments) → exprs_before (made ++ e ∷ []) others ≡ exprs_before made (typed_argument (expr_view e) others)
exprs_before_append [] e others = refl
exprs_before_append (x ∷ made) e others = ap (typed_argument (expr_view x)) (exprs_before_append made e others)

values_more : (made : List Expr) (e : Expr) (o : Outcome TypedArguments)
    → go_on (λ values. give (exprs_before made values)) (go_on (λ values. give (typed_argument (expr_view e) values)) o) ≡ go_on (λ values. give (exprs_before (made ++ e ∷ []) values)) o
values_more made e (Made values m) = ap (λ l. Made l m) (sym (exprs_before_append made e values))
values_more made e (Broken cause at) = refl

lengths_more : (made : Lengths) (one : Option ℤ) (o : Outcome Lengths)
    → go_on (λ others. give (made ++ others)) (go_on (λ others. give (one ∷ others)) o) ≡ go_on (λ others. give ((made ++ one ∷ []) ++ others)) o
lengths_more made one (Made others m) = ap (λ l. Made l m) (sym (append_assoc made (one ∷ []) others))
lengths_more made one (Broken cause at) = refl

module _ (scope : Scope) where
  pub passed_step : (params : List Shape) (given rest : Arguments) (e : Expression) (made : List Expr) (value : Expr) (n m : Notes) (whole : Outcome TypedArguments)
      → whole ≡ and_then (passed scope params given) (λ values. give (exprs_before made values)) n
      → given ≡ a.argument e rest
      → and_then (operand scope e) (passed_as (first_token e) params) n ≡ Made (expr_view value) m
      → whole ≡ and_then (passed scope (later params) rest) (λ values. give (exprs_before (made ++ value ∷ []) values)) m
  passed_step params given rest e made value n m whole is given_is argument =
      is ∙ ap (λ l. and_then (passed scope params l) (λ values. give (exprs_before made values)) n) given_is
      ∙ ap (λ o. go_on (λ values. give (exprs_before made values)) (go_on (λ v. and_then (passed scope (later params) rest) (λ values. give (typed_argument v values))) o)) argument
      ∙ values_more made value (passed scope (later params) rest m)

  sized_then : (rest : Dimensions) (o : Outcome Number)
      → go_on (λ n. and_then (lengths scope rest) (λ numbers. give (Some n.value ∷ numbers))) o
      ≡ go_on (λ one. and_then (lengths scope rest) (λ others. give (one ∷ others))) (go_on (λ n. give (Some n.value)) o)
  sized_then rest (Made n m) = refl
  sized_then rest (Broken cause at) = refl

  pub dimension_then : (dimension : Dimension) (rest : Dimensions) (n : Notes)
      → lengths scope (d.dimension dimension rest) n ≡ and_then (length_of scope dimension) (λ one. and_then (lengths scope rest) (λ others. give (one ∷ others))) n
  dimension_then (unsized at) rest n = refl
  dimension_then (sized at x) rest n = sized_then rest (constant scope x n)

  pub lengths_step : (all rest : Dimensions) (dimension : Dimension) (made : Lengths) (one : Option ℤ) (n m : Notes) (whole : Outcome Lengths)
      → whole ≡ and_then (lengths scope all) (λ others. give (made ++ others)) n
      → all ≡ d.dimension dimension rest
      → length_of scope dimension n ≡ Made one m
      → whole ≡ and_then (lengths scope rest) (λ others. give ((made ++ one ∷ []) ++ others)) m
  lengths_step all rest dimension made one n m whole is all_is one_is =
      is ∙ ap (λ l. and_then (lengths scope l) (λ others. give (made ++ others)) n) all_is
      ∙ ap (go_on (λ others. give (made ++ others))) (dimension_then dimension rest n)
      ∙ ap (λ o. go_on (λ others. give (made ++ others)) (go_on (λ one. and_then (lengths scope rest) (λ others. give (one ∷ others))) o)) one_is
      ∙ lengths_more made one (lengths scope rest m)

pub number_step : (made : List Expr) (value : Expr) (arguments rest : Arguments) (e : Expression) (n : ℕ)
    → length made + count arguments ≡ n → arguments ≡ a.argument e rest → length (made ++ value ∷ []) + count rest ≡ n
number_step made value arguments rest e n is arguments_is =
    let one : count arguments ≡ suc (count rest) = ap count arguments_is in
    let more : length (made ++ value ∷ []) ≡ length made + 1 = length-append made (value ∷ []) in
    omega (arith, is, one, more)
