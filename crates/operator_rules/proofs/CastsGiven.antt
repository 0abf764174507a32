-- Casts of a constant expression, from the outermost inwards.
use Rattle.std.proofs.Common.{◌≡◌, ◌∙◌, List, [], ◌∷◌, ◌++◌, Option, option_map, ap, sym, refl}
use Rattle.rvt_num.specs.declared.kinds.Kind.{Kind}
use Rattle.rvt_num.specs.Number.{Number}
use Rattle.rvt_num.specs.Operations.{converted}
use Rattle.rvt_tree.specs.Syntax.{Expression, cast}
use Rattle.expression_typing.specs.ConstantExpressions.{number_given}
use Rattle.operator_rules.specs.CastChains.{cast_back}

pub cast_back_append : (kinds : List Kind) (kind : Kind) (n : Option Number) → cast_back (kinds ++ kind ∷ []) n ≡ cast_back kinds (option_map (converted kind) n)
cast_back_append [] kind n = refl
cast_back_append (first ∷ kinds) kind n = ap (option_map (converted first)) (cast_back_append kinds kind n)

-- one cast further inwards
pub one_cast_further : (kinds : List Kind) (whole inner operand : Expression) (kind : Kind) → cast_back kinds (number_given inner) ≡ number_given whole → inner ≡ cast kind operand
    → cast_back (kinds ++ kind ∷ []) (number_given operand) ≡ number_given whole
one_cast_further kinds whole inner operand kind before is =
    cast_back_append kinds kind (number_given operand) ∙ sym (ap (λ e. cast_back kinds (number_given e)) is) ∙ before
