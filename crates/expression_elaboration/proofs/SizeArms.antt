-- What the definition says of a `sizeof`, where its operand or its type is known.
use Rattle.std.proofs.Common.{◌≡◌, ◌∙◌, List, ap, sym}
use Rattle.rvt_tree.specs.declared.places.Place.{Place}
use Rattle.c_syntax.specs.Syntax.{Expression, Expression as e, TypeName}
use Rattle.expression_typing.specs.Entities.{Scope, Structure, unevaluated}
use Rattle.expression_typing.specs.Progress.{Notes}
use Rattle.expression_typing.specs.Operands.{Operand}
use Rattle.expression_typing.specs.SizeofOperator.{size_of_operand, size_of_type}
use Rattle.expression_typing.specs.TypeNames.{WrittenType}
use Rattle.expression_typing.specs.Outcomes.{Made, go_on}
use Rattle.expression_typing.specs.Expressions.{typed, written_type}

pub size_of_typed : (scope inner : Scope) (whole a p : Expression) (at : Place) (n m : Notes) (x : Operand) (structs : List Structure)
    → whole ≡ e.sizeof_expression at a → p ≡ a → inner ≡ unevaluated scope → structs ≡ scope.structs → typed inner p n ≡ Made x m
    → typed scope whole n ≡ size_of_operand structs at x m
size_of_typed scope inner whole a p at n m x structs is p_is inner_is structs_is x_is =
    ap (λ w. typed scope w n) (is ∙ ap (e.sizeof_expression at) (sym p_is))
    ∙ ap (go_on (size_of_operand scope.structs at)) (ap (λ s. typed s p n) (sym inner_is) ∙ x_is)
    ∙ ap (λ s. size_of_operand s at x m) (sym structs_is)

pub size_of_written : (scope inner : Scope) (whole : Expression) (name own : TypeName) (at : Place) (n m : Notes) (written : WrittenType) (structs : List Structure)
    → whole ≡ e.sizeof_type at name → own ≡ name → inner ≡ unevaluated scope → structs ≡ scope.structs → written_type inner own n ≡ Made written m
    → typed scope whole n ≡ size_of_type structs at written m
size_of_written scope inner whole name own at n m written structs is own_is inner_is structs_is written_is =
    ap (λ w. typed scope w n) (is ∙ ap (e.sizeof_type at) (sym own_is))
    ∙ ap (go_on (size_of_type scope.structs at)) (ap (λ s. written_type s own n) (sym inner_is) ∙ written_is)
    ∙ ap (λ s. size_of_type s at written m) (sym structs_is)
