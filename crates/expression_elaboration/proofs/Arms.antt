-- What the definition says of an expression, where its operands are known.
use Rattle.std.proofs.Common.{◌≡◌, ◌∙◌, List, ap, sym}
use Rattle.rvt_tree.specs.declared.places.Place.{Place}
use Rattle.rvt_tree.specs.Syntax.{Arguments as TypedArguments}
use Rattle.c_syntax.specs.declared.bases.Word.{Word}
use Rattle.c_syntax.specs.declared.operators.Infix.{Infix}
use Rattle.c_syntax.specs.Syntax.{Expression, Expression as e, Arguments, Suffixes, Casts}
use Rattle.expression_typing.specs.Entities.{Scope, in_scope}
use Rattle.expression_typing.specs.Progress.{Notes}
use Rattle.expression_typing.specs.Operands.{Operand, Ends}
use Rattle.expression_typing.specs.FirstTokens.{ends_of}
use Rattle.expression_typing.specs.FunctionCalls.{Callee, callee, called, count}
use Rattle.expression_typing.specs.ConditionalOperator.{choice_of}
use Rattle.expression_typing.specs.Operators.{operated}
use Rattle.expression_typing.specs.Outcomes.{Cause, Made, Broken, go_on, give, and_then}
use Rattle.expression_typing.specs.Expressions.{typed, operand, passed, followed}
use Rattle.expression_elaboration.specs.Chains.{CastTo, types_in_turn, cast_back}
use Rattle.expression_elaboration.proofs.Suffixed.{starts, starts_broken}
use Rattle.expression_elaboration.proofs.CastChains.{chain_of_casts}

module _ (scope : Scope) where
  pub typed_binary : (whole a b p q : Expression) (op : Infix) (at : Place) (n k m : Notes) (x y : Operand)
      → whole ≡ e.binary op at a b → p ≡ a → q ≡ b
      → operand scope p n ≡ Made x k → operand scope q k ≡ Made y m
      → typed scope whole n ≡ operated scope.structs op at x y m
  typed_binary whole a b p q op at n k m x y is p_is q_is left right =
      ap (λ w. typed scope w n) (is ∙ ap (λ v. e.binary op at v b) (sym p_is) ∙ ap (e.binary op at p) (sym q_is))
      ∙ ap (go_on (λ x. and_then (operand scope q) (λ y. operated scope.structs op at x y))) left
      ∙ ap (go_on (λ y. operated scope.structs op at x y)) right

  pub typed_conditional : (whole t a b o p q : Expression) (at : Place) (n h k m : Notes) (c x y : Operand)
      → whole ≡ e.conditional at t a b → o ≡ t → p ≡ a → q ≡ b
      → operand scope o n ≡ Made c h → operand scope p h ≡ Made x k → operand scope q k ≡ Made y m
      → typed scope whole n ≡ choice_of at c x y m
  typed_conditional whole t a b o p q at n h k m c x y is o_is p_is q_is test first second =
      ap (λ w. typed scope w n) (is ∙ ap (λ v. e.conditional at v a b) (sym o_is) ∙ ap (λ v. e.conditional at o v b) (sym p_is) ∙ ap (e.conditional at o p) (sym q_is))
      ∙ ap (go_on (λ c. and_then (operand scope p) (λ x. and_then (operand scope q) (λ y. choice_of at c x y)))) test
      ∙ ap (go_on (λ x. and_then (operand scope q) (λ y. choice_of at c x y))) first
      ∙ ap (go_on (λ y. choice_of at c x y)) second

  pub typed_postfix : (whole a p : Expression) (suffixes s : Suffixes) (ends : Ends) (n m : Notes) (x : Operand)
      → whole ≡ e.postfix a suffixes → p ≡ a → s ≡ suffixes → ends ≡ ends_of p
      → typed scope p n ≡ Made x m → typed scope whole n ≡ followed scope ends (give x) s m
  typed_postfix whole a p suffixes s ends n m x is p_is s_is ends_is primary =
      ap (λ w. typed scope w n) (is ∙ ap (λ v. e.postfix v suffixes) (sym p_is) ∙ ap (e.postfix p) (sym s_is))
      ∙ starts scope (ends_of p) (typed scope p) x n m primary s
      ∙ ap (λ v. followed scope v (give x) s m) (sym ends_is)

  pub postfix_broken : (whole a p : Expression) (suffixes : Suffixes) (n : Notes) (cause : Cause) (at : Place)
      → whole ≡ e.postfix a suffixes → p ≡ a → typed scope p n ≡ Broken cause at → typed scope whole n ≡ Broken cause at
  postfix_broken whole a p suffixes n cause at is p_is primary =
      ap (λ w. typed scope w n) (is ∙ ap (λ v. e.postfix v suffixes) (sym p_is))
      ∙ starts_broken scope (ends_of p) (typed scope p) cause at n primary suffixes

  -- casts: the types, the operand, and then the casts
  pub typed_casts : (whole a p : Expression) (chain c : Casts) (n : Notes) → whole ≡ e.casts chain a → p ≡ a → c ≡ chain
      → typed scope whole n ≡ and_then (types_in_turn scope c) (λ types. and_then (operand scope p) (cast_back types)) n
  typed_casts whole a p chain c n is p_is c_is =
      ap (λ w. typed scope w n) (is ∙ ap (e.casts chain) (sym p_is) ∙ ap (λ v. e.casts v p) (sym c_is))
      ∙ chain_of_casts scope (operand scope p) c n

  pub typed_cast : (whole a p : Expression) (chain c : Casts) (n k m : Notes) (types : List CastTo) (x : Operand)
      → whole ≡ e.casts chain a → p ≡ a → c ≡ chain → types_in_turn scope c n ≡ Made types k → operand scope p k ≡ Made x m
      → typed scope whole n ≡ cast_back types x m
  typed_cast whole a p chain c n k m types x is p_is c_is types_is x_is =
      typed_casts whole a p chain c n is p_is c_is
      ∙ ap (go_on (λ types. and_then (operand scope p) (cast_back types))) types_is
      ∙ ap (go_on (cast_back types)) x_is

  pub typed_call : (word : Word) (arguments : Arguments) (n k m : Notes) (to : Callee) (values : TypedArguments)
      → callee scope word (in_scope scope.names word.name) n ≡ Made to k → passed scope to.params arguments k ≡ Made values m
      → typed scope (e.call word arguments) n ≡ called word.place to (count arguments) values m
  typed_call word arguments n k m to values to_is values_is =
      ap (go_on (λ to. and_then (passed scope to.params arguments) (λ values. called word.place to (count arguments) values))) to_is
      ∙ ap (go_on (λ values. called word.place to (count arguments) values)) values_is
