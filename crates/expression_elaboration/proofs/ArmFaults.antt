-- Where an operand fails, so does the expression.
use Rattle.std.proofs.Common.{◌≡◌, ◌∙◌, List, Err, ap}
use Rattle.c_syntax.specs.Syntax.{Expression, Expression as e, Suffixes, Casts}
use Rattle.expression_typing.specs.Entities.{Scope}
use Rattle.expression_typing.specs.Progress as g
use Rattle.expression_typing.specs.Outcomes.{Made, go_on, and_then}
use Rattle.expression_typing.specs.Expressions.{typed, operand}
use Rattle.typing_base.specs.declared.faults.Fault.{Fault}
use Rattle.typing_base.specs.declared.faults.Fault.TheVariants as F
use Rattle.typing_base.specs.declared.notes.Notes.{Notes}
use Rattle.typing_base.specs.Views.{cause_view}
use Rattle.typing_base.specs.Follows.{Becomes, BecomesOperand}
use Rattle.expression_elaboration.specs.Chains.{CastTo, types_in_turn, cast_back}
use Rattle.expression_elaboration.proofs.Arms.{postfix_broken, typed_casts}

module _ (scope : Scope) where
  pub postfix_fails : (whole a p : Expression) (behind : Suffixes) (n : g.Notes) (fault : Fault) (m k : Notes)
      → whole ≡ e.postfix a behind → p ≡ a → BecomesOperand (typed scope p n) (Err fault) m → BecomesOperand (typed scope whole n) (Err fault) k
  postfix_fails whole a p behind n (F.Broken b) m k is p_is failed = postfix_broken scope whole a p behind n (cause_view b.cause) b.place is p_is failed
  postfix_fails whole a p behind n F.Memory m k is p_is failed = tt

  pub types_fail : {B : Type 0} (view : B → List CastTo) (whole a p : Expression) (chain c : Casts) (n : g.Notes) (fault : Fault) (m k : Notes)
      → whole ≡ e.casts chain a → p ≡ a → c ≡ chain → Becomes view (types_in_turn scope c n) (Err fault) m → BecomesOperand (typed scope whole n) (Err fault) k
  types_fail view whole a p chain c n (F.Broken b) m k is p_is c_is failed =
      typed_casts scope whole a p chain c n is p_is c_is ∙ ap (go_on (λ types. and_then (operand scope p) (cast_back types))) failed
  types_fail view whole a p chain c n F.Memory m k is p_is c_is failed = tt

  pub cast_operand_fails : (whole a p : Expression) (chain c : Casts) (n h : g.Notes) (types : List CastTo) (fault : Fault) (m k : Notes)
      → whole ≡ e.casts chain a → p ≡ a → c ≡ chain → types_in_turn scope c n ≡ Made types h → BecomesOperand (operand scope p h) (Err fault) m
      → BecomesOperand (typed scope whole n) (Err fault) k
  cast_operand_fails whole a p chain c n h types (F.Broken b) m k is p_is c_is types_is failed =
      typed_casts scope whole a p chain c n is p_is c_is ∙ ap (go_on (λ types. and_then (operand scope p) (cast_back types))) types_is ∙ ap (go_on (cast_back types)) failed
  cast_operand_fails whole a p chain c n h types F.Memory m k is p_is c_is types_is failed = tt
