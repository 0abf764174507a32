-- Statements by the rules of their parts.
use Rattle.std.proofs.Common.{◌≡◌, ◌∙◌, List, Option, ap}
use Rattle.rvt_tree.specs.declared.places.Place.{Place}
use Rattle.c_syntax.specs.Syntax as s
use Rattle.expression_typing.specs.Progress.{Notes}
use Rattle.file_typing.specs.Blocks.{Block}
use Rattle.file_typing.specs.Statements.{typed_statement}
use Rattle.statement_elaboration.proofs.Headers.{for_by_header}
use Rattle.statement_elaboration.specs.Parts.{typed_return, typed_while, typed_for, typed_switch}

module _ (b : Block) (n : Notes) (whole : s.Statement) (at : Place) where
  pub return_at : (e : s.Expression) → whole ≡ s.return_value at e → typed_statement b whole n ≡ typed_return at b e n
  return_at e is = ap (λ w. typed_statement b w n) is

  pub while_at : (e : s.Expression) (body : s.Statement) → whole ≡ s.while_loop at e body → typed_statement b whole n ≡ typed_while b e body n
  while_at e body is = ap (λ w. typed_statement b w n) is

  pub for_at : (start : s.ForStart) (e : Option s.Expression) (last : List s.Action) (body : s.Statement)
      → whole ≡ s.for_loop at start e last body → typed_statement b whole n ≡ typed_for b start e last body n
  for_at start e last body is = ap (λ w. typed_statement b w n) is ∙ for_by_header b at start e last body n

  pub switch_at : (e : s.Expression) (groups : s.SwitchGroups) → whole ≡ s.switch at e groups → typed_statement b whole n ≡ typed_switch b e groups n
  switch_at e groups is = ap (λ w. typed_statement b w n) is
