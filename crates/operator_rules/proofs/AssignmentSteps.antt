-- What assignments give, or which rule is broken first, where the outcome of each step is known.
use Rattle.std.proofs.Common.{◌≡◌, ◌∙◌, List}
use Rattle.rvt_num.specs.declared.operations.BinOp.{BinOp}
use Rattle.rvt_tree.specs.declared.places.Place.{Place}
use Rattle.rvt_tree.specs.declared.statements.Bump.{Bump}
use Rattle.rvt_tree.specs.Syntax.{Expression, Action, assign}
use Rattle.expression_typing.specs.Entities.{Structure}
use Rattle.expression_typing.specs.Operands.{Operand}
use Rattle.expression_typing.specs.Conversions.{converted_to}
use Rattle.expression_typing.specs.Assignment.{Sides, Target, target, no_struct_copied, modifiable, assigned, compound_of, compound_assigned, step_of, stepped}
use Rattle.expression_typing.specs.Outcomes.{Cause, give, broken}
use Rattle.operator_rules.proofs.Steps.{and_then_gives, and_then_breaks}

module _ (at : Sides) (left right : Operand) (to : Target) (is_target : target at.operator left ≡ give to) where
  pub assigned_gives : (value : Expression) → no_struct_copied at.right to.type right ≡ give tt → modifiable at.left left ≡ give tt
      → converted_to at.right to.type right ≡ give value → assigned at left right ≡ give (assign to.lvalue value)
  assigned_gives value no_copy may_write converts =
      and_then_gives (target at.operator left) _ to is_target
      ∙ and_then_gives (no_struct_copied at.right to.type right) _ tt no_copy
      ∙ and_then_gives (modifiable at.left left) _ tt may_write
      ∙ and_then_gives (converted_to at.right to.type right) _ value converts

  pub struct_is_copied : (cause : Cause) (place : Place) → no_struct_copied at.right to.type right ≡ broken cause place → assigned at left right ≡ broken cause place
  struct_is_copied cause place breaks =
      and_then_gives (target at.operator left) _ to is_target
      ∙ and_then_breaks (no_struct_copied at.right to.type right) _ cause place breaks

  pub constant_is_assigned : (cause : Cause) (place : Place) → no_struct_copied at.right to.type right ≡ give tt → modifiable at.left left ≡ broken cause place
      → assigned at left right ≡ broken cause place
  constant_is_assigned cause place no_copy breaks =
      and_then_gives (target at.operator left) _ to is_target
      ∙ and_then_gives (no_struct_copied at.right to.type right) _ tt no_copy
      ∙ and_then_breaks (modifiable at.left left) _ cause place breaks

  pub is_not_converted : (cause : Cause) (place : Place) → no_struct_copied at.right to.type right ≡ give tt → modifiable at.left left ≡ give tt
      → converted_to at.right to.type right ≡ broken cause place → assigned at left right ≡ broken cause place
  is_not_converted cause place no_copy may_write breaks =
      and_then_gives (target at.operator left) _ to is_target
      ∙ and_then_gives (no_struct_copied at.right to.type right) _ tt no_copy
      ∙ and_then_gives (modifiable at.left left) _ tt may_write
      ∙ and_then_breaks (converted_to at.right to.type right) _ cause place breaks

module _ (structs : List Structure) (op : BinOp) (at : Sides) (left right : Operand) (to : Target) (is_target : target at.operator left ≡ give to) where
  pub compound_gives : (made : Action) → compound_of structs op at.operator to.type to.lvalue right ≡ give made → modifiable at.left left ≡ give tt
      → compound_assigned structs op at left right ≡ give made
  compound_gives made is may_write =
      and_then_gives (target at.operator left) _ to is_target
      ∙ and_then_gives (compound_of structs op at.operator to.type to.lvalue right) _ made is
      ∙ and_then_gives (modifiable at.left left) _ tt may_write

  pub compound_breaks : (cause : Cause) (place : Place) → compound_of structs op at.operator to.type to.lvalue right ≡ broken cause place
      → compound_assigned structs op at left right ≡ broken cause place
  compound_breaks cause place breaks =
      and_then_gives (target at.operator left) _ to is_target
      ∙ and_then_breaks (compound_of structs op at.operator to.type to.lvalue right) _ cause place breaks

  pub compound_of_constant : (cause : Cause) (place : Place) (made : Action) → compound_of structs op at.operator to.type to.lvalue right ≡ give made
      → modifiable at.left left ≡ broken cause place → compound_assigned structs op at left right ≡ broken cause place
  compound_of_constant cause place made is breaks =
      and_then_gives (target at.operator left) _ to is_target
      ∙ and_then_gives (compound_of structs op at.operator to.type to.lvalue right) _ made is
      ∙ and_then_breaks (modifiable at.left left) _ cause place breaks

module _ (structs : List Structure) (bump : Bump) (operator first : Place) (operand : Operand) (to : Target) (is_target : target operator operand ≡ give to) where
  pub step_gives : (made : Action) → step_of structs bump operator to.type to.lvalue ≡ give made → modifiable first operand ≡ give tt
      → stepped structs bump operator first operand ≡ give made
  step_gives made is may_write =
      and_then_gives (target operator operand) _ to is_target
      ∙ and_then_gives (step_of structs bump operator to.type to.lvalue) _ made is
      ∙ and_then_gives (modifiable first operand) _ tt may_write

  pub step_breaks : (cause : Cause) (place : Place) → step_of structs bump operator to.type to.lvalue ≡ broken cause place
      → stepped structs bump operator first operand ≡ broken cause place
  step_breaks cause place breaks =
      and_then_gives (target operator operand) _ to is_target
      ∙ and_then_breaks (step_of structs bump operator to.type to.lvalue) _ cause place breaks

  pub step_of_constant : (cause : Cause) (place : Place) (made : Action) → step_of structs bump operator to.type to.lvalue ≡ give made
      → modifiable first operand ≡ broken cause place → stepped structs bump operator first operand ≡ broken cause place
  step_of_constant cause place made is breaks =
      and_then_gives (target operator operand) _ to is_target
      ∙ and_then_gives (step_of structs bump operator to.type to.lvalue) _ made is
      ∙ and_then_breaks (modifiable first operand) _ cause place breaks
