-- What each action of the grammar makes of what was read, where a token of this class and text was read last, at this place.
use Rattle.std.specs.Prelude.{ℕ, List, Option, option_map}
use Rattle.rvt_tree.specs.declared.places.Place.{Place}
use Rattle.c_tokens.specs.declared.tokens.TokenClass.{TokenClass}
use Rattle.c_grammar.specs.declared.grammar.Action.{Action}
use Rattle.c_grammar.specs.declared.grammar.Action.TheVariants as A
use Rattle.expression_actions.specs.OperandRules as operand
use Rattle.expression_actions.specs.TypeRules as types
use Rattle.expression_actions.specs.Rules as expression
use Rattle.expression_actions.specs.Stacks.{OperandValues, TypeValues, Values as ExpressionValues}
use Rattle.file_actions.specs.ActRules as act
use Rattle.file_actions.specs.DeclarationRules as declaration
use Rattle.file_actions.specs.ExternalRules as external
use Rattle.file_actions.specs.StatementRules as statement
use Rattle.file_actions.specs.Stacks.{Values}

-- ---- an action on expressions and types

abbrev pub on_expressions : (ExpressionValues → Option ExpressionValues) → Values → Option Values
on_expressions rule v = option_map (λ new. record v { expressions = new }) (rule v.expressions)

abbrev pub on_operands : (OperandValues → Option OperandValues) → Values → Option Values
on_operands rule v = on_expressions (expression.on_operands rule) v

abbrev pub on_types : (TypeValues → Option TypeValues) → Values → Option Values
on_types rule v = on_expressions (expression.on_types rule) v

-- ---- each action

abbrev pub made : Action → TokenClass → List ℕ → Place → Values → Option Values
made A.Keep class text place v = on_operands (operand.keep class text place) v
made A.Name class text place v = on_operands operand.name v
made A.Constant class text place v = on_operands (operand.constant class place) v
made A.NoArguments class text place v = on_operands operand.no_arguments v
made A.AddArgument class text place v = on_operands operand.add_argument v
made A.Call class text place v = on_operands operand.call v
made A.Paren class text place v = on_operands operand.parenthesized v
made A.Index class text place v = on_operands operand.index v
made A.Dot class text place v = on_operands operand.dot v
made A.Arrow class text place v = on_operands operand.arrow v
made A.Unary class text place v = on_operands operand.unary v
made A.Sizeof class text place v = on_operands operand.sizeof_expression v
made A.Binary class text place v = on_operands operand.binary v
made A.Conditional class text place v = on_operands operand.conditional v
made A.NewBase class text place v = on_types types.new_base v
made A.Begin class text place v = on_types (types.begin place) v
made A.Const class text place v = on_types (types.constant place) v
made A.Void class text place v = on_types (types.type_word class place) v
made A.Word class text place v = on_types (types.type_word class place) v
made A.Named class text place v = on_types (types.named text place) v
made A.StructTag class text place v = on_types (types.struct_tag text place) v
made A.NoStructTag class text place v = on_types types.no_struct_tag v
made A.EnumTag class text place v = on_types (types.enum_tag text place) v
made A.NoEnumTag class text place v = on_types types.no_enum_tag v
made A.Pointer class text place v = on_types (types.pointer place) v
made A.NoPointer class text place v = on_types types.no_pointer v
made A.PointerConst class text place v = on_types types.pointer_constant v
made A.NoDims class text place v = on_types types.no_dims v
made A.Type class text place v = on_types types.type_name v
made A.Dim class text place v = on_expressions expression.dim v
made A.OpenDim class text place v = on_expressions expression.open_dim v
made A.Cast class text place v = on_expressions expression.cast v
made A.SizeofType class text place v = on_expressions expression.sizeof_type v
made A.Declarator class text place v = declaration.declarator v
made A.AddDeclarator class text place v = declaration.add_declarator v
made A.CondValue class text place v = declaration.cond_value v
made A.NoValues class text place v = declaration.no_values v
made A.AddValue class text place v = declaration.add_value v
made A.Braces class text place v = declaration.braces v
made A.InitWith class text place v = declaration.init_with v
made A.InitBare class text place v = declaration.init_bare v
made A.Declaration class text place v = declaration.declaration v
made A.NoParts class text place v = statement.no_parts v
made A.AddLocal class text place v = statement.add_local v
made A.AddStmt class text place v = statement.add_stmt v
made A.Block class text place v = statement.block v
made A.Empty class text place v = statement.empty place v
made A.ActStmt class text place v = statement.act_stmt v
made A.Break class text place v = statement.break_stmt place v
made A.Continue class text place v = statement.continue_stmt place v
made A.Return class text place v = statement.return_stmt v
made A.ReturnValue class text place v = statement.return_value v
made A.If class text place v = statement.if_stmt v
made A.IfElse class text place v = statement.if_else v
made A.While class text place v = statement.while_stmt v
made A.Do class text place v = statement.do_stmt v
made A.For class text place v = statement.for_stmt v
made A.ForLocal class text place v = statement.for_local v
made A.ForActs class text place v = statement.for_acts v
made A.ForNothing class text place v = statement.for_nothing v
made A.ForCond class text place v = statement.for_cond v
made A.ForEver class text place v = statement.for_ever v
made A.ForStep class text place v = statement.for_step v
made A.NoStep class text place v = statement.no_step v
made A.NoGroups class text place v = statement.no_groups v
made A.NoLabels class text place v = statement.no_labels v
made A.AddLabel class text place v = statement.add_label v
made A.AddGroup class text place v = statement.add_group v
made A.Switch class text place v = statement.switch_stmt v
made A.Case class text place v = statement.case_label v
made A.Default class text place v = statement.default_label place v
made A.AddAct class text place v = act.add_act v
made A.StepBefore class text place v = act.step_before v
made A.StepAfter class text place v = act.step_after class place v
made A.Discard class text place v = act.discard v
made A.Assign class text place v = act.assign v
made A.Evaluate class text place v = act.evaluate v
made A.NamedParam class text place v = external.named_param v
made A.BareParam class text place v = external.bare_param v
made A.NoParams class text place v = external.no_params v
made A.LoneVoid class text place v = external.lone_void v
made A.Params class text place v = external.params v
made A.Field class text place v = external.field v
made A.Fields class text place v = external.fields v
made A.EnumeratorWith class text place v = external.enumerator_with v
made A.EnumeratorBare class text place v = external.enumerator_bare v
made A.Enumerators class text place v = external.enumerators v
made A.BaseAlone class text place v = external.base_alone v
made A.Objects class text place v = external.objects v
made A.Typedef class text place v = external.typedef v
made A.Prototype class text place v = external.prototype v
made A.Function class text place v = external.function v
