-- What was read, whatever its trees' places in memory are.
use Rattle.std.specs.Prelude.{List, map, Option, option_map, Vec}
use Rattle.std.specs.Global.{Global}
use Rattle.c_syntax.specs.declared.declarations.Value.{Value}
use Rattle.c_syntax.specs.declared.expressions.Expr.{Expr}
use Rattle.c_syntax.specs.declared.statements.Act.{Act}
use Rattle.c_syntax.specs.declared.statements.Group.{Group}
use Rattle.c_syntax.specs.declared.statements.Label.{Label}
use Rattle.c_syntax.specs.declared.statements.Part.{Part}
use Rattle.c_syntax.specs.Syntax.{Expression, Initializer, Action, SwitchGroup, SwitchLabel, BlockItem}
use Rattle.c_syntax.specs.Views.{expr_view, declarator_view, value_view, init_view, declaration_view, field_view, enumerator_view, body_view, param_view, params_view, act_view, start_view, label_view, stmt_view, part_view, group_view, item_view}
use Rattle.expression_actions.specs.Shown.{shown as expressions_shown}
use Rattle.file_actions.specs.declared.declaration_parts.Declarations.{Declarations}
use Rattle.file_actions.specs.declared.external_parts.Externals.{Externals}
use Rattle.file_actions.specs.declared.parts.Parts.{Parts}
use Rattle.file_actions.specs.declared.statement_parts.Statements.{Statements}
use Rattle.file_actions.specs.Stacks.{DeclarationValues, ExternalValues, StatementValues, Values}

abbrev pub values_shown : Vec Value Global → List Initializer
values_shown vs = map value_view vs.items

abbrev pub parts_shown : Vec Part Global → List BlockItem
parts_shown ps = map part_view ps.items

abbrev pub labels_shown : Vec Label Global → List SwitchLabel
labels_shown ls = map label_view ls.items

abbrev pub groups_shown : Vec Group Global → List SwitchGroup
groups_shown gs = map group_view gs.items

abbrev pub acts_shown : Vec Act Global → List Action
acts_shown acts = map act_view acts.items

abbrev pub test_shown : Option Expr → Option Expression
test_shown test = option_map expr_view test

abbrev pub declarations_shown : Declarations → DeclarationValues
declarations_shown d = record {
  declarators = map declarator_view d.declarators;
  declared = map declarator_view d.declared.items;
  values = map value_view d.values;
  braced = map values_shown d.braced;
  inits = map init_view d.inits.items;
  declarations = map declaration_view d.declarations;
}

abbrev pub externals_shown : Externals → ExternalValues
externals_shown x = record {
  fields = map field_view x.fields.items;
  enumerators = map enumerator_view x.enumerators.items;
  members = option_map body_view x.body;
  params = map param_view x.params.items;
  lists = map params_view x.lists;
  items = map item_view x.items.items;
}

abbrev pub statements_shown : Statements → StatementValues
statements_shown s = record {
  acts = map act_view s.acts;
  listed = map act_view s.listed.items;
  statements = map stmt_view s.statements;
  blocks = map parts_shown s.blocks;
  label = map label_view s.label;
  labels = map labels_shown s.labels;
  groups = map groups_shown s.groups;
  starts = map start_view s.starts;
  tests = map test_shown s.tests;
  lasts = map acts_shown s.lasts;
}

abbrev pub shown : Parts → Values
shown p = record {
  expressions = expressions_shown p.expressions;
  declarations = declarations_shown p.declarations;
  externals = externals_shown p.externals;
  statements = statements_shown p.statements;
}
