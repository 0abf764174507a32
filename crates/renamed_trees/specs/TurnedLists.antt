-- A list from its end to its beginning, before others.
use Rattle.std.specs.Prelude.{List, [], ◌∷◌}
use Rattle.rvt_tree.specs.Syntax.{Arguments, no_arguments, argument, Action, Initializers, no_initializers, initializer, Statements, no_statements, statement, Groups, no_groups, labelled}

abbrev pub arguments_turned : Arguments → Arguments → Arguments
arguments_turned no_arguments others = others
arguments_turned (argument e rest) others = arguments_turned rest (argument e others)

abbrev pub actions_turned : List Action → List Action → List Action
actions_turned [] others = others
actions_turned (a ∷ rest) others = actions_turned rest (a ∷ others)

abbrev pub members_turned : Initializers → Initializers → Initializers
members_turned no_initializers others = others
members_turned (initializer i size rest) others = members_turned rest (initializer i size others)

abbrev pub statements_turned : Statements → Statements → Statements
statements_turned no_statements others = others
statements_turned (statement s rest) others = statements_turned rest (statement s others)

abbrev pub groups_turned : Groups → Groups → Groups
groups_turned no_groups others = others
groups_turned (labelled labels body rest) others = groups_turned rest (labelled labels body others)
