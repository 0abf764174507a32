-- A list that is turned twice is as it was.
use Rattle.std.proofs.Common.{◌≡◌, List, [], ◌∷◌, ap, refl, ◌∙◌}
use Rattle.rvt_tree.specs.Syntax.{Arguments, no_arguments, argument, Action, Initializers, no_initializers, initializer, Statements, no_statements, statement, Groups, no_groups, labelled}
use Rattle.renamed_trees.specs.TurnedLists.{arguments_turned, actions_turned, members_turned, statements_turned, groups_turned}

-- ---- arguments

abbrev arguments_before : Arguments → Arguments → Arguments
arguments_before no_arguments others = others
arguments_before (argument e rest) others = argument e (arguments_before rest others)

arguments_before_none : (xs : Arguments) → arguments_before xs no_arguments ≡ xs
arguments_before_none no_arguments = refl
arguments_before_none (argument e rest) = ap (argument e) (arguments_before_none rest)

arguments_turned_on : (xs ys others : Arguments) → arguments_turned (arguments_turned xs ys) others ≡ arguments_turned ys (arguments_before xs others)
arguments_turned_on no_arguments ys others = refl
arguments_turned_on (argument e rest) ys others = arguments_turned_on rest (argument e ys) others

pub arguments_turned_twice : (xs : Arguments) → arguments_turned (arguments_turned xs no_arguments) no_arguments ≡ xs
arguments_turned_twice xs = arguments_turned_on xs no_arguments no_arguments ∙ arguments_before_none xs

-- ---- actions

abbrev actions_before : List Action → List Action → List Action
actions_before [] others = others
actions_before (a ∷ rest) others = a ∷ actions_before rest others

actions_before_none : (xs : List Action) → actions_before xs [] ≡ xs
actions_before_none [] = refl
actions_before_none (a ∷ rest) = ap (λ rest. a ∷ rest) (actions_before_none rest)

actions_turned_on : (xs ys others : List Action) → actions_turned (actions_turned xs ys) others ≡ actions_turned ys (actions_before xs others)
actions_turned_on [] ys others = refl
actions_turned_on (a ∷ rest) ys others = actions_turned_on rest (a ∷ ys) others

pub actions_turned_twice : (xs : List Action) → actions_turned (actions_turned xs []) [] ≡ xs
actions_turned_twice xs = actions_turned_on xs [] [] ∙ actions_before_none xs

-- ---- members

abbrev members_before : Initializers → Initializers → Initializers
members_before no_initializers others = others
members_before (initializer i size rest) others = initializer i size (members_before rest others)

members_before_none : (xs : Initializers) → members_before xs no_initializers ≡ xs
members_before_none no_initializers = refl
members_before_none (initializer i size rest) = ap (initializer i size) (members_before_none rest)

members_turned_on : (xs ys others : Initializers) → members_turned (members_turned xs ys) others ≡ members_turned ys (members_before xs others)
members_turned_on no_initializers ys others = refl
members_turned_on (initializer i size rest) ys others = members_turned_on rest (initializer i size ys) others

pub members_turned_twice : (xs : Initializers) → members_turned (members_turned xs no_initializers) no_initializers ≡ xs
members_turned_twice xs = members_turned_on xs no_initializers no_initializers ∙ members_before_none xs

-- ---- statements

abbrev statements_before : Statements → Statements → Statements
statements_before no_statements others = others
statements_before (statement s rest) others = statement s (statements_before rest others)

statements_before_none : (xs : Statements) → statements_before xs no_statements ≡ xs
statements_before_none no_statements = refl
statements_before_none (statement s rest) = ap (statement s) (statements_before_none rest)

statements_turned_on : (xs ys others : Statements) → statements_turned (statements_turned xs ys) others ≡ statements_turned ys (statements_before xs others)
statements_turned_on no_statements ys others = refl
statements_turned_on (statement s rest) ys others = statements_turned_on rest (statement s ys) others

pub statements_turned_twice : (xs : Statements) → statements_turned (statements_turned xs no_statements) no_statements ≡ xs
statements_turned_twice xs = statements_turned_on xs no_statements no_statements ∙ statements_before_none xs

-- ---- groups

abbrev groups_before : Groups → Groups → Groups
groups_before no_groups others = others
groups_before (labelled labels body rest) others = labelled labels body (groups_before rest others)

groups_before_none : (xs : Groups) → groups_before xs no_groups ≡ xs
groups_before_none no_groups = refl
groups_before_none (labelled labels body rest) = ap (labelled labels body) (groups_before_none rest)

groups_turned_on : (xs ys others : Groups) → groups_turned (groups_turned xs ys) others ≡ groups_turned ys (groups_before xs others)
groups_turned_on no_groups ys others = refl
groups_turned_on (labelled labels body rest) ys others = groups_turned_on rest (labelled labels body ys) others

pub groups_turned_twice : (xs : Groups) → groups_turned (groups_turned xs no_groups) no_groups ≡ xs
groups_turned_twice xs = groups_turned_on xs no_groups no_groups ∙ groups_before_none xs
