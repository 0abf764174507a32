-- How many values stand on each stack.
use Rattle.std.specs.Prelude.{ℕ, zero, suc, List, [], ◌∷◌}
use Rattle.file_actions.specs.Stacks.{Values}
use Rattle.c_source.specs.StackEffects.{Stack, Kept, Expressions, Arguments, Types, Bases, Pointers, Dimensions, Declarators, Parameters, Statements, Declarations, Initializers, Braced, Parts, Actions, Starts, Tests, Steps, Groups, Labels, Label}

abbrev pub count : {X : Type 0} → List X → ℕ
count [] = zero
count (x ∷ xs) = suc (count xs)

-- by stack
abbrev pub size : Values → Stack → ℕ
size v Kept = count v.expressions.operands.kept
size v Expressions = count v.expressions.operands.expressions
size v Arguments = count v.expressions.operands.arguments
size v Types = count v.expressions.types.names
size v Bases = count v.expressions.types.bases
size v Pointers = count v.expressions.types.pointers
size v Dimensions = count v.expressions.types.dims
size v Declarators = count v.declarations.declarators
size v Parameters = count v.externals.lists
size v Statements = count v.statements.statements
size v Declarations = count v.declarations.declarations
size v Initializers = count v.declarations.values
size v Braced = count v.declarations.braced
size v Parts = count v.statements.blocks
size v Actions = count v.statements.acts
size v Starts = count v.statements.starts
size v Tests = count v.statements.tests
size v Steps = count v.statements.lasts
size v Groups = count v.statements.groups
size v Labels = count v.statements.labels
size v Label = count v.statements.label
