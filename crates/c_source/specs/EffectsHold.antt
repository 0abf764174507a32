-- Each alternative of each line of the grammar leaves the values that the line leaves.
use Rattle.std.specs.Prelude.{◌≡◌, ℕ, zero, suc, Bool, true, ◌==◌, List, [], ◌∷◌, Some, refl, if◌then◌else◌}
use Rattle.c_parser.specs.LookAhead.{nth}
use Rattle.stack_effects.specs.Effects.{Effects, balances}
use Rattle.c_grammar.specs.declared.grammar.Action.{Action}
use Rattle.c_grammar.specs.declared.grammar.Line.{Line}
use Rattle.c_grammar.specs.Grammar.{rules, table, lines, number, first, follow, empty, classes, all_lines, line_number}
use Rattle.c_source.specs.StackEffects.{Stack, Kept, Expressions, Arguments, Types, Bases, Pointers, Dimensions, Declarators, Parameters, Statements, Declarations, Initializers, Braced, Parts, Actions, Starts, Tests, Steps, Groups, Labels, Label, stacks, taken, given, needed, left}

unfoldable pub stack_number : Stack → ℕ
stack_number Kept = 0
stack_number Expressions = 1
stack_number Arguments = 2
stack_number Types = 3
stack_number Bases = 4
stack_number Pointers = 5
stack_number Dimensions = 6
stack_number Declarators = 7
stack_number Parameters = 8
stack_number Statements = 9
stack_number Declarations = 10
stack_number Initializers = 11
stack_number Braced = 12
stack_number Parts = 13
stack_number Actions = 14
stack_number Starts = 15
stack_number Tests = 16
stack_number Steps = 17
stack_number Groups = 18
stack_number Labels = 19
stack_number Label = 20

-- how often a stack is named
unfoldable pub times : Stack → List Stack → ℕ
times i [] = zero
times i (j ∷ js) = if stack_number i == stack_number j then suc (times i js) else times i js

unfoldable pub effects : Effects Line Action Stack
effects = record {
  takes = λ a i. times i (taken a);
  gives = λ a i. times i (given a);
  needs = λ l i. times i (needed l);
  leaves = λ l i. times i (left l);
}

pub stack_at : (i : Stack) → nth stacks (stack_number i) ≡ Some i
unfolding stack_number
stack_at Kept = refl
stack_at Expressions = refl
stack_at Arguments = refl
stack_at Types = refl
stack_at Bases = refl
stack_at Pointers = refl
stack_at Dimensions = refl
stack_at Declarators = refl
stack_at Parameters = refl
stack_at Statements = refl
stack_at Declarations = refl
stack_at Initializers = refl
stack_at Braced = refl
stack_at Parts = refl
stack_at Actions = refl
stack_at Starts = refl
stack_at Tests = refl
stack_at Steps = refl
stack_at Groups = refl
stack_at Labels = refl
stack_at Label = refl

pub holds : balances effects rules table stacks ≡ true
unfolding effects times stack_number taken given needed left rules table lines number first follow empty classes all_lines line_number
holds = refl
