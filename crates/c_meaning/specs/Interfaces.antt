-- The interface of a loop: the locals from outside it that it names.
use Rattle.std.specs.Prelude.{◌≡◌, ℕ, ◌<◌, ◌⊎◌, ◌↔◌, List, [], ◌∷◌, ◌++◌, slice_get, Option, Some, None}
use Rattle.rvt_tree.specs.declared.expressions.Variable.{Variable}
use Rattle.rvt_tree.specs.declared.expressions.Variable.TheVariants as V
use Rattle.rvt_tree.specs.declared.programs.Function.{Function}
use Rattle.rvt_tree.specs.declared.programs.Local.{Local}
use Rattle.rvt_tree.specs.Syntax.{LvalueExpression, identifier, element, member, dereference, subscript, arrow, Expression, constant, null_pointer, value_at, address, decay, cast, plus, minus, complement, negation, binary, equal_pointers, unequal_pointers, pointer_plus, plus_pointer, pointer_minus, logical_and, logical_or, conditional, call, Arguments, no_arguments, argument, Action, evaluate, call_void, discard, discard_void, assign, compound_assign, advance, retreat, step, step_pointer, Initializer, initial_value, braces, Initializers, no_initializers, initializer, Statement, compound, action, declaration, declaration_with, return_value, if_statement, if_else, while_loop, do_loop, for_loop, switch, Statements, no_statements, statement, Groups, no_groups, labelled}

abbrev pub local_in : Variable → List ℕ
local_in (V.Local number) = number ∷ []
local_in (V.Object number) = []

-- ---- the locals that a part of a program names

abbrev mutual
  pub named_at : LvalueExpression → List ℕ
  named_at (identifier variable) = local_in variable
  named_at (element array index count size) = named_at array ++ named_in index
  named_at (member aggregate field cell) = named_at aggregate
  named_at (dereference pointer pointee) = named_in pointer
  named_at (subscript pointer index pointee size) = named_in pointer ++ named_in index
  named_at (arrow pointer structure field cell) = named_in pointer

  pub named_in : Expression → List ℕ
  named_in (constant n) = []
  named_in null_pointer = []
  named_in (value_at place) = named_at place
  named_in (address place) = named_at place
  named_in (decay place) = named_at place
  named_in (cast kind e) = named_in e
  named_in (plus e) = named_in e
  named_in (minus e) = named_in e
  named_in (complement e) = named_in e
  named_in (negation e) = named_in e
  named_in (binary op a b) = named_in a ++ named_in b
  named_in (equal_pointers a b) = named_in a ++ named_in b
  named_in (unequal_pointers a b) = named_in a ++ named_in b
  named_in (pointer_plus a b size) = named_in a ++ named_in b
  named_in (plus_pointer a b size) = named_in a ++ named_in b
  named_in (pointer_minus a b size) = named_in a ++ named_in b
  named_in (logical_and a b) = named_in a ++ named_in b
  named_in (logical_or a b) = named_in a ++ named_in b
  named_in (conditional test first second) = named_in test ++ named_in first ++ named_in second
  named_in (call function arguments) = named_in_all arguments

  pub named_in_all : Arguments → List ℕ
  named_in_all no_arguments = []
  named_in_all (argument e rest) = named_in e ++ named_in_all rest

abbrev pub named_by : Action → List ℕ
named_by (evaluate e) = named_in e
named_by (call_void function arguments) = named_in_all arguments
named_by (discard e) = named_in e
named_by (discard_void function arguments) = named_in_all arguments
named_by (assign place e) = named_at place ++ named_in e
named_by (compound_assign op place kind e) = named_at place ++ named_in e
named_by (advance place e size) = named_at place ++ named_in e
named_by (retreat place e size) = named_at place ++ named_in e
named_by (step bump place) = named_at place
named_by (step_pointer bump place size) = named_at place

abbrev pub named_by_all : List Action → List ℕ
named_by_all [] = []
named_by_all (a ∷ rest) = named_by a ++ named_by_all rest

abbrev mutual
  pub named_in_initializer : Initializer → List ℕ
  named_in_initializer (initial_value e) = named_in e
  named_in_initializer (braces members) = named_in_members members

  pub named_in_members : Initializers → List ℕ
  named_in_members no_initializers = []
  named_in_members (initializer i size rest) = named_in_initializer i ++ named_in_members rest

abbrev pub named_in_test : Option Expression → List ℕ
named_in_test None = []
named_in_test (Some e) = named_in e

abbrev mutual
  pub named_in_statement : Statement → List ℕ
  named_in_statement (compound body) = named_in_block body
  named_in_statement (action a) = named_by a
  named_in_statement (declaration variable) = local_in variable
  named_in_statement (declaration_with variable init) = local_in variable ++ named_in_initializer init
  named_in_statement (return_value e) = named_in e
  named_in_statement (if_statement test first) = named_in test ++ named_in_statement first
  named_in_statement (if_else test first second) = named_in test ++ named_in_statement first ++ named_in_statement second
  named_in_statement (while_loop number test body) = named_in test ++ named_in_statement body
  named_in_statement (do_loop number body test) = named_in_statement body ++ named_in test
  named_in_statement (for_loop number first test last body) = named_in_block first ++ named_in_test test ++ named_by_all last ++ named_in_statement body
  named_in_statement (switch e groups) = named_in e ++ named_in_groups groups
  named_in_statement _ = []

  pub named_in_block : Statements → List ℕ
  named_in_block no_statements = []
  named_in_block (statement s rest) = named_in_statement s ++ named_in_block rest

  pub named_in_groups : Groups → List ℕ
  named_in_groups no_groups = []
  named_in_groups (labelled labels body rest) = named_in_block body ++ named_in_groups rest

-- ---- the locals that are declared inside a statement

abbrev mutual
  pub declared_inside : Statement → List ℕ
  declared_inside (compound body) = declared_inside_block body
  declared_inside (declaration variable) = local_in variable
  declared_inside (declaration_with variable init) = local_in variable
  declared_inside (if_statement test first) = declared_inside first
  declared_inside (if_else test first second) = declared_inside first ++ declared_inside second
  declared_inside (while_loop number test body) = declared_inside body
  declared_inside (do_loop number body test) = declared_inside body
  declared_inside (for_loop number first test last body) = declared_inside_block first ++ declared_inside body
  declared_inside (switch e groups) = declared_inside_groups groups
  declared_inside _ = []

  pub declared_inside_block : Statements → List ℕ
  declared_inside_block no_statements = []
  declared_inside_block (statement s rest) = declared_inside s ++ declared_inside_block rest

  pub declared_inside_groups : Groups → List ℕ
  declared_inside_groups no_groups = []
  declared_inside_groups (labelled labels body rest) = declared_inside_block body ++ declared_inside_groups rest

-- ---- interfaces

-- what a loop names in its condition, its last part and its body: what stands first in a `for` is outside it
abbrev pub named_in_loop : Statement → List ℕ
named_in_loop (for_loop number first test last body) = named_in_test test ++ named_by_all last ++ named_in_statement body
named_in_loop s = named_in_statement s

abbrev pub declared_in_loop : Statement → List ℕ
declared_in_loop (for_loop number first test last body) = declared_inside body
declared_in_loop s = declared_inside s

abbrev pub StandsIn : ℕ → List ℕ → Type 0
StandsIn number [] = ⊥
StandsIn number (first ∷ rest) = (number ≡ first) ⊎ StandsIn number rest

abbrev pub name_in : Option Local → List ℕ
name_in None = []
name_in (Some local) = local.name

abbrev pub name_of : Function → ℕ → List ℕ
name_of function number = name_in (slice_get (function.params ++ function.locals) number)

-- the order of bytes
abbrev pub IsBefore : List ℕ → List ℕ → Type 0
IsBefore [] [] = ⊥
IsBefore [] (b ∷ bs) = Unit {0}
IsBefore (a ∷ as') [] = ⊥
IsBefore (a ∷ as') (b ∷ bs) = (a < b) ⊎ ((a ≡ b) × IsBefore as' bs)

abbrev pub AreInOrder : Function → List ℕ → Type 0
AreInOrder function [] = Unit {0}
AreInOrder function (a ∷ []) = Unit {0}
AreInOrder function (a ∷ (b ∷ rest)) = IsBefore (name_of function a) (name_of function b) × AreInOrder function (b ∷ rest)

-- the numbers of the locals that are the interface of a loop, in the order of their names
pub record IsInterface (function : Function) (loop : Statement) (interface : List ℕ) : Type 0 where
  pub members : (number : ℕ) → StandsIn number interface ↔ (StandsIn number (named_in_loop loop) × (StandsIn number (declared_in_loop loop) → ⊥))
  pub order : AreInOrder function interface
