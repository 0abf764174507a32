-- Statements (C 6.8): what each becomes, and which rule it breaks first.
use Rattle.std.specs.Prelude.{ℕ, List, [], ◌∷◌, ◌++◌, codes, Bool, true, false, ◌||◌, if◌then◌else◌, Option, Some, None}
use Rattle.std.specs.List.{list_any}
use Rattle.rvt_num.specs.Kinds.{promoted_kind}
use Rattle.rvt_num.specs.Operations.{int_eq}
use Rattle.rvt_num.specs.declared.kinds.Kind.{Kind}
use Rattle.rvt_tree.specs.declared.places.Place.{Place}
use Rattle.rvt_tree.specs.declared.statements.Label.{Label}
use Rattle.rvt_tree.specs.declared.statements.Label.TheVariants.{Case, Default}
use Rattle.rvt_tree.specs.Syntax as t
use Rattle.c_types.specs.Layout.{AWord}
use Rattle.c_syntax.specs.Syntax as s
use Rattle.expression_typing.specs.Outcomes.{Checking, give, broken, and_then, declared_twice, wrong_type, not_in_profile}
use Rattle.expression_typing.specs.Operands.{Operand, a_place, an_integer, a_pointer, a_null, a_void}
use Rattle.expression_typing.specs.FirstTokens.{first_token}
use Rattle.expression_typing.specs.Conversions.{promoted, converted_to}
use Rattle.expression_typing.specs.Expressions.{operand, condition, constant_of_kind}
use Rattle.expression_typing.specs.Actions.{typed_action}
use Rattle.file_typing.specs.Blocks.{Block, scope_of, inside, inside_loop, inside_switch}
use Rattle.file_typing.specs.FunctionNotes.{next_loop}
use Rattle.file_typing.specs.LocalDeclarations.{Declared, typed_declaration}

-- ---- lists of statements

abbrev pub statements_before : List t.Statement → t.Statements → t.Statements
statements_before [] others = others
statements_before (s ∷ rest) others = t.statement s (statements_before rest others)

abbrev pub statements_of : List t.Statement → t.Statements
statements_of list = statements_before list t.no_statements

-- ---- jumps (C 6.8.6)

-- `break` stands in a loop or a `switch`
abbrev pub broken_off : Place → Block → Checking t.Statement
broken_off at block = if block.in_loop || block.in_switch then give t.break_statement else broken wrong_type at

-- `continue` stands in a loop
abbrev pub continued : Place → Block → Checking t.Statement
continued at block = if block.in_loop then give t.continue_statement else broken wrong_type at

-- `return` alone stands in a function without a result, and `return e` in one with a result (C 6.8.6.4)
abbrev pub returned : Place → Option Kind → Checking t.Statement
returned at None = give t.return_statement
returned at (Some kind) = broken wrong_type at

abbrev pub returned_with : Place → Place → Option Kind → Operand → Checking t.Statement
returned_with at first None value = broken wrong_type at
returned_with at first (Some kind) value = and_then (converted_to first (AWord kind) value) (λ e. give (t.return_value e))

-- ---- loops (C 6.8.5)

abbrev pub typed_actions : Block → List s.Action → Checking (List t.Action)
typed_actions block [] = give []
typed_actions block (action ∷ rest) =
    and_then (typed_action (scope_of block) action) (λ first.
    and_then (typed_actions block rest) (λ others.
    give (first ∷ others)))

abbrev pub as_statements : List t.Action → List t.Statement
as_statements [] = []
as_statements (action ∷ rest) = t.action action ∷ as_statements rest

-- the first part of a `for` header: what it declares is in scope up to the end of the loop
abbrev pub for_start : Block → s.ForStart → Checking Declared
for_start block s.starts_with_nothing = give (record { block = block; statements = [] })
for_start block (s.starts_with_declaration declaration) = typed_declaration block declaration
for_start block (s.starts_with_actions actions) =
    and_then (typed_actions block actions) (λ actions. give (record { block = block; statements = as_statements actions }))

-- a condition that is left out holds
abbrev pub for_test : Block → Option s.Expression → Checking (Option t.Expression)
for_test block None = give None
for_test block (Some e) = and_then (condition (scope_of block) e) (λ test. give (Some test))

-- ---- `switch` (C 6.8.4.2)

-- what a `switch` is controlled by: an integer, promoted
pub record Control : Type 0 where
  pub kind : Kind
  pub value : t.Expression

abbrev pub controlled : Place → Operand → Checking Control
controlled first (an_integer kind value zero_token) =
    give (record { kind = promoted_kind kind; value = promoted kind value })
controlled first (a_place shape constant lvalue) = broken wrong_type first
controlled first (a_pointer pointee to_constant value) = broken wrong_type first
controlled first a_null = broken wrong_type first
controlled first (a_void function given) = broken wrong_type first

abbrev pub same_label : Label → Label → Bool
same_label (Case a) (Case b) = int_eq a.value b.value
same_label Default Default = true
same_label _ _ = false

-- a value has one label, and there is one `default`
abbrev pub unless_labelled : Place → List ℕ → List Label → Label → Checking Label
unless_labelled at word before label = if list_any (same_label label) before then broken (declared_twice word) at else give label

-- a label's value is converted to the kind of the `switch`
abbrev pub typed_label : Block → Kind → List Label → s.SwitchLabel → Checking Label
typed_label block kind before (s.case_label at e) =
    and_then (constant_of_kind kind (scope_of block) e) (λ n. unless_labelled at (codes "case") before (Case n))
typed_label block kind before (s.default_label at) = unless_labelled at (codes "default") before Default

abbrev pub typed_labels : Block → Kind → List Label → List s.SwitchLabel → Checking (List Label)
typed_labels block kind before [] = give []
typed_labels block kind before (label ∷ rest) =
    and_then (typed_label block kind before label) (λ first.
    and_then (typed_labels block kind (before ++ first ∷ []) rest) (λ others.
    give (first ∷ others)))

-- ---- the end of a group

-- the last part is a jump, or a block whose last part, so read, is one
abbrev mutual
  pub ends_with_jump : s.BlockItems → Bool
  ends_with_jump s.no_items = false
  ends_with_jump (s.block_item item s.no_items) = is_jump_item item
  ends_with_jump (s.block_item item (s.block_item next rest)) = ends_with_jump (s.block_item next rest)

  pub is_jump_item : s.BlockItem → Bool
  is_jump_item (s.local_declaration declaration) = false
  is_jump_item (s.inner_statement statement) = is_jump statement

  pub is_jump : s.Statement → Bool
  is_jump (s.compound at items) = ends_with_jump items
  is_jump (s.break_statement at) = true
  is_jump (s.continue_statement at) = true
  is_jump (s.return_statement at) = true
  is_jump (s.return_value at e) = true
  is_jump _ = false

abbrev pub place_of_label : s.SwitchLabel → Place
place_of_label (s.case_label at e) = at
place_of_label (s.default_label at) = at

abbrev pub first_label : List s.SwitchLabel → Option Place
first_label [] = None
first_label (label ∷ labels) = Some (place_of_label label)

-- the label after a group
abbrev pub next_label : s.SwitchGroups → Option Place
next_label s.no_groups = None
next_label (s.switch_group (s.labelled labels items) rest) = first_label labels

-- nothing falls from a group that has statements into the next one
abbrev pub group_ends : s.BlockItems → Option Place → Checking (Unit {0})
group_ends items None = give tt
group_ends s.no_items (Some at) = give tt
group_ends (s.block_item item rest) (Some at) = if ends_with_jump (s.block_item item rest) then give tt else broken not_in_profile at

-- ---- statements, their parts in the order of the source

abbrev mutual
  pub typed_statement : Block → s.Statement → Checking t.Statement
  typed_statement block (s.compound at items) = and_then (typed_items (inside block) items) (λ body. give (t.compound body))
  typed_statement block (s.null_statement at) = give t.null_statement
  typed_statement block (s.action action) = and_then (typed_action (scope_of block) action) (λ action. give (t.action action))
  typed_statement block (s.break_statement at) = broken_off at block
  typed_statement block (s.continue_statement at) = continued at block
  typed_statement block (s.return_statement at) = returned at block.result
  typed_statement block (s.return_value at e) = and_then (operand (scope_of block) e) (returned_with at (first_token e) block.result)
  typed_statement block (s.if_statement at e first) =
      and_then (condition (scope_of block) e) (λ test.
      and_then (typed_statement block first) (λ first.
      give (t.if_statement test first)))
  typed_statement block (s.if_else at e first second) =
      and_then (condition (scope_of block) e) (λ test.
      and_then (typed_statement block first) (λ first.
      and_then (typed_statement block second) (λ second.
      give (t.if_else test first second))))
  typed_statement block (s.while_loop at e body) =
      and_then next_loop (λ number.
      and_then (condition (scope_of block) e) (λ test.
      and_then (typed_statement (inside_loop block) body) (λ body.
      give (t.while_loop number test body))))
  typed_statement block (s.do_loop at body e) =
      and_then next_loop (λ number.
      and_then (typed_statement (inside_loop block) body) (λ body.
      and_then (condition (scope_of block) e) (λ test.
      give (t.do_loop number body test))))
  typed_statement block (s.for_loop at start e last body) =
      and_then next_loop (λ number.
      and_then (for_start (inside block) start) (λ first.
      and_then (for_test first.block e) (λ test.
      and_then (typed_actions first.block last) (λ last.
      and_then (typed_statement (inside_loop first.block) body) (λ body.
      give (t.for_loop number (statements_of first.statements) test last body))))))
  typed_statement block (s.switch at e groups) =
      and_then (and_then (operand (scope_of block) e) (controlled (first_token e))) (λ control.
      and_then (typed_groups (inside_switch block) control.kind [] groups) (λ groups.
      give (t.switch control.value groups)))

  -- a declaration is in scope from there on, up to the end of the block (C 6.2.1)
  pub typed_items : Block → s.BlockItems → Checking t.Statements
  typed_items block s.no_items = give t.no_statements
  typed_items block (s.block_item item rest) =
      and_then (typed_item block item) (λ first.
      and_then (typed_items first.block rest) (λ others.
      give (statements_before first.statements others)))

  pub typed_item : Block → s.BlockItem → Checking Declared
  typed_item block (s.local_declaration declaration) = typed_declaration block declaration
  typed_item block (s.inner_statement statement) =
      and_then (typed_statement block statement) (λ made. give (record { block = block; statements = made ∷ [] }))

  -- the labels of a group, then its statements, which are a scope of their own, and then how it ends
  pub typed_groups : Block → Kind → List Label → s.SwitchGroups → Checking t.Groups
  typed_groups block kind before s.no_groups = give t.no_groups
  typed_groups block kind before (s.switch_group (s.labelled labels items) rest) =
      and_then (typed_labels block kind before labels) (λ labels.
      and_then (typed_items (inside block) items) (λ body.
      and_then (group_ends items (next_label rest)) (λ _.
      and_then (typed_groups block kind (before ++ labels) rest) (λ others.
      give (t.labelled labels body others)))))
