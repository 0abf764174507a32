-- Parts of statements that are typed by themselves.
use Rattle.std.specs.Prelude.{List, [], ◌++◌, Option}
use Rattle.rvt_num.specs.declared.kinds.Kind.{Kind}
use Rattle.rvt_tree.specs.declared.places.Place.{Place}
use Rattle.rvt_tree.specs.declared.statements.Label.{Label}
use Rattle.rvt_tree.specs.Syntax as t
use Rattle.c_syntax.specs.Syntax as s
use Rattle.expression_typing.specs.Expressions.{operand, condition}
use Rattle.expression_typing.specs.FirstTokens.{first_token}
use Rattle.expression_typing.specs.Outcomes.{Checking, give, and_then}
use Rattle.file_typing.specs.Blocks.{Block, scope_of, inside, inside_loop, inside_switch}
use Rattle.file_typing.specs.FunctionNotes.{next_loop}
use Rattle.file_typing.specs.LocalDeclarations.{Declared}
use Rattle.file_typing.specs.Statements.{Control, controlled, for_start, for_test, statements_of, typed_actions, returned_with, typed_labels, typed_statement, typed_items, typed_groups, group_ends}

-- what is declared behind these statements
abbrev pub declared_after : List t.Statement → Declared → Checking Declared
declared_after made others = give (record { block = others.block; statements = made ++ others.statements })

-- `return e`
abbrev pub typed_return : Place → Block → s.Expression → Checking t.Statement
typed_return at block e = and_then (operand (scope_of block) e) (returned_with at (first_token e) block.result)

-- ---- loops

-- the header of a `for`, and the block that it makes
pub record Header : Type 0 where
  pub block : Block
  pub first : t.Statements
  pub test : Option t.Expression
  pub last : List t.Action

pub record Start : Type 0 where
  pub block : Block
  pub first : t.Statements

abbrev pub typed_start : Block → s.ForStart → Checking Start
typed_start block start = and_then (for_start block start) (λ first. give (record { block = first.block; first = statements_of first.statements }))

abbrev pub typed_header : Block → s.ForStart → Option s.Expression → List s.Action → Checking Header
typed_header block start e last =
    and_then (typed_start block start) (λ start.
    and_then (for_test start.block e) (λ test.
    and_then (typed_actions start.block last) (λ last.
    give (record { block = start.block; first = start.first; test = test; last = last }))))

abbrev pub typed_while : Block → s.Expression → s.Statement → Checking t.Statement
typed_while block e body =
    and_then next_loop (λ number.
    and_then (condition (scope_of block) e) (λ test.
    and_then (typed_statement (inside_loop block) body) (λ body.
    give (t.while_loop number test body))))

abbrev pub typed_do : Block → s.Statement → s.Expression → Checking t.Statement
typed_do block body e =
    and_then next_loop (λ number.
    and_then (typed_statement (inside_loop block) body) (λ body.
    and_then (condition (scope_of block) e) (λ test.
    give (t.do_loop number body test))))

abbrev pub typed_for : Block → s.ForStart → Option s.Expression → List s.Action → s.Statement → Checking t.Statement
typed_for block start e last body =
    and_then next_loop (λ number.
    and_then (typed_header (inside block) start e last) (λ header.
    and_then (typed_statement (inside_loop header.block) body) (λ body.
    give (t.for_loop number header.first header.test header.last body))))

-- ---- `switch`

abbrev pub typed_control : Block → s.Expression → Checking Control
typed_control block e = and_then (operand (scope_of block) e) (controlled (first_token e))

-- one group of a `switch`, its labels and its statements
abbrev pub typed_group : Block → Kind → List Label → List s.SwitchLabel → s.BlockItems → Option Place → Checking (List Label × t.Statements)
typed_group block kind before labels items next =
    and_then (typed_labels block kind before labels) (λ labels.
    and_then (typed_items (inside block) items) (λ body.
    and_then (group_ends items next) (λ _.
    give (labels, body))))

abbrev pub typed_switch : Block → s.Expression → s.SwitchGroups → Checking t.Statement
typed_switch block e groups =
    and_then (typed_control block e) (λ control.
    and_then (typed_groups (inside_switch block) control.kind [] groups) (λ groups.
    give (t.switch control.value groups)))
