-- The loops of a function, in the order in which they begin in the source.
use Rattle.std.specs.Prelude.{ℕ, List, [], ◌∷◌, ◌++◌, Option, Some, None}
use Rattle.rvt_tree.specs.Syntax.{Statement, compound, if_statement, if_else, while_loop, do_loop, for_loop, switch, Statements, no_statements, statement, Groups, no_groups, labelled}
use Rattle.rvt_tree.specs.Views.{stmt_view}
use Rattle.rvt_tree.specs.declared.programs.Function.{Function}
use Rattle.rvt_tree.specs.declared.statements.Stmt.{Stmt}

abbrev mutual
  pub loops_in : Statement → List Statement
  loops_in (compound body) = loops_in_block body
  loops_in (if_statement test first) = loops_in first
  loops_in (if_else test first second) = loops_in first ++ loops_in second
  loops_in (while_loop number test body) = while_loop number test body ∷ loops_in body
  loops_in (do_loop number body test) = do_loop number body test ∷ loops_in body
  loops_in (for_loop number first test last body) = for_loop number first test last body ∷ loops_in body
  loops_in (switch e groups) = loops_in_groups groups
  loops_in _ = []

  pub loops_in_block : Statements → List Statement
  loops_in_block no_statements = []
  loops_in_block (statement s rest) = loops_in s ++ loops_in_block rest

  pub loops_in_groups : Groups → List Statement
  loops_in_groups no_groups = []
  loops_in_groups (labelled labels body rest) = loops_in_block body ++ loops_in_groups rest

abbrev pub loops_in_body : Option Stmt → List Statement
loops_in_body None = []
loops_in_body (Some body) = loops_in (stmt_view body)

abbrev pub loops_of : Function → List Statement
loops_of function = loops_in_body function.body

-- the number that a loop carries
abbrev pub number_of : Statement → ℕ
number_of (while_loop number test body) = number
number_of (do_loop number body test) = number
number_of (for_loop number first test last body) = number
number_of _ = 0
