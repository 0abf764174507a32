-- The code of statements (C 6.8).
use Rattle.std.specs.Prelude.{ℕ, suc, List, [], ◌∷◌, ◌++◌, length, Option, Some, None}
use Rattle.rvt_tree.specs.declared.expressions.Variable.{Variable}
use Rattle.rvt_tree.specs.declared.expressions.Variable.TheVariants as V
use Rattle.rvt_tree.specs.declared.statements.Label.{Label}
use Rattle.rvt_tree.specs.declared.statements.Label.TheVariants.{Case, Default}
use Rattle.rvt_tree.specs.Syntax.{Expression, Initializer, Statement, compound, null_statement, action, declaration, declaration_with, break_statement, continue_statement, return_statement, return_value, if_statement, if_else, while_loop, do_loop, for_loop, switch, Statements, no_statements, statement, Groups, no_groups, labelled}
use Rattle.c_code.specs.Expressions.{passing, choosing, truth_code, value_code}
use Rattle.c_code.specs.Acts.{act_code, acts_code}
use Rattle.c_code.specs.Initializers.{Counts, count_of, cells_in, initializer_code}
use Rattle.c_code.specs.declared.instructions.Manner.TheVariants as M
use Rattle.c_code.specs.declared.instructions.When.TheVariants as W
use Rattle.c_code.specs.declared.instructions.Instruction.{Instruction}
use Rattle.c_code.specs.declared.instructions.Instruction.TheVariants as I

-- ---- scopes

abbrev pub forgetting : Variable → List Instruction
forgetting (V.Local number) = I.Forget number ∷ []
forgetting (V.Object number) = []

-- the scope of what a statement declares is left
abbrev pub left_by : Statement → List Instruction
left_by (declaration variable) = forgetting variable
left_by (declaration_with variable init) = forgetting variable
left_by _ = []

abbrev pub leaving : Statements → List Instruction
leaving no_statements = []
leaving (statement s rest) = left_by s ++ leaving rest

-- ---- loops

-- a loop without a test goes on
abbrev pub test_code : Option Expression → List Instruction
test_code None = truth_code 1 0 ∷ []
test_code (Some e) = value_code e 0 0

-- the test and the round, and back to the test
abbrev pub looping : List Instruction → List Instruction → List Instruction
looping test round =
    test ++ I.Jump (W.Unless 0) (suc (length (round ++ I.Finish ∷ []))) ∷ (round ++ I.Again (length (test ++ I.Finish ∷ round)) ∷ I.End M.Normally ∷ [])

-- ---- groups

-- the labels of a group, and its statements
abbrev pub label_code : Label → Instruction
label_code (Case n) = I.Case n
label_code Default = I.Default

abbrev pub labels_code : List Label → List Instruction
labels_code [] = []
labels_code (label ∷ rest) = label_code label ∷ labels_code rest

abbrev pub group_code : List Label → List Instruction → List Instruction
group_code labels body = I.Group (length (labels_code labels)) (suc (length (labels_code labels ++ body))) ∷ (labels_code labels ++ body)

-- ---- declarations

abbrev pub declaring : Variable → Initializer → ℕ → List Instruction
declaring variable init count = I.Begin variable count ∷ (initializer_code init 0 count count ++ I.Initialize variable count (cells_in init count) ∷ I.End M.Normally ∷ [])

module _ (counts : Counts) where
  abbrev mutual
    pub statement_code : Statement → List Instruction
    statement_code (compound body) = block_code body ++ leaving body
    statement_code null_statement = I.End M.Normally ∷ []
    statement_code (action a) = act_code a ++ I.End M.Normally ∷ []
    statement_code (declaration variable) = I.Clear variable ∷ I.End M.Normally ∷ []
    statement_code (declaration_with variable init) = declaring variable init (count_of counts variable)
    statement_code break_statement = I.End M.Broke ∷ []
    statement_code continue_statement = I.End M.Continued ∷ []
    statement_code return_statement = I.ReturnNothing ∷ []
    statement_code (return_value e) = value_code e 0 0 ++ I.Return 0 ∷ []
    statement_code (if_statement test first) = value_code test 0 0 ++ choosing 0 (statement_code first) (I.End M.Normally ∷ [])
    statement_code (if_else test first second) = value_code test 0 0 ++ choosing 0 (statement_code first) (statement_code second)
    statement_code (while_loop number test body) = I.Spend ∷ looping (value_code test 0 0) (statement_code body)
    -- the first round comes before the first test
    statement_code (do_loop number body test) =
        I.Jump W.Always (suc (length (value_code test 0 0 ++ I.Finish ∷ []))) ∷ looping (value_code test 0 0) (statement_code body)
    statement_code (for_loop number first test last body) =
        block_code first ++ I.Spend ∷ (looping (test_code test) (statement_code body ++ passing W.Broke (acts_code last)) ++ leaving first)
    statement_code (switch e groups) = value_code e 0 0 ++ I.Select 0 ∷ (groups_code groups ++ I.LeaveSwitch ∷ [])

    -- statements in order
    pub block_code : Statements → List Instruction
    block_code no_statements = I.End M.Normally ∷ []
    block_code (statement s rest) = statement_code s ++ rest_code rest

    -- each only where those before it ended normally
    pub rest_code : Statements → List Instruction
    rest_code no_statements = []
    rest_code (statement s rest) = passing W.Abrupt (statement_code s) ++ rest_code rest

    pub groups_code : Groups → List Instruction
    groups_code no_groups = []
    groups_code (labelled labels body rest) = group_code labels (block_code body ++ leaving body) ++ groups_code rest
