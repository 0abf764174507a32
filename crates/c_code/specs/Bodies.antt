-- The code of a function's body.
use Rattle.std.specs.Prelude.{List, [], ◌∷◌, ◌++◌, Option, Some, None}
use Rattle.rvt_tree.specs.declared.statements.Stmt.{Stmt}
use Rattle.rvt_tree.specs.Views.{stmt_view}
use Rattle.c_code.specs.Initializers.{Counts}
use Rattle.c_code.specs.Statements.{statement_code}
use Rattle.c_code.specs.declared.instructions.Manner.TheVariants as M
use Rattle.c_code.specs.declared.instructions.Instruction.{Instruction}
use Rattle.c_code.specs.declared.instructions.Instruction.TheVariants as I

abbrev pub body_code : Counts → Option Stmt → List Instruction
body_code counts None = I.End M.Normally ∷ I.Finish ∷ []
body_code counts (Some body) = statement_code counts (stmt_view body) ++ I.Finish ∷ []
