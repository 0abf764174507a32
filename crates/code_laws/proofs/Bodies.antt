-- The code of bodies.
use Rattle.std.proofs.Common.{ℕ, suc, List, [], ◌∷◌, length, Some, None, refl, ap}
use Rattle.rvt_tree.specs.declared.programs.Program.{Program}
use Rattle.rvt_tree.specs.Views.{stmt_view}
use Rattle.c_meaning.specs.Laws.{LoopUnfolds, TestsSpend, BodiesSpend, RoundsSpend}
use Rattle.c_tasks.specs.Tasks.{last_value}
use Rattle.c_code.specs.Statements.{statement_code}
use Rattle.c_code.specs.Bodies.{body_code}
use Rattle.c_code.specs.declared.instructions.Manner.TheVariants as M
use Rattle.c_code.specs.declared.instructions.Instruction.{Instruction}
use Rattle.c_code.specs.declared.instructions.Instruction.TheVariants as I
use Rattle.code_laws.specs.Stands.{Spans, goes, ends}
use Rattle.code_laws.specs.Laws.{CodeOfBodies}
use Rattle.code_laws.proofs.Spanning.{split}
use Rattle.code_laws.proofs.Statements.{statement_stands}

behind_one : (i : Instruction) (code : List Instruction) (from to : ℕ) (part : List Instruction) → Spans code from to part → Spans (i ∷ code) (suc from) (suc to) part
behind_one i code from to [] spans = ap suc spans
behind_one i code from to (j ∷ part) spans = (spans.0, behind_one i code (suc from) to part spans.1)

whole : (code : List Instruction) → Spans code 0 (length code) code
whole [] = refl
whole (i ∷ code) = (refl, behind_one i code 0 (length code) code (whole code))

pub body_stands : (program : Program) → LoopUnfolds program → TestsSpend program → BodiesSpend program → RoundsSpend program → CodeOfBodies program
body_stands program unfolds tests bodies rounds d counts None =
    let spans = whole (body_code counts None) in
    goes 0 0 (last_value program d) (I.End M.Normally) spans.0 (refl, refl) (λ on s. refl) (ends I.Finish spans.1.0 (λ on s. refl))
body_stands program unfolds tests bodies rounds d counts (Some body) =
    let code = body_code counts (Some body) in
    let parts = split code 0 (length code) (statement_code counts (stmt_view body)) (I.Finish ∷ []) (whole code) in
    statement_stands program d counts code unfolds tests bodies rounds (stmt_view body) 0 parts.0 (last_value program d) parts.1 (ends I.Finish parts.2.0 (λ on s. refl))
