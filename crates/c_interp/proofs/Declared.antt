-- An initializer that has begun, and what its declaration means.
use Rattle.std.proofs.Common.{◌≡◌, ℕ, List, [], ◌∷◌, ◌++◌, length, map, take, ap, ◌∙◌}
use Rattle.rvt_num.specs.declared.values.Value.{Value}
use Rattle.rvt_tree.specs.declared.expressions.Variable.{Variable}
use Rattle.rvt_tree.specs.declared.programs.Program.{Program}
use Rattle.rvt_tree.specs.Syntax.{Initializer, declaration_with}
use Rattle.c_meaning.specs.Outcomes.{State, Normally, go_on}
use Rattle.c_meaning.specs.Stores.{cleared, cells_of, with_cells}
use Rattle.c_meaning.specs.Statements.{initial_cells}
use Rattle.c_meaning.specs.Runs.{stepping}
use Rattle.c_places.specs.Kept.{Contents}
use Rattle.c_tasks.specs.Operands.{Operands, operands, with_values, top_value, with_manner, above, lowered}
use Rattle.c_tasks.specs.Tasks.{step, filling, running_statement, last_value, after, to_come, Becomes, TasksBecome}
use Rattle.c_tasks.specs.declared.tasks.Task.TheVariants as T
use Rattle.c_tasks.specs.declared.work.Work.{Work}
use Rattle.c_steps.specs.Steps.{with_left}
use Rattle.c_interp.specs.declared.engine.Engine.{Engine}
use Rattle.c_interp.specs.declared.frames.Wait.TheVariants as W
use Rattle.c_interp.specs.Frames.{resumed, whole, going}
use Rattle.c_interp.proofs.Stacked.{whole_push}
use Rattle.c_interp.proofs.Entered.{moved_work}
use Rattle.c_interp.proofs.Initialized.{all_above, take_all, drop_none, initialized}

-- the operands of an initializer that has zeros and nothing else
abbrev pub with_only : List Value → Operands
with_only zeros = record { values = []; places = []; manner = Normally; zeros = zeros }

-- zeros for the cells of a variable
abbrev pub zeros_of : Program → Variable → Contents → List Value
zeros_of program variable cells = map cleared (cells_of program variable cells.locals cells.store)

-- the cells of an initializer are to come, and their variable after them
cells_come : (program : Program) (d : ℕ) (variable : Variable) (init : Initializer) (count : ℕ) (zeros : List Value) (fresh begun filled : Work) (s : State ℕ) →
    fresh.tasks.items ≡ [] → operands begun ≡ with_only zeros → count ≡ length zeros →
    TasksBecome (λ program d. step program d (T.Initialize variable 0)) fresh.tasks.items begun.tasks.items → Becomes (λ program d. filling program d init 0 count) begun filled →
    to_come program d filled s ≡ go_on (λ cells. step program d (T.Initialize variable 0) (last_value program d) (with_values cells (with_only zeros))) (initial_cells program (stepping program d) init zeros s)
cells_come program d variable init count zeros fresh begun filled s none on all put fill =
    fill program d s
    ∙ ap (λ next. filling program d init 0 count next (operands begun) s) (put program d ∙ ap (λ tasks. step program d (T.Initialize variable 0) (after program d tasks)) none)
    ∙ ap (λ o. filling program d init 0 count (step program d (T.Initialize variable 0) (last_value program d)) o s) on
    ∙ ap (λ zs. go_on (λ cells. step program d (T.Initialize variable 0) (last_value program d) (with_values cells (with_only zeros))) (initial_cells program (stepping program d) init zs s))
    (ap (take count) (drop_none zeros) ∙ take_all zeros count all)

pub declares : (program : Program) (engine new : Engine) (variable : Variable) (init : Initializer) (count left : ℕ) (fresh begun filled : Work) →
    new.frames.items ≡ engine.frames.items ++ record { work = engine.work; depth = engine.depth; wait = W.Initializer } ∷ [] →
    new.depth ≡ engine.depth → new.work.tasks.items ≡ filled.tasks.items → operands new.work ≡ operands filled → new.cells ≡ with_cells program variable (zeros_of program variable engine.cells) engine.cells →
    fresh.tasks.items ≡ [] → operands begun ≡ with_only (zeros_of program variable engine.cells) → count ≡ length (zeros_of program variable engine.cells) →
    TasksBecome (λ program d. step program d (T.Initialize variable 0)) fresh.tasks.items begun.tasks.items → Becomes (λ program d. filling program d init 0 count) begun filled →
    going program new left ≡
    whole program engine.frames.items (running_statement program engine.depth (declaration_with variable init) (after program engine.depth engine.work.tasks.items) (operands engine.work) (with_left engine.cells left))
declares program engine new variable init count left fresh begun filled frames depth tasks on cells none begun_on all put fill =
    let zeros : List Value = zeros_of program variable engine.cells in
    let s : State ℕ = with_left (with_cells program variable zeros engine.cells) left in
    whole_push program engine.frames.items new.frames.items (record { work = engine.work; depth = engine.depth; wait = W.Initializer }) (to_come program new.depth new.work (with_left new.cells left)) frames
    ∙ ap (whole program engine.frames.items)
    (ap (resumed program (record { work = engine.work; depth = engine.depth; wait = W.Initializer }))
    (moved_work program new.depth engine.depth left new.work filled new.cells (with_cells program variable zeros engine.cells) depth tasks on cells
    ∙ cells_come program engine.depth variable init count zeros fresh begun filled s none begun_on all put fill)
    ∙ initialized program variable (λ cs. top_value (with_manner Normally (lowered 0 (with_values cs (with_only zeros))))) (λ cs. above 0 (with_values cs (with_only zeros)))
    (λ manner. after program engine.depth engine.work.tasks.items (with_manner manner (operands engine.work))) (initial_cells program (stepping program engine.depth) init zeros s) all_above)
