-- A caller goes on.
use Rattle.std.proofs.Common.{◌≡◌, ℕ, List, Option, ap, ◌∙◌}
use Rattle.rvt_num.specs.Number.{Number}
use Rattle.rvt_tree.specs.declared.programs.Program.{Program}
use Rattle.c_meaning.specs.Expressions.{result_value}
use Rattle.c_places.specs.Kept.{Contents}
use Rattle.c_tasks.specs.Operands.{operands, with_value}
use Rattle.c_tasks.specs.Tasks.{after}
use Rattle.c_steps.specs.Steps.{with_left}
use Rattle.c_interp.specs.declared.engine.Engine.{Engine}
use Rattle.c_interp.specs.declared.frames.Frame.{Frame}
use Rattle.c_interp.specs.declared.frames.Caller.{Caller}
use Rattle.c_interp.specs.Frames.{in_caller, whole, going, on_result}

pub resumes : (program : Program) (engine : Engine) (caller : Caller) (number : Option Number) (cells : Contents) (left : ℕ) (frames : List Frame) →
    engine.frames.items ≡ frames → engine.depth ≡ caller.depth → engine.work.tasks.items ≡ caller.work.tasks.items → operands engine.work ≡ with_value (result_value number) (operands caller.work) →
    with_left engine.cells left ≡ in_caller program caller.callee caller.saved cells.store left →
    going program engine left ≡ whole program frames (on_result program caller number (in_caller program caller.callee caller.saved cells.store left))
resumes program engine caller number cells left frames same_frames same_depth same_tasks same_operands back =
    ap (λ fs. whole program fs (after program engine.depth engine.work.tasks.items (operands engine.work) (with_left engine.cells left))) same_frames
    ∙ ap (λ d. whole program frames (after program d engine.work.tasks.items (operands engine.work) (with_left engine.cells left))) same_depth
    ∙ ap (λ tasks. whole program frames (after program caller.depth tasks (operands engine.work) (with_left engine.cells left))) same_tasks
    ∙ ap (λ on. whole program frames (after program caller.depth caller.work.tasks.items on (with_left engine.cells left))) same_operands
    ∙ ap (λ s. whole program frames (on_result program caller number s)) back
