use Rattle.std.proofs.Common.{◌∷◌, drop}
use Rattle.rvt_tree.specs.Syntax.{initial_value}
use Rattle.rvt_tree.specs.Views.{expr_view}
use Rattle.c_meaning.specs.Outcomes.{give}
use Rattle.c_meaning.specs.Expressions.{value_of}
use Rattle.c_meaning.specs.Runs.{stepping}
use Rattle.c_tasks.specs.Operands.{with_values, zeros_from}
use Rattle.c_tasks.specs.Tasks.{evaluating, filling}
use Rattle.c_tasks.proofs.Sequences.{one_part, becomes_then}
use Rattle.c_tasks.proofs.ValueForms.{on_ok}
use Rattle.c_initializers.proofs.filling.fill_cell.Goals as goal

pub returns-clause-next : goal.returns-clause-next
returns-clause-next c =
    on_ok c.evaluate.result (λ h. becomes_then (λ program d next on. next (with_values (drop 1 (zeros_from c.args.at c.args.count on)) on)) (λ program d. evaluating program d (expr_view c.args.e.now)) (λ program d. filling program d (initial_value (expr_view c.args.e.now)) c.args.at c.args.count) c.args.work.now c.evaluate.new.self c.pad_after.new.tasks.items c.in_ok-pad_after.ensures.next h (λ program d next on s. one_part (value_of program (stepping program d) (expr_view c.args.e.now)) (λ v. give (v ∷ drop 1 (zeros_from c.args.at c.args.count on))) (λ cells. next (with_values cells on)) s)) c.evaluate.ensures.next
