use Rattle.rvt_tree.specs.Views.{stmts_view}
use Rattle.c_meaning.specs.Statements.{left_scope, declared_in, after_group, block}
use Rattle.c_meaning.specs.Runs.{stepping}
use Rattle.c_tasks.specs.Operands.{with_manner}
use Rattle.c_tasks.specs.Tasks.{ending, running_block}
use Rattle.c_tasks.proofs.Sequences.{becomes_then}
use Rattle.c_tasks.proofs.Forms.{tasks_then}
use Rattle.c_tasks.proofs.ValueForms.{on_ok}
use Rattle.c_control.specs.Groups.{in_group, leaving_switch}
use Rattle.c_control.proofs.Parts.{in_turn}
use Rattle.c_control.proofs.groups.enter_group.Goals as goal

pub returns-clause-next : goal.returns-clause-next
returns-clause-next c =
    on_ok c.block.result (λ h. becomes_then (λ program d next on. ending program d (left_scope (declared_in (stmts_view c.args.body.now)) on.manner) (leaving_switch program d next) on) (λ program d. running_block program d (stmts_view c.args.body.now)) (λ program d. in_group program d (stmts_view c.args.body.now)) c.args.work.now c.block.new.self c.put-2.new.tasks.items (tasks_then (λ program d. leaving_switch program d) (λ program d next on. ending program d (left_scope (declared_in (stmts_view c.args.body.now)) on.manner) next on) c.args.work.now.tasks.items c.put.new.tasks.items c.put-2.new.tasks.items c.in_ok-put.ensures.next c.in_ok-put-2.ensures.next) h (λ program d next on s. in_turn (block program (stepping program d) (stmts_view c.args.body.now)) (left_scope (declared_in (stmts_view c.args.body.now))) after_group (λ manner. next (with_manner manner on)) s)) c.block.ensures.next
