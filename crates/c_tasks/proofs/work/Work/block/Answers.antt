use Rattle.std.proofs.Common.{refl, sym, ap}
use Rattle.rvt_tree.specs.Views.{stmt_view, stmts_view}
use Rattle.c_meaning.specs.Outcomes.{Normally}
use Rattle.c_meaning.specs.Statements.{meaning, block, normally_then}
use Rattle.c_meaning.specs.Runs.{stepping}
use Rattle.c_tasks.specs.Operands.{operands, with_manner}
use Rattle.c_tasks.specs.Tasks.{ending, running_statement, running_block}
use Rattle.c_tasks.proofs.Sequences.{becomes_with}
use Rattle.c_tasks.proofs.Forms.{by_one, tasks_then}
use Rattle.c_tasks.proofs.ValueForms.{on_ok}
use Rattle.c_tasks.proofs.work.Work.block.Goals as goal

pub returns-in-End-clause-next : goal.returns-in-End-clause-next
returns-in-End-clause-next c =
    becomes_with (λ program d. running_block program d (stmts_view c.args.body.now)) c.args.self.now c.end.new.self (with_manner Normally (operands c.args.self.now)) c.end.ensures.tasks c.end.ensures.operands (λ program d next s. sym (ap (λ x. running_block program d (stmts_view x) next (operands c.args.self.now) s) c.in-End.is))

pub returns-in_ok-put-in-More-clause-next : goal.returns-in_ok-put-in-More-clause-next
returns-in_ok-put-in-More-clause-next c =
    on_ok c.put-in-More.result (λ h. by_one (λ program d. meaning program (stepping program d) (stmt_view c.in-More.first)) (λ program d. normally_then (block program (stepping program d) (stmts_view c.in-More.rest.value))) (λ program d. block program (stepping program d) (stmts_view c.args.body.now)) with_manner (λ program d next. running_statement program d (stmt_view c.in-More.first) (λ on. ending program d (normally_then (block program (stepping program d) (stmts_view c.in-More.rest.value)) on.manner) next on)) c.args.self.now c.put-in-More.new.tasks.items (λ program d next on s. refl) (λ program d s. ap (λ x. block program (stepping program d) (stmts_view x) s) c.in-More.is) (tasks_then (λ program d next on. ending program d (normally_then (block program (stepping program d) (stmts_view c.in-More.rest.value)) on.manner) next on) (λ program d. running_statement program d (stmt_view c.in-More.first)) c.args.self.now.tasks.items c.put.new.tasks.items c.put-in-More.new.tasks.items c.in_ok-put-in-More.ensures.next h)) c.put-in-More.ensures.next
