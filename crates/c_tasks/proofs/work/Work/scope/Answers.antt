use Rattle.std.proofs.Common.{refl, subst}
use Rattle.rvt_tree.specs.Syntax.{compound}
use Rattle.rvt_tree.specs.Views.{stmts_view}
use Rattle.c_meaning.specs.Statements.{meaning, block, left_scope, declared_in}
use Rattle.c_meaning.specs.Runs.{stepping}
use Rattle.c_tasks.specs.Operands.{with_manner}
use Rattle.c_tasks.specs.Tasks.{ending, running_block, TasksBecome}
use Rattle.c_tasks.proofs.Forms.{by_one, tasks_then}
use Rattle.c_tasks.proofs.work.Work.scope.Goals as goal

pub returns-clause-next : goal.returns-clause-next
returns-clause-next c =
    by_one (λ program d. block program (stepping program d) (stmts_view c.args.body.now.value)) (λ program d. left_scope (declared_in (stmts_view c.args.body.now.value))) (λ program d. meaning program (stepping program d) (compound (stmts_view c.args.body.now.value))) with_manner (λ program d next. running_block program d (stmts_view c.args.body.now.value) (λ on. ending program d (left_scope (declared_in (stmts_view c.args.body.now.value)) on.manner) next on)) c.args.self.now c.put-2.new.tasks.items (λ program d next on s. refl) (λ program d s. refl) (tasks_then (λ program d next on. ending program d (left_scope (declared_in (stmts_view c.args.body.now.value)) on.manner) next on) (λ program d. running_block program d (stmts_view c.args.body.now.value)) c.args.self.now.tasks.items c.put.new.tasks.items c.put-2.new.tasks.items (subst (λ x. TasksBecome (λ program d next on. ending program d (left_scope (declared_in (stmts_view x)) on.manner) next on) c.args.self.now.tasks.items c.put.new.tasks.items) c.deref.ensures c.in_ok-put.ensures.next) c.in_ok-put-2.ensures.next)
