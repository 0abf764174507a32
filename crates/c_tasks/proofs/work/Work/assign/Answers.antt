use Rattle.std.proofs.Common.{arith}
use Rattle.rvt_tree.specs.Syntax.{assign}
use Rattle.rvt_tree.specs.Views.{lvalue_view, expr_view}
use Rattle.c_meaning.specs.Expressions.{place_of, value_of}
use Rattle.c_meaning.specs.Statements.{put}
use Rattle.c_meaning.specs.Runs.{stepping}
use Rattle.c_tasks.specs.Tasks.{evaluating, locating, acting, step}
use Rattle.c_tasks.specs.declared.tasks.Task.TheVariants as T
use Rattle.c_tasks.proofs.Sequences.{two_parts, becomes_then}
use Rattle.c_tasks.proofs.Forms.{tasks_then}
use Rattle.c_tasks.proofs.ValueForms.{on_ok}
use Rattle.c_tasks.proofs.work.Work.assign.Goals as goal

pub returns-clause-next : goal.returns-clause-next
returns-clause-next c =
    on_ok c.locate.result (λ h. becomes_then (λ program d next. evaluating program d (expr_view c.args.e.now) (step program d T.Store next)) (λ program d. locating program d (lvalue_view c.args.lvalue.now)) (λ program d. acting program d (assign (lvalue_view c.args.lvalue.now) (expr_view c.args.e.now))) c.args.self.now c.locate.new.self c.put-2.new.tasks.items (tasks_then (λ program d next. step program d T.Store next) (λ program d next. evaluating program d (expr_view c.args.e.now) next) c.args.self.now.tasks.items c.put.new.tasks.items c.put-2.new.tasks.items c.in_ok-put.ensures.next c.in_ok-put-2.ensures.next) h (λ program d next on s. two_parts (place_of program (stepping program d) (lvalue_view c.args.lvalue.now)) (value_of program (stepping program d) (expr_view c.args.e.now)) (put program) (λ _. next on) s)) c.locate.ensures.next

pub returns-clause-weight : goal.returns-clause-weight
returns-clause-weight c =
    on_ok c.locate.result (λ e. omega (arith, e, c.in_ok-put.ensures.weight, c.in_ok-put-2.ensures.weight)) c.locate.ensures.weight
