use Rattle.std.proofs.Common.{sym, ◌∙◌, arith}
use Rattle.rvt_tree.specs.Views.{lvalue_view, expr_view}
use Rattle.c_meaning.specs.Outcomes.{and_then, unless_trapped}
use Rattle.c_meaning.specs.Expressions.{looked_up, place_of, value_of}
use Rattle.c_meaning.specs.Statements.{put}
use Rattle.c_meaning.specs.Runs.{stepping}
use Rattle.c_tasks.specs.Tasks.{binary_result, evaluating, locating, replacing, step}
use Rattle.c_tasks.specs.declared.tasks.Task.TheVariants as T
use Rattle.c_tasks.proofs.Sequences.{then_then, then_alike, two_parts_and, becomes_then}
use Rattle.c_tasks.proofs.Forms.{tasks_then}
use Rattle.c_tasks.proofs.ValueForms.{on_ok}
use Rattle.c_tasks.proofs.work.Work.replace.Goals as goal

pub returns-clause-next : goal.returns-clause-next
returns-clause-next c =
    on_ok c.locate.result (λ h. becomes_then (λ program d next. step program d T.Fetch (evaluating program d (expr_view c.args.e.now) (step program d (T.Binary c.args.compute) (step program d T.Store next)))) (λ program d. locating program d (lvalue_view c.args.lvalue.now)) (λ program d. replacing program d c.args.compute (lvalue_view c.args.lvalue.now) (expr_view c.args.e.now)) c.args.self.now c.locate.new.self c.put-4.new.tasks.items (tasks_then (λ program d next. evaluating program d (expr_view c.args.e.now) (step program d (T.Binary c.args.compute) (step program d T.Store next))) (λ program d next. step program d T.Fetch next) c.args.self.now.tasks.items c.put-3.new.tasks.items c.put-4.new.tasks.items (tasks_then (λ program d next. step program d (T.Binary c.args.compute) (step program d T.Store next)) (λ program d next. evaluating program d (expr_view c.args.e.now) next) c.args.self.now.tasks.items c.put-2.new.tasks.items c.put-3.new.tasks.items (tasks_then (λ program d next. step program d T.Store next) (λ program d next. step program d (T.Binary c.args.compute) next) c.args.self.now.tasks.items c.put.new.tasks.items c.put-2.new.tasks.items c.in_ok-put.ensures.next c.in_ok-put-2.ensures.next) c.in_ok-put-3.ensures.next) c.in_ok-put-4.ensures.next) h (λ program d next on s. then_alike ((place_of program (stepping program d) (lvalue_view c.args.lvalue.now)) s) _ _ (λ place t. two_parts_and (looked_up program place) (value_of program (stepping program d) (expr_view c.args.e.now)) (λ held v. unless_trapped (binary_result program c.args.compute held v)) (put program place) (λ _. next on) t) ∙ sym (then_then ((place_of program (stepping program d) (lvalue_view c.args.lvalue.now)) s) (λ place. and_then (looked_up program place) (λ held. and_then (value_of program (stepping program d) (expr_view c.args.e.now)) (λ v. and_then (unless_trapped (binary_result program c.args.compute held v)) (put program place)))) (λ _. next on)))) c.locate.ensures.next

pub returns-clause-weight : goal.returns-clause-weight
returns-clause-weight c =
    on_ok c.locate.result (λ e. omega (arith, e, c.in_ok-put.ensures.weight, c.in_ok-put-2.ensures.weight, c.in_ok-put-3.ensures.weight, c.in_ok-put-4.ensures.weight)) c.locate.ensures.weight
