use Rattle.std.proofs.Common.{sym, ◌∙◌, arith}
use Rattle.rvt_tree.specs.Views.{lvalue_view}
use Rattle.c_meaning.specs.Outcomes.{and_then, unless_trapped}
use Rattle.c_meaning.specs.Expressions.{looked_up, place_of}
use Rattle.c_meaning.specs.Statements.{put}
use Rattle.c_meaning.specs.Runs.{stepping}
use Rattle.c_tasks.specs.Tasks.{unary_result, locating, replacing_alone, step}
use Rattle.c_tasks.specs.declared.tasks.Task.TheVariants as T
use Rattle.c_tasks.proofs.Sequences.{then_then, then_alike, one_part_and, becomes_then}
use Rattle.c_tasks.proofs.Forms.{tasks_then}
use Rattle.c_tasks.proofs.ValueForms.{on_ok}
use Rattle.c_tasks.proofs.work.Work.replace_alone.Goals as goal

pub returns-clause-next : goal.returns-clause-next
returns-clause-next c =
    on_ok c.locate.result (λ h. becomes_then (λ program d next. step program d T.Fetch (step program d (T.Unary c.args.compute) (step program d T.Store next))) (λ program d. locating program d (lvalue_view c.args.lvalue.now)) (λ program d. replacing_alone program d c.args.compute (lvalue_view c.args.lvalue.now)) c.args.self.now c.locate.new.self c.put-3.new.tasks.items (tasks_then (λ program d next. step program d (T.Unary c.args.compute) (step program d T.Store next)) (λ program d next. step program d T.Fetch next) c.args.self.now.tasks.items c.put-2.new.tasks.items c.put-3.new.tasks.items (tasks_then (λ program d next. step program d T.Store next) (λ program d next. step program d (T.Unary c.args.compute) next) c.args.self.now.tasks.items c.put.new.tasks.items c.put-2.new.tasks.items c.in_ok-put.ensures.next c.in_ok-put-2.ensures.next) c.in_ok-put-3.ensures.next) h (λ program d next on s. then_alike ((place_of program (stepping program d) (lvalue_view c.args.lvalue.now)) s) _ _ (λ place t. one_part_and (looked_up program place) (λ held. unless_trapped (unary_result program c.args.compute held)) (put program place) (λ _. next on) t) ∙ sym (then_then ((place_of program (stepping program d) (lvalue_view c.args.lvalue.now)) s) (λ place. and_then (looked_up program place) (λ held. and_then (unless_trapped (unary_result program c.args.compute held)) (put program place))) (λ _. next on)))) c.locate.ensures.next

pub returns-clause-weight : goal.returns-clause-weight
returns-clause-weight c =
    on_ok c.locate.result (λ e. omega (arith, e, c.in_ok-put.ensures.weight, c.in_ok-put-2.ensures.weight, c.in_ok-put-3.ensures.weight)) c.locate.ensures.weight
