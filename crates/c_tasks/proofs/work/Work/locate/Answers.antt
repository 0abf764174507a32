use Rattle.std.proofs.Common.{refl, sym, ap, ◌∙◌, arith}
use Rattle.rvt_tree.specs.Views.{lvalue_view, expr_view}
use Rattle.rvt_tree.specs.declared.types.Pointee.TheVariants as P
use Rattle.c_meaning.specs.Outcomes.{give, unless_trapped}
use Rattle.c_meaning.specs.Stores.{number_of, beyond, element_at, moved, target}
use Rattle.c_meaning.specs.Expressions.{times, place_of, value_of}
use Rattle.c_meaning.specs.Runs.{stepping}
use Rattle.c_tasks.specs.Operands.{operands, with_place}
use Rattle.c_tasks.specs.Tasks.{evaluating, locating, step}
use Rattle.c_tasks.specs.Weights.{lvalue_weight}
use Rattle.c_tasks.specs.declared.tasks.Binary.TheVariants as B
use Rattle.c_tasks.specs.declared.tasks.Task.TheVariants as T
use Rattle.c_tasks.proofs.Sequences.{becomes_with}
use Rattle.c_tasks.proofs.Forms.{by_one_and, by_two_and, after_value, after_place, after_both, tasks_then, on_ok_two}
use Rattle.c_tasks.proofs.ValueForms.{on_ok, within_one, within_two}
use Rattle.c_tasks.proofs.work.Work.locate.Goals as goal

pub returns-in-Variable-clause-next : goal.returns-in-Variable-clause-next
returns-in-Variable-clause-next c =
    on_ok_two c.give_place.result (λ tasks on. becomes_with (λ program d. locating program d (lvalue_view c.args.lvalue.now)) c.args.self.now c.give_place.new.self (with_place (record { variable = c.in-Variable.variable; cell = 0 }) (operands c.args.self.now)) tasks (on ∙ ap (λ place. with_place place (operands c.args.self.now)) c.new.ensures) (λ program d next s. sym (ap (λ x. locating program d (lvalue_view x) next (operands c.args.self.now) s) c.in-Variable.is))) c.give_place.ensures.tasks c.give_place.ensures.operands

pub returns-in-Element-clause-next : goal.returns-in-Element-clause-next
returns-in-Element-clause-next c =
    on_ok c.element.result (after_both with_place (λ program d. place_of program (stepping program d) (lvalue_view c.args.lvalue.now)) (λ program d place i. unless_trapped (element_at place (number_of i).value c.in-Element.count c.in-Element.size)) (T.Element c.in-Element.count c.in-Element.size) c.args.self.now c.element.new.tasks.items (lvalue_view c.in-Element.array.value) (expr_view c.in-Element.index.value) (λ program d next place v on s. refl) (λ program d s. ap (λ x. place_of program (stepping program d) (lvalue_view x) s) c.in-Element.is)) c.element.ensures.next

pub returns-in-Element-clause-weight : goal.returns-in-Element-clause-weight
returns-in-Element-clause-weight c =
    on_ok c.element.result (within_two _ _ _ _ _ _ (omega arith) (ap (λ x. lvalue_weight (lvalue_view x)) c.in-Element.is)) c.element.ensures.weight

pub returns-in-Member-clause-next : goal.returns-in-Member-clause-next
returns-in-Member-clause-next c =
    on_ok c.located.result (after_place with_place (λ program d. place_of program (stepping program d) (lvalue_view c.args.lvalue.now)) (λ program d place. give (beyond c.in-Member.cell place)) (T.Member c.in-Member.cell) c.args.self.now c.located.new.tasks.items (lvalue_view c.in-Member.aggregate.value) (λ program d next place on s. refl) (λ program d s. ap (λ x. place_of program (stepping program d) (lvalue_view x) s) c.in-Member.is)) c.located.ensures.next

pub returns-in-Member-clause-weight : goal.returns-in-Member-clause-weight
returns-in-Member-clause-weight c =
    on_ok c.located.result (within_one _ _ _ _ _ (omega arith) (ap (λ x. lvalue_weight (lvalue_view x)) c.in-Member.is)) c.located.ensures.weight

pub returns-in-Target-clause-next : goal.returns-in-Target-clause-next
returns-in-Target-clause-next c =
    on_ok c.one.result (after_value with_place (λ program d. place_of program (stepping program d) (lvalue_view c.args.lvalue.now)) (λ program d v. unless_trapped (target program c.in-Target.pointee v)) (T.Aim c.in-Target.pointee) c.args.self.now c.one.new.tasks.items (expr_view c.in-Target.pointer.value) (λ program d next v on s. refl) (λ program d s. ap (λ x. place_of program (stepping program d) (lvalue_view x) s) c.in-Target.is)) c.one.ensures.next

pub returns-in-Target-clause-weight : goal.returns-in-Target-clause-weight
returns-in-Target-clause-weight c =
    on_ok c.one.result (within_one _ _ _ _ _ (omega arith) (ap (λ x. lvalue_weight (lvalue_view x)) c.in-Target.is)) c.one.ensures.weight

pub returns-in_ok-put-in-Indexed-clause-next : goal.returns-in_ok-put-in-Indexed-clause-next
returns-in_ok-put-in-Indexed-clause-next c =
    on_ok c.two.result (λ h. by_two_and (λ program d. value_of program (stepping program d) (expr_view c.in-Indexed.pointer.value)) (λ program d. value_of program (stepping program d) (expr_view c.in-Indexed.index.value)) (λ program d v w. unless_trapped (moved program v (times w c.in-Indexed.size))) (λ program d w. unless_trapped (target program c.in-Indexed.pointee w)) (λ program d. place_of program (stepping program d) (lvalue_view c.args.lvalue.now)) with_place (λ program d next. evaluating program d (expr_view c.in-Indexed.pointer.value) (evaluating program d (expr_view c.in-Indexed.index.value) (step program d (T.Binary (B.Forward c.in-Indexed.size)) (step program d (T.Aim c.in-Indexed.pointee) next)))) c.args.self.now c.two.new.tasks.items (λ program d next on s. refl) (λ program d s. ap (λ x. place_of program (stepping program d) (lvalue_view x) s) c.in-Indexed.is) (tasks_then (λ program d. step program d (T.Aim c.in-Indexed.pointee)) (λ program d next. evaluating program d (expr_view c.in-Indexed.pointer.value) (evaluating program d (expr_view c.in-Indexed.index.value) (step program d (T.Binary (B.Forward c.in-Indexed.size)) next))) c.args.self.now.tasks.items c.put.new.tasks.items c.two.new.tasks.items c.in_ok-put-in-Indexed.ensures.next h)) c.two.ensures.next

pub returns-in_ok-put-in-Arrow-clause-next : goal.returns-in_ok-put-in-Arrow-clause-next
returns-in_ok-put-in-Arrow-clause-next c =
    on_ok c.one-in-Arrow.result (λ h. by_one_and (λ program d. value_of program (stepping program d) (expr_view c.in-Arrow.pointer.value)) (λ program d v. unless_trapped (target program (P.Struct c.in-Arrow.structure) v)) (λ program d place. give (beyond c.in-Arrow.cell place)) (λ program d. place_of program (stepping program d) (lvalue_view c.args.lvalue.now)) with_place (λ program d next. evaluating program d (expr_view c.in-Arrow.pointer.value) (step program d (T.Aim (P.Struct c.in-Arrow.structure)) (step program d (T.Member c.in-Arrow.cell) next))) c.args.self.now c.one-in-Arrow.new.tasks.items (λ program d next on s. refl) (λ program d s. ap (λ x. place_of program (stepping program d) (lvalue_view x) s) c.in-Arrow.is) (tasks_then (λ program d. step program d (T.Member c.in-Arrow.cell)) (λ program d next. evaluating program d (expr_view c.in-Arrow.pointer.value) (step program d (T.Aim (P.Struct c.in-Arrow.structure)) next)) c.args.self.now.tasks.items c.put-in-Arrow.new.tasks.items c.one-in-Arrow.new.tasks.items c.in_ok-put-in-Arrow.ensures.next h)) c.one-in-Arrow.ensures.next

pub returns-in_ok-put-in-Indexed-clause-weight : goal.returns-in_ok-put-in-Indexed-clause-weight
returns-in_ok-put-in-Indexed-clause-weight c =
    on_ok c.two.result (λ e. omega (arith, e, c.in_ok-put-in-Indexed.ensures.weight, ap (λ x. lvalue_weight (lvalue_view x)) c.in-Indexed.is)) c.two.ensures.weight

pub returns-in_ok-put-in-Arrow-clause-weight : goal.returns-in_ok-put-in-Arrow-clause-weight
returns-in_ok-put-in-Arrow-clause-weight c =
    on_ok c.one-in-Arrow.result (λ e. omega (arith, e, c.in_ok-put-in-Arrow.ensures.weight, ap (λ x. lvalue_weight (lvalue_view x)) c.in-Arrow.is)) c.one-in-Arrow.ensures.weight
