use Rattle.std.proofs.Common.{refl, sym, ap, ◌∙◌, arith}
use Rattle.rvt_tree.specs.Views.{lvalue_view, expr_view}
use Rattle.rvt_tree.specs.declared.types.Pointee.TheVariants as P
use Rattle.c_meaning.specs.Outcomes.{give, unless_trapped}
use Rattle.c_meaning.specs.Stores.{beyond, moved, target, pointer_to}
use Rattle.c_meaning.specs.Expressions.{times, place_of, address_of, value_of}
use Rattle.c_meaning.specs.Runs.{stepping}
use Rattle.c_tasks.specs.Operands.{operands, with_value}
use Rattle.c_tasks.specs.Tasks.{evaluating, locating, addressing, step}
use Rattle.c_tasks.specs.Weights.{lvalue_weight}
use Rattle.c_tasks.specs.declared.tasks.Binary.TheVariants as B
use Rattle.c_tasks.specs.declared.tasks.Task.TheVariants as T
use Rattle.c_tasks.proofs.Sequences.{becomes, becomes_with}
use Rattle.c_tasks.proofs.Forms.{by_one, by_one_and, after_values, after_both, tasks_then, on_ok_two}
use Rattle.c_tasks.proofs.ValueForms.{on_ok, within_two}
use Rattle.c_tasks.proofs.work.Work.address.Goals as goal

pub returns-in-Variable-clause-next : goal.returns-in-Variable-clause-next
returns-in-Variable-clause-next c =
    on_ok_two c.give.result (λ tasks on. becomes_with (λ program d. addressing program d (lvalue_view c.args.lvalue.now)) c.args.self.now c.give.new.self (with_value (pointer_to (record { variable = c.in-Variable.variable; cell = 0 })) (operands c.args.self.now)) tasks (on ∙ ap (λ v. with_value v (operands c.args.self.now)) (c.pointer.ensures ∙ ap pointer_to c.new.ensures)) (λ program d next s. sym (ap (λ x. addressing program d (lvalue_view x) next (operands c.args.self.now) s) c.in-Variable.is))) c.give.ensures.tasks c.give.ensures.operands

pub returns-in-Element-clause-next : goal.returns-in-Element-clause-next
returns-in-Element-clause-next c =
    on_ok c.element.result (after_both with_value (λ program d. address_of program (stepping program d) (lvalue_view c.args.lvalue.now)) (λ program d place i. unless_trapped (moved program (pointer_to place) (times i c.in-Element.size))) (T.ElementAddress c.in-Element.size) c.args.self.now c.element.new.tasks.items (lvalue_view c.in-Element.array.value) (expr_view c.in-Element.index.value) (λ program d next place v on s. refl) (λ program d s. ap (λ x. address_of program (stepping program d) (lvalue_view x) s) c.in-Element.is)) c.element.ensures.next

pub returns-in-Element-clause-weight : goal.returns-in-Element-clause-weight
returns-in-Element-clause-weight c =
    on_ok c.element.result (within_two _ _ _ _ _ _ (omega arith) (ap (λ x. lvalue_weight (lvalue_view x)) c.in-Element.is)) c.element.ensures.weight

pub returns-in-Target-clause-next : goal.returns-in-Target-clause-next
returns-in-Target-clause-next c =
    on_ok c.put-in-Target.result (λ h. becomes (λ program d. evaluating program d (expr_view c.in-Target.pointer.value)) (λ program d. addressing program d (lvalue_view c.args.lvalue.now)) c.args.self.now c.put-in-Target.new.tasks.items h (λ program d next on s. sym (ap (λ x. addressing program d (lvalue_view x) next on s) c.in-Target.is))) c.put-in-Target.ensures.next

pub returns-in-Target-clause-weight : goal.returns-in-Target-clause-weight
returns-in-Target-clause-weight c =
    on_ok c.put-in-Target.result (λ e. omega (arith, e, ap (λ x. lvalue_weight (lvalue_view x)) c.in-Target.is)) c.put-in-Target.ensures.weight

pub returns-in-Indexed-clause-next : goal.returns-in-Indexed-clause-next
returns-in-Indexed-clause-next c =
    on_ok c.two.result (after_values with_value (λ program d. address_of program (stepping program d) (lvalue_view c.args.lvalue.now)) (λ program d v w. unless_trapped (moved program v (times w c.in-Indexed.size))) (T.Binary (B.Forward c.in-Indexed.size)) c.args.self.now c.two.new.tasks.items (expr_view c.in-Indexed.pointer.value) (expr_view c.in-Indexed.index.value) (λ program d next v w on s. refl) (λ program d s. ap (λ x. address_of program (stepping program d) (lvalue_view x) s) c.in-Indexed.is)) c.two.ensures.next

pub returns-in-Indexed-clause-weight : goal.returns-in-Indexed-clause-weight
returns-in-Indexed-clause-weight c =
    on_ok c.two.result (within_two _ _ _ _ _ _ (omega arith) (ap (λ x. lvalue_weight (lvalue_view x)) c.in-Indexed.is)) c.two.ensures.weight

pub returns-in_ok-put-in-Member-clause-next : goal.returns-in_ok-put-in-Member-clause-next
returns-in_ok-put-in-Member-clause-next c =
    on_ok c.located.result (λ h. by_one (λ program d. place_of program (stepping program d) (lvalue_view c.in-Member.aggregate.value)) (λ program d place. give (pointer_to (beyond c.in-Member.cell place))) (λ program d. address_of program (stepping program d) (lvalue_view c.args.lvalue.now)) with_value (λ program d next. locating program d (lvalue_view c.in-Member.aggregate.value) (step program d (T.Member c.in-Member.cell) (step program d T.Point next))) c.args.self.now c.located.new.tasks.items (λ program d next on s. refl) (λ program d s. ap (λ x. address_of program (stepping program d) (lvalue_view x) s) c.in-Member.is) (tasks_then (λ program d. step program d T.Point) (λ program d next. locating program d (lvalue_view c.in-Member.aggregate.value) (step program d (T.Member c.in-Member.cell) next)) c.args.self.now.tasks.items c.put.new.tasks.items c.located.new.tasks.items c.in_ok-put-in-Member.ensures.next h)) c.located.ensures.next

pub returns-in_ok-put-in-Arrow-2-clause-next : goal.returns-in_ok-put-in-Arrow-2-clause-next
returns-in_ok-put-in-Arrow-2-clause-next c =
    on_ok c.one.result (λ h. by_one_and (λ program d. value_of program (stepping program d) (expr_view c.in-Arrow.pointer.value)) (λ program d v. unless_trapped (target program (P.Struct c.in-Arrow.structure) v)) (λ program d place. give (pointer_to (beyond c.in-Arrow.cell place))) (λ program d. address_of program (stepping program d) (lvalue_view c.args.lvalue.now)) with_value (λ program d next. evaluating program d (expr_view c.in-Arrow.pointer.value) (step program d (T.Aim (P.Struct c.in-Arrow.structure)) (step program d (T.Member c.in-Arrow.cell) (step program d T.Point next)))) c.args.self.now c.one.new.tasks.items (λ program d next on s. refl) (λ program d s. ap (λ x. address_of program (stepping program d) (lvalue_view x) s) c.in-Arrow.is) (tasks_then (λ program d next. step program d (T.Member c.in-Arrow.cell) (step program d T.Point next)) (λ program d next. evaluating program d (expr_view c.in-Arrow.pointer.value) (step program d (T.Aim (P.Struct c.in-Arrow.structure)) next)) c.args.self.now.tasks.items c.put-in-Arrow-2.new.tasks.items c.one.new.tasks.items (tasks_then (λ program d. step program d T.Point) (λ program d. step program d (T.Member c.in-Arrow.cell)) c.args.self.now.tasks.items c.put-in-Arrow.new.tasks.items c.put-in-Arrow-2.new.tasks.items c.in_ok-put-in-Arrow.ensures.next c.in_ok-put-in-Arrow-2.ensures.next) h)) c.one.ensures.next

pub returns-in_ok-put-in-Member-clause-weight : goal.returns-in_ok-put-in-Member-clause-weight
returns-in_ok-put-in-Member-clause-weight c =
    on_ok c.located.result (λ e. omega (arith, e, c.in_ok-put-in-Member.ensures.weight, ap (λ x. lvalue_weight (lvalue_view x)) c.in-Member.is)) c.located.ensures.weight

pub returns-in_ok-put-in-Arrow-2-clause-weight : goal.returns-in_ok-put-in-Arrow-2-clause-weight
returns-in_ok-put-in-Arrow-2-clause-weight c =
    on_ok c.one.result (λ e. omega (arith, e, c.in_ok-put-in-Arrow.ensures.weight, c.in_ok-put-in-Arrow-2.ensures.weight, ap (λ x. lvalue_weight (lvalue_view x)) c.in-Arrow.is)) c.one.ensures.weight
