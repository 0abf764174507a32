use Rattle.std.proofs.Common.{refl, sym, ap, subst, arith, if◌then◌else◌, true, false}
use Rattle.rvt_num.specs.declared.operations.UnOp.TheVariants as N
use Rattle.rvt_num.specs.declared.values.Value.TheVariants.{Num, Null}
use Rattle.rvt_tree.specs.Views.{lvalue_view, expr_view}
use Rattle.c_meaning.specs.Outcomes.{give, and_then, unless_trapped}
use Rattle.c_meaning.specs.Stores.{holds, pointer_to}
use Rattle.c_meaning.specs.Expressions.{truth_value, looked_up, value_of}
use Rattle.c_meaning.specs.Runs.{stepping}
use Rattle.c_tasks.specs.Operands.{operands, with_value, top_value, without_value}
use Rattle.c_tasks.specs.Tasks.{both, either, unary_result, binary_result, evaluating, addressing, Becomes}
use Rattle.c_tasks.specs.declared.tasks.Unary.TheVariants as U
use Rattle.c_tasks.specs.declared.tasks.Binary.TheVariants as B
use Rattle.c_tasks.specs.declared.tasks.Task.TheVariants as T
use Rattle.c_tasks.proofs.Sequences.{becomes, becomes_with}
use Rattle.c_tasks.proofs.Forms.{after_value, after_value_by, after_values, after_place, on_ok_two}
use Rattle.c_tasks.proofs.ValueForms.{on_ok, is_expression, weight_is, within_one, within_two}
use Rattle.c_tasks.proofs.work.Work.evaluate.Goals as goal

pub returns-in-Binary-clause-next : goal.returns-in-Binary-clause-next
returns-in-Binary-clause-next c =
    on_ok c.two.result (after_values with_value (λ program d. value_of program (stepping program d) (expr_view c.args.e.now)) (λ program d v w. unless_trapped (binary_result program (B.Numbers c.in-Binary.op) v w)) (T.Binary (B.Numbers c.in-Binary.op)) c.args.self.now c.two.new.tasks.items (expr_view c.in-Binary.a.value) (expr_view c.in-Binary.b.value) (λ program d next v w on s. refl) (is_expression c.args.e.now _ c.in-Binary.is)) c.two.ensures.next

pub returns-in-Binary-clause-weight : goal.returns-in-Binary-clause-weight
returns-in-Binary-clause-weight c =
    on_ok c.two.result (within_two _ _ _ _ _ _ (omega arith) (weight_is _ _ c.in-Binary.is)) c.two.ensures.weight

pub returns-in-SamePointer-clause-next : goal.returns-in-SamePointer-clause-next
returns-in-SamePointer-clause-next c =
    on_ok c.two-in-SamePointer.result (after_values with_value (λ program d. value_of program (stepping program d) (expr_view c.args.e.now)) (λ program d v w. unless_trapped (binary_result program (B.SamePointer) v w)) (T.Binary (B.SamePointer)) c.args.self.now c.two-in-SamePointer.new.tasks.items (expr_view c.in-SamePointer.a.value) (expr_view c.in-SamePointer.b.value) (λ program d next v w on s. refl) (is_expression c.args.e.now _ c.in-SamePointer.is)) c.two-in-SamePointer.ensures.next

pub returns-in-SamePointer-clause-weight : goal.returns-in-SamePointer-clause-weight
returns-in-SamePointer-clause-weight c =
    on_ok c.two-in-SamePointer.result (within_two _ _ _ _ _ _ (omega arith) (weight_is _ _ c.in-SamePointer.is)) c.two-in-SamePointer.ensures.weight

pub returns-in-OtherPointer-clause-next : goal.returns-in-OtherPointer-clause-next
returns-in-OtherPointer-clause-next c =
    on_ok c.two-in-OtherPointer.result (after_values with_value (λ program d. value_of program (stepping program d) (expr_view c.args.e.now)) (λ program d v w. unless_trapped (binary_result program (B.OtherPointer) v w)) (T.Binary (B.OtherPointer)) c.args.self.now c.two-in-OtherPointer.new.tasks.items (expr_view c.in-OtherPointer.a.value) (expr_view c.in-OtherPointer.b.value) (λ program d next v w on s. refl) (is_expression c.args.e.now _ c.in-OtherPointer.is)) c.two-in-OtherPointer.ensures.next

pub returns-in-OtherPointer-clause-weight : goal.returns-in-OtherPointer-clause-weight
returns-in-OtherPointer-clause-weight c =
    on_ok c.two-in-OtherPointer.result (within_two _ _ _ _ _ _ (omega arith) (weight_is _ _ c.in-OtherPointer.is)) c.two-in-OtherPointer.ensures.weight

pub returns-in-Forward-clause-next : goal.returns-in-Forward-clause-next
returns-in-Forward-clause-next c =
    on_ok c.two-in-Forward.result (after_values with_value (λ program d. value_of program (stepping program d) (expr_view c.args.e.now)) (λ program d v w. unless_trapped (binary_result program (B.Forward c.in-Forward.size) v w)) (T.Binary (B.Forward c.in-Forward.size)) c.args.self.now c.two-in-Forward.new.tasks.items (expr_view c.in-Forward.a.value) (expr_view c.in-Forward.b.value) (λ program d next v w on s. refl) (is_expression c.args.e.now _ c.in-Forward.is)) c.two-in-Forward.ensures.next

pub returns-in-Forward-clause-weight : goal.returns-in-Forward-clause-weight
returns-in-Forward-clause-weight c =
    on_ok c.two-in-Forward.result (within_two _ _ _ _ _ _ (omega arith) (weight_is _ _ c.in-Forward.is)) c.two-in-Forward.ensures.weight

pub returns-in-ForwardFrom-clause-next : goal.returns-in-ForwardFrom-clause-next
returns-in-ForwardFrom-clause-next c =
    on_ok c.two-in-ForwardFrom.result (after_values with_value (λ program d. value_of program (stepping program d) (expr_view c.args.e.now)) (λ program d v w. unless_trapped (binary_result program (B.ForwardFrom c.in-ForwardFrom.size) v w)) (T.Binary (B.ForwardFrom c.in-ForwardFrom.size)) c.args.self.now c.two-in-ForwardFrom.new.tasks.items (expr_view c.in-ForwardFrom.a.value) (expr_view c.in-ForwardFrom.b.value) (λ program d next v w on s. refl) (is_expression c.args.e.now _ c.in-ForwardFrom.is)) c.two-in-ForwardFrom.ensures.next

pub returns-in-ForwardFrom-clause-weight : goal.returns-in-ForwardFrom-clause-weight
returns-in-ForwardFrom-clause-weight c =
    on_ok c.two-in-ForwardFrom.result (within_two _ _ _ _ _ _ (omega arith) (weight_is _ _ c.in-ForwardFrom.is)) c.two-in-ForwardFrom.ensures.weight

pub returns-in-Backward-clause-next : goal.returns-in-Backward-clause-next
returns-in-Backward-clause-next c =
    on_ok c.two-in-Backward.result (after_values with_value (λ program d. value_of program (stepping program d) (expr_view c.args.e.now)) (λ program d v w. unless_trapped (binary_result program (B.Backward c.in-Backward.size) v w)) (T.Binary (B.Backward c.in-Backward.size)) c.args.self.now c.two-in-Backward.new.tasks.items (expr_view c.in-Backward.a.value) (expr_view c.in-Backward.b.value) (λ program d next v w on s. refl) (is_expression c.args.e.now _ c.in-Backward.is)) c.two-in-Backward.ensures.next

pub returns-in-Backward-clause-weight : goal.returns-in-Backward-clause-weight
returns-in-Backward-clause-weight c =
    on_ok c.two-in-Backward.result (within_two _ _ _ _ _ _ (omega arith) (weight_is _ _ c.in-Backward.is)) c.two-in-Backward.ensures.weight

pub returns-in-Cast-clause-next : goal.returns-in-Cast-clause-next
returns-in-Cast-clause-next c =
    on_ok c.one.result (after_value with_value (λ program d. value_of program (stepping program d) (expr_view c.args.e.now)) (λ program d v. unless_trapped (unary_result program (U.Convert c.in-Cast.kind) v)) (T.Unary (U.Convert c.in-Cast.kind)) c.args.self.now c.one.new.tasks.items (expr_view c.in-Cast.a.value) (λ program d next v on s. refl) (is_expression c.args.e.now _ c.in-Cast.is)) c.one.ensures.next

pub returns-in-Cast-clause-weight : goal.returns-in-Cast-clause-weight
returns-in-Cast-clause-weight c =
    on_ok c.one.result (within_one _ _ _ _ _ (omega arith) (weight_is _ _ c.in-Cast.is)) c.one.ensures.weight

pub returns-in-Minus-clause-next : goal.returns-in-Minus-clause-next
returns-in-Minus-clause-next c =
    on_ok c.one-in-Minus.result (after_value with_value (λ program d. value_of program (stepping program d) (expr_view c.args.e.now)) (λ program d v. unless_trapped (unary_result program (U.Number N.Minus) v)) (T.Unary (U.Number N.Minus)) c.args.self.now c.one-in-Minus.new.tasks.items (expr_view c.in-Minus.a.value) (λ program d next v on s. refl) (is_expression c.args.e.now _ c.in-Minus.is)) c.one-in-Minus.ensures.next

pub returns-in-Minus-clause-weight : goal.returns-in-Minus-clause-weight
returns-in-Minus-clause-weight c =
    on_ok c.one-in-Minus.result (within_one _ _ _ _ _ (omega arith) (weight_is _ _ c.in-Minus.is)) c.one-in-Minus.ensures.weight

pub returns-in-Flip-clause-next : goal.returns-in-Flip-clause-next
returns-in-Flip-clause-next c =
    on_ok c.one-in-Flip.result (after_value with_value (λ program d. value_of program (stepping program d) (expr_view c.args.e.now)) (λ program d v. unless_trapped (unary_result program (U.Number N.Flip) v)) (T.Unary (U.Number N.Flip)) c.args.self.now c.one-in-Flip.new.tasks.items (expr_view c.in-Flip.a.value) (λ program d next v on s. refl) (is_expression c.args.e.now _ c.in-Flip.is)) c.one-in-Flip.ensures.next

pub returns-in-Flip-clause-weight : goal.returns-in-Flip-clause-weight
returns-in-Flip-clause-weight c =
    on_ok c.one-in-Flip.result (within_one _ _ _ _ _ (omega arith) (weight_is _ _ c.in-Flip.is)) c.one-in-Flip.ensures.weight

pub returns-in-Not-clause-next : goal.returns-in-Not-clause-next
returns-in-Not-clause-next c =
    on_ok c.one-in-Not.result (after_value with_value (λ program d. value_of program (stepping program d) (expr_view c.args.e.now)) (λ program d v. unless_trapped (unary_result program (U.Not) v)) (T.Unary (U.Not)) c.args.self.now c.one-in-Not.new.tasks.items (expr_view c.in-Not.a.value) (λ program d next v on s. refl) (is_expression c.args.e.now _ c.in-Not.is)) c.one-in-Not.ensures.next

pub returns-in-Not-clause-weight : goal.returns-in-Not-clause-weight
returns-in-Not-clause-weight c =
    on_ok c.one-in-Not.result (within_one _ _ _ _ _ (omega arith) (weight_is _ _ c.in-Not.is)) c.one-in-Not.ensures.weight

pub returns-in-Both-clause-next : goal.returns-in-Both-clause-next
returns-in-Both-clause-next c =
    on_ok c.one-in-Both.result (after_value_by with_value (λ program d. value_of program (stepping program d) (expr_view c.args.e.now)) (λ program d v. if holds v then and_then (value_of program (stepping program d) (expr_view c.in-Both.b.value)) (λ w. give (truth_value (holds w))) else give (truth_value false)) (λ program d next on. both program d (holds (top_value on)) (expr_view c.in-Both.b.value) next (without_value on)) c.args.self.now c.one-in-Both.new.tasks.items (expr_view c.in-Both.a.value) (λ program d next v on s. refl) (is_expression c.args.e.now _ c.in-Both.is)) c.one-in-Both.ensures.next

pub returns-in-Both-clause-weight : goal.returns-in-Both-clause-weight
returns-in-Both-clause-weight c =
    on_ok c.one-in-Both.result (λ e. omega (arith, e, weight_is _ _ c.in-Both.is)) c.one-in-Both.ensures.weight

pub returns-in-Either-clause-next : goal.returns-in-Either-clause-next
returns-in-Either-clause-next c =
    on_ok c.one-in-Either.result (after_value_by with_value (λ program d. value_of program (stepping program d) (expr_view c.args.e.now)) (λ program d v. if holds v then give (truth_value true) else and_then (value_of program (stepping program d) (expr_view c.in-Either.b.value)) (λ w. give (truth_value (holds w)))) (λ program d next on. either program d (holds (top_value on)) (expr_view c.in-Either.b.value) next (without_value on)) c.args.self.now c.one-in-Either.new.tasks.items (expr_view c.in-Either.a.value) (λ program d next v on s. refl) (is_expression c.args.e.now _ c.in-Either.is)) c.one-in-Either.ensures.next

pub returns-in-Either-clause-weight : goal.returns-in-Either-clause-weight
returns-in-Either-clause-weight c =
    on_ok c.one-in-Either.result (λ e. omega (arith, e, weight_is _ _ c.in-Either.is)) c.one-in-Either.ensures.weight

pub returns-in-Choice-clause-next : goal.returns-in-Choice-clause-next
returns-in-Choice-clause-next c =
    on_ok c.one-in-Choice.result (after_value_by with_value (λ program d. value_of program (stepping program d) (expr_view c.args.e.now)) (λ program d v. if holds v then value_of program (stepping program d) (expr_view c.in-Choice.a.value) else value_of program (stepping program d) (expr_view c.in-Choice.b.value)) (λ program d next on. and_then (if holds (top_value on) then value_of program (stepping program d) (expr_view c.in-Choice.a.value) else value_of program (stepping program d) (expr_view c.in-Choice.b.value)) (λ v. next (with_value v (without_value on)))) c.args.self.now c.one-in-Choice.new.tasks.items (expr_view c.in-Choice.test.value) (λ program d next v on s. refl) (is_expression c.args.e.now _ c.in-Choice.is)) c.one-in-Choice.ensures.next

pub returns-in-Choice-clause-weight : goal.returns-in-Choice-clause-weight
returns-in-Choice-clause-weight c =
    on_ok c.one-in-Choice.result (λ e. omega (arith, e, weight_is _ _ c.in-Choice.is)) c.one-in-Choice.ensures.weight

pub returns-in-Read-clause-next : goal.returns-in-Read-clause-next
returns-in-Read-clause-next c =
    on_ok c.located.result (after_place with_value (λ program d. value_of program (stepping program d) (expr_view c.args.e.now)) (λ program d place. looked_up program place) T.Load c.args.self.now c.located.new.tasks.items (lvalue_view c.in-Read.lvalue.value) (λ program d next place on s. refl) (is_expression c.args.e.now _ c.in-Read.is)) c.located.ensures.next

pub returns-in-Read-clause-weight : goal.returns-in-Read-clause-weight
returns-in-Read-clause-weight c =
    on_ok c.located.result (within_one _ _ _ _ _ (omega arith) (weight_is _ _ c.in-Read.is)) c.located.ensures.weight

pub returns-in-Decay-clause-next : goal.returns-in-Decay-clause-next
returns-in-Decay-clause-next c =
    on_ok c.located-in-Decay.result (after_place with_value (λ program d. value_of program (stepping program d) (expr_view c.args.e.now)) (λ program d place. give (pointer_to place)) T.Point c.args.self.now c.located-in-Decay.new.tasks.items (lvalue_view c.in-Decay.lvalue.value) (λ program d next place on s. refl) (is_expression c.args.e.now _ c.in-Decay.is)) c.located-in-Decay.ensures.next

pub returns-in-Decay-clause-weight : goal.returns-in-Decay-clause-weight
returns-in-Decay-clause-weight c =
    on_ok c.located-in-Decay.result (within_one _ _ _ _ _ (omega arith) (weight_is _ _ c.in-Decay.is)) c.located-in-Decay.ensures.weight

pub returns-in-Plus-clause-next : goal.returns-in-Plus-clause-next
returns-in-Plus-clause-next c =
    on_ok c.put-in-Plus.result (λ h. becomes (λ program d. evaluating program d (expr_view c.in-Plus.a.value)) (λ program d. evaluating program d (expr_view c.args.e.now)) c.args.self.now c.put-in-Plus.new.tasks.items h (λ program d next on s. sym (ap (λ x. evaluating program d (expr_view x) next on s) c.in-Plus.is))) c.put-in-Plus.ensures.next

pub returns-in-Plus-clause-weight : goal.returns-in-Plus-clause-weight
returns-in-Plus-clause-weight c =
    on_ok c.put-in-Plus.result (λ e. omega (arith, e, weight_is _ _ c.in-Plus.is)) c.put-in-Plus.ensures.weight

pub returns-in-Address-clause-next : goal.returns-in-Address-clause-next
returns-in-Address-clause-next c =
    on_ok c.put.result (λ h. becomes (λ program d. addressing program d (lvalue_view c.in-Address.lvalue.value)) (λ program d. evaluating program d (expr_view c.args.e.now)) c.args.self.now c.put.new.tasks.items h (λ program d next on s. sym (ap (λ x. evaluating program d (expr_view x) next on s) c.in-Address.is))) c.put.ensures.next

pub returns-in-Address-clause-weight : goal.returns-in-Address-clause-weight
returns-in-Address-clause-weight c =
    on_ok c.put.result (λ e. omega (arith, e, weight_is _ _ c.in-Address.is)) c.put.ensures.weight

pub returns-in-Constant-clause-next : goal.returns-in-Constant-clause-next
returns-in-Constant-clause-next c =
    on_ok_two c.give.result (λ tasks on. becomes_with (λ program d. evaluating program d (expr_view c.args.e.now)) c.args.self.now c.give.new.self (with_value (Num c.in-Constant.number) (operands c.args.self.now)) tasks on (λ program d next s. sym (ap (λ x. evaluating program d (expr_view x) next (operands c.args.self.now) s) c.in-Constant.is))) c.give.ensures.tasks c.give.ensures.operands

pub returns-in-Null-clause-next : goal.returns-in-Null-clause-next
returns-in-Null-clause-next c =
    on_ok_two c.give-in-Null.result (λ tasks on. becomes_with (λ program d. evaluating program d (expr_view c.args.e.now)) c.args.self.now c.give-in-Null.new.self (with_value (Null) (operands c.args.self.now)) tasks on (λ program d next s. sym (ap (λ x. evaluating program d (expr_view x) next (operands c.args.self.now) s) c.in-Null.is))) c.give-in-Null.ensures.tasks c.give-in-Null.ensures.operands

pub returns-in-Call-clause-next : goal.returns-in-Call-clause-next
returns-in-Call-clause-next c =
    on_ok c.call_with.result (subst (λ x. Becomes (λ program d. evaluating program d (expr_view x)) c.args.self.now c.call_with.new.self) (sym c.in-Call.is)) c.call_with.ensures.next

pub returns-in-Call-clause-weight : goal.returns-in-Call-clause-weight
returns-in-Call-clause-weight c =
    on_ok c.call_with.result (λ e. omega (arith, e, weight_is _ _ c.in-Call.is)) c.call_with.ensures.weight
