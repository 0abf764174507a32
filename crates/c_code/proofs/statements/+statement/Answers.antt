use Rattle.std.proofs.Common.{◌++◌, [], ◌∷◌, suc, length, append_assoc, sym, ap, ◌∙◌}
use Rattle.std.specs.Prelude.{option_map}
use Rattle.rvt_tree.specs.Views.{expr_view, acts_view, labels_view, stmt_view, stmts_view}
use Rattle.c_code.specs.Expressions.{passing, choosing, value_code}
use Rattle.c_code.specs.Acts.{acts_code}
use Rattle.c_code.specs.Statements.{leaving, test_code, looping, labels_code, statement_code, block_code}
use Rattle.c_code.specs.declared.instructions.When.TheVariants as W
use Rattle.c_code.specs.declared.instructions.Instruction.TheVariants as I
use Rattle.c_code.proofs.Choices.{chosen, behind}
use Rattle.c_code.proofs.Rounds.{rounded, passed, while_is, do_is, for_is}
use Rattle.c_code.proofs.statements.+statement.Goals as goal

pub guarded-returns : goal.guarded-returns
guarded-returns t c =
    chosen _ _ _ _ _ _ _ _ _ _ _ c.in_ok-at.ensures.place c.in_ok-at.ensures.room c.in_ok-statement.ensures c.in_ok-behind.ensures.first c.in_ok-behind.ensures.place
    c.in_ok-put.ensures c.jump_over.ensures.jump

pub skippable-returns : goal.skippable-returns
skippable-returns t c =
    c.jump_over.ensures.jump c.args.code.now.items (statement_code c.args.counts.now (stmt_view c.args.s.now)) I.Finish
    (behind c.args.code.now.items _ _ _ I.Finish c.in_ok-at.ensures.room c.in_ok-statement.ensures) c.in_ok-at.ensures.place

pub group-returns : goal.group-returns
group-returns t c =
    let names = labels_code (labels_view c.args.names.now) in
    let body = block_code c.args.counts.now (stmts_view c.args.body.now) ++ leaving (stmts_view c.args.body.now) in
    c.close_group.ensures c.args.code.now.items (names ++ body) I.Finish
    (behind c.args.code.now.items c.leave_room.new.code.items _ (names ++ body) I.Finish c.in_ok-at.ensures.room
    (c.in_ok-scope.ensures ∙ ap (λ l. l ++ body) c.in_ok-count.ensures.code ∙ append_assoc c.leave_room.new.code.items names body)) c.in_ok-at.ensures.place
    ∙ ap (λ n. c.args.code.now.items ++ I.Group n (suc (length (names ++ body))) ∷ (names ++ body)) c.in_ok-count.ensures.count

pub rounds-returns : goal.rounds-returns
rounds-returns t c = rounded c.args.head c.args.exit c.args.code.now.items c.statement.new.code.items _ _ c.in_ok-statement.ensures c.in_ok-close_loop.ensures

pub rounds_with-returns : goal.rounds_with-returns
rounds_with-returns t c =
    rounded c.args.head c.args.exit c.args.code.now.items c.jump_over.new.code.items _ _
    (passed W.Broke _ _ _ _ _ _ _ _ c.in_ok-statement.ensures c.in_ok-over.ensures.place c.in_ok-over.ensures.room c.in_ok-acts.ensures c.jump_over.ensures.jump) c.in_ok-close_loop.ensures

pub statement-returns-in_ok-statement-in-IfElse-2 : goal.statement-returns-in_ok-statement-in-IfElse-2
statement-returns-in_ok-statement-in-IfElse-2 t c =
    let old = c.args.code.now.items in let test = value_code (expr_view c.in-IfElse.test) 0 0 in
    chosen _ _ _ _ _ _ _ _ _ _ _ c.in_ok-at-in-IfElse.ensures.place c.in_ok-at-in-IfElse.ensures.room c.in_ok-statement-in-IfElse.ensures c.in_ok-behind-in-IfElse.ensures.first
    c.in_ok-behind-in-IfElse.ensures.place c.in_ok-statement-in-IfElse-2.ensures c.jump_over.ensures.jump
    ∙ ap (λ l. l ++ choosing 0 (statement_code c.args.counts.now (stmt_view c.deref-in-IfElse.result.now)) (statement_code c.args.counts.now (stmt_view c.deref-in-IfElse-2.result.now))) c.in_ok-value-in-IfElse.ensures
    ∙ append_assoc old test (choosing 0 (statement_code c.args.counts.now (stmt_view c.deref-in-IfElse.result.now)) (statement_code c.args.counts.now (stmt_view c.deref-in-IfElse-2.result.now)))
    ∙ ap (λ a. old ++ (test ++ choosing 0 (statement_code c.args.counts.now (stmt_view a)) (statement_code c.args.counts.now (stmt_view c.deref-in-IfElse-2.result.now)))) c.deref-in-IfElse.ensures
    ∙ ap (λ b. old ++ (test ++ choosing 0 (statement_code c.args.counts.now (stmt_view c.in-IfElse.first.value)) (statement_code c.args.counts.now (stmt_view b)))) c.deref-in-IfElse-2.ensures
    ∙ ap (λ s. old ++ statement_code c.args.counts.now (stmt_view s)) (sym c.in-IfElse.is)

pub statement-returns-in_ok-rounds-in-While : goal.statement-returns-in_ok-rounds-in-While
statement-returns-in_ok-rounds-in-While t c =
    let old = c.args.code.now.items in
    while_is _ _ _ _ _ _ _ _ _ c.in_ok-put-in-While.ensures (c.len-head.ensures ∙ c.put-in-While.new.code.ok.0) c.in_ok-value-in-While.ensures c.in_ok-exit-in-While.ensures.place c.in_ok-exit-in-While.ensures.room c.in_ok-rounds-in-While.ensures
    ∙ ap (λ b. old ++ I.Spend ∷ looping (value_code (expr_view c.in-While.test) 0 0) (statement_code c.args.counts.now (stmt_view b))) c.deref-in-While.ensures
    ∙ ap (λ s. old ++ statement_code c.args.counts.now (stmt_view s)) (sym c.in-While.is)

pub statement-returns-in_ok-rounds-in-DoWhile : goal.statement-returns-in_ok-rounds-in-DoWhile
statement-returns-in_ok-rounds-in-DoWhile t c =
    let old = c.args.code.now.items in let test = value_code (expr_view c.in-DoWhile.test) 0 0 in
    do_is _ _ _ _ _ _ _ _ _ _ _ c.in_ok-start-in-DoWhile.ensures.room c.in_ok-start-in-DoWhile.ensures.place (c.len-head-in-DoWhile.ensures ∙ c.leave_room-in-DoWhile.new.code.ok.0) c.in_ok-value-in-DoWhile.ensures
    c.in_ok-exit-in-DoWhile.ensures.place c.in_ok-exit-in-DoWhile.ensures.room c.jump_over-in-DoWhile.ensures.jump c.in_ok-rounds-in-DoWhile.ensures
    ∙ ap (λ b. old ++ I.Jump W.Always (suc (length (test ++ I.Finish ∷ []))) ∷ looping test (statement_code c.args.counts.now (stmt_view b))) c.deref-in-DoWhile.ensures
    ∙ ap (λ s. old ++ statement_code c.args.counts.now (stmt_view s)) (sym c.in-DoWhile.is)

pub statement-returns-in_ok-leave-in-For : goal.statement-returns-in_ok-leave-in-For
statement-returns-in_ok-leave-in-For t c =
    let old = c.args.code.now.items in let test = test_code (option_map expr_view c.in-For.test) in let last = passing W.Broke (acts_code (acts_view c.in-For.last)) in
    for_is _ _ _ _ _ _ _ _ _ _ _ _ _ c.in_ok-block-in-For.ensures c.in_ok-put-in-For.ensures (c.len-head-in-For.ensures ∙ c.put-in-For.new.code.ok.0) c.in_ok-test_of-in-For.ensures c.in_ok-exit-in-For.ensures.place
    c.in_ok-exit-in-For.ensures.room c.in_ok-rounds_with-in-For.ensures c.in_ok-leave-in-For.ensures
    ∙ ap (λ f. old ++ (block_code c.args.counts.now (stmts_view f) ++ I.Spend ∷ (looping test (statement_code c.args.counts.now (stmt_view c.deref-in-For-2.result.now) ++ last) ++ leaving (stmts_view c.deref-in-For-3.result.now)))) c.deref-in-For.ensures
    ∙ ap (λ b. old ++ (block_code c.args.counts.now (stmts_view c.in-For.first.value) ++ I.Spend ∷ (looping test (statement_code c.args.counts.now (stmt_view b) ++ last) ++ leaving (stmts_view c.deref-in-For-3.result.now)))) c.deref-in-For-2.ensures
    ∙ ap (λ f. old ++ (block_code c.args.counts.now (stmts_view c.in-For.first.value) ++ I.Spend ∷ (looping test (statement_code c.args.counts.now (stmt_view c.in-For.body.value) ++ last) ++ leaving (stmts_view f)))) c.deref-in-For-3.ensures
    ∙ ap (λ s. old ++ statement_code c.args.counts.now (stmt_view s)) (sym c.in-For.is)
