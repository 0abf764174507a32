use Rattle.std.proofs.Common.{◌++◌, [], ◌∷◌, append_assoc, refl, sym, ap, ◌∙◌}
use Rattle.rvt_tree.specs.Views.{expr_view}
use Rattle.c_code.specs.Expressions.{choosing, value_code}
use Rattle.c_code.proofs.Choices.{chosen}
use Rattle.c_code.proofs.expressions.+value.Goals as goal

pub both-returns : goal.both-returns
both-returns t c =
    chosen _ _ _ _ _ _ _ _ _ _ _ c.in_ok-first.ensures.place c.in_ok-first.ensures.room c.in_ok-one.ensures c.in_ok-second.ensures.first c.in_ok-second.ensures.place
    (c.in_ok-put.ensures ∙ ap (λ i. c.begin_second.new.code.items ++ i ∷ []) (c.truth.ensures 0 refl)) c.jump_over.ensures.jump

pub either-returns : goal.either-returns
either-returns t c =
    chosen _ _ _ _ _ _ _ _ _ _ _ c.in_ok-first.ensures.place c.in_ok-first.ensures.room
    (c.in_ok-put.ensures ∙ ap (λ i. c.leave_room.new.code.items ++ i ∷ []) (c.truth.ensures 1 refl)) c.in_ok-second.ensures.first c.in_ok-second.ensures.place
    c.in_ok-one.ensures c.jump_over.ensures.jump

pub value-returns-in_ok-value-in-Choice-3 : goal.value-returns-in_ok-value-in-Choice-3
value-returns-in_ok-value-in-Choice-3 t c =
    let to = c.args.to in let place = c.args.place in let old = c.args.code.now.items in
    chosen _ _ _ _ _ _ _ _ _ _ _ c.in_ok-first-in-Choice.ensures.place c.in_ok-first-in-Choice.ensures.room c.in_ok-value-in-Choice-2.ensures c.in_ok-second-in-Choice.ensures.first
    c.in_ok-second-in-Choice.ensures.place c.in_ok-value-in-Choice-3.ensures c.jump_over.ensures.jump
    ∙ ap (λ l. l ++ choosing to (value_code (expr_view c.deref-in-Choice-2.result.now) to place) (value_code (expr_view c.deref-in-Choice-3.result.now) to place)) c.in_ok-value-in-Choice.ensures
    ∙ append_assoc old (value_code (expr_view c.deref-in-Choice.result.now) to place) (choosing to (value_code (expr_view c.deref-in-Choice-2.result.now) to place) (value_code (expr_view c.deref-in-Choice-3.result.now) to place))
    ∙ ap (λ t. old ++ (value_code (expr_view t) to place ++ choosing to (value_code (expr_view c.deref-in-Choice-2.result.now) to place) (value_code (expr_view c.deref-in-Choice-3.result.now) to place))) c.deref-in-Choice.ensures
    ∙ ap (λ a. old ++ (value_code (expr_view c.in-Choice.test.value) to place ++ choosing to (value_code (expr_view a) to place) (value_code (expr_view c.deref-in-Choice-3.result.now) to place))) c.deref-in-Choice-2.ensures
    ∙ ap (λ b. old ++ (value_code (expr_view c.in-Choice.test.value) to place ++ choosing to (value_code (expr_view c.in-Choice.a.value) to place) (value_code (expr_view b) to place))) c.deref-in-Choice-3.ensures
    ∙ ap (λ e. old ++ value_code (expr_view e) to place) (sym c.in-Choice.is)
