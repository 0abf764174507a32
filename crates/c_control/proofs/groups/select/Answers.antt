use Rattle.std.proofs.Common.{sym, ◌∙◌, arith}
use Rattle.rvt_tree.specs.Views.{stmts_view, groups_view}
use Rattle.c_meaning.specs.Outcomes.{Normally}
use Rattle.c_tasks.specs.Operands.{operands, with_manner}
use Rattle.c_tasks.specs.Tasks.{after}
use Rattle.c_tasks.proofs.Sequences.{becomes_with}
use Rattle.c_tasks.proofs.ValueForms.{on_ok}
use Rattle.c_control.specs.Groups.{selecting_by}
use Rattle.c_control.proofs.Chosen.{selected, none_selected, selected_weight}
use Rattle.c_control.proofs.groups.select.Goals as goal

pub returns-in-Some-clause-next : goal.returns-in-Some-clause-next
returns-in-Some-clause-next c =
    on_ok c.enter_group.result (λ h program d s. h program d s ∙ selected program d c.args.number (groups_view c.args.groups.now) (stmts_view c.in-Some.body.now) (sym c.in-Some.ensures) (after program d c.args.work.now.tasks.items) (operands c.args.work.now) s) c.enter_group.ensures.next

pub returns-in-Some-clause-weight : goal.returns-in-Some-clause-weight
returns-in-Some-clause-weight c =
    on_ok c.enter_group.result (λ e. omega (arith, e, selected_weight c.args.number (groups_view c.args.groups.now) (stmts_view c.in-Some.body.now) (sym c.in-Some.ensures))) c.enter_group.ensures.weight

pub returns-in-None-clause-next : goal.returns-in-None-clause-next
returns-in-None-clause-next c =
    becomes_with (λ program d. selecting_by program d c.args.number (groups_view c.args.groups.now)) c.args.work.now c.end.new.self (with_manner Normally (operands c.args.work.now)) c.end.ensures.tasks c.end.ensures.operands (λ program d next s. none_selected program d c.args.number (groups_view c.args.groups.now) (sym c.in-None.ensures) next (operands c.args.work.now) s)
