use Rattle.std.proofs.Common.{sym, ap, ◌∙◌}
use Rattle.rvt_tree.specs.Views.{stmt_view}
use Rattle.c_tasks.specs.Tasks.{test_in}
use Rattle.c_control.proofs.Turns.{no_test, not_loop}
use Rattle.c_control.proofs.loops.test_of.Goals as goal

pub returns-in-While : goal.returns-in-While
returns-in-While c = sym (ap (λ x. test_in (stmt_view x)) c.in-While.is)

pub returns-in-DoWhile : goal.returns-in-DoWhile
returns-in-DoWhile c = sym (ap (λ x. test_in (stmt_view x)) c.in-DoWhile.is)

pub returns-in-For : goal.returns-in-For
returns-in-For c = c.lent.ensures ∙ sym (ap (λ x. test_in (stmt_view x)) c.in-For.is)

pub returns-in_default : goal.returns-in_default
returns-in_default c = sym (no_test (stmt_view c.args.s.now) (not_loop c.args.s.now c.in_default.not-While c.in_default.not-DoWhile c.in_default.not-For))
