use Rattle.std.proofs.Common.{sym, ap}
use Rattle.rvt_tree.specs.Views.{stmt_view}
use Rattle.c_control.specs.Loops.{is_loop}
use Rattle.c_control.proofs.Turns.{not_loop}
use Rattle.c_control.proofs.loops.is_loop.Goals as goal

pub returns-in-While : goal.returns-in-While
returns-in-While c = sym (ap (λ x. is_loop (stmt_view x)) c.in-While.is)

pub returns-in-DoWhile : goal.returns-in-DoWhile
returns-in-DoWhile c = sym (ap (λ x. is_loop (stmt_view x)) c.in-DoWhile.is)

pub returns-in-For : goal.returns-in-For
returns-in-For c = sym (ap (λ x. is_loop (stmt_view x)) c.in-For.is)

pub returns-in_default : goal.returns-in_default
returns-in_default c = sym (not_loop c.args.s.now c.in_default.not-While c.in_default.not-DoWhile c.in_default.not-For)
