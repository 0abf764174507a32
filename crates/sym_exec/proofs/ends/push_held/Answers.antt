use Rattle.std.proofs.Common.{arith}
use Rattle.sym_exec.proofs.Exits.{held_none, held_one}
use Rattle.sym_exec.proofs.ends.push_held.Goals as goal

pub returns-then-at-values : goal.returns-then-at-values
returns-then-at-values c = held_none c.args.values.now c.args.register _ c.if-at-values.true

pub returns : goal.returns
returns c = held_one c.args.values.now c.args.register _ _ _ _ (omega (arith, c.if-at-values.false)) c.index-values-at.is c.in_ok-copy.ensures c.in_ok-push_value.ensures
