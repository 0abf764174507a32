use Rattle.sym_exec.proofs.Exits.{put_next, as_long}
use Rattle.sym_exec.proofs.ends.put_back.Goals as goal

pub loop-at-preserved : goal.loop-at-preserved
loop-at-preserved c = (
  put_next c.args.owned.now c.args.before.now c.args.cells.now.items c.loop-at.at _ c.loop-at-test.true c.requires.before_long c.requires.cells_long _ _ _ c.index-before-at.is c.loop-at.invariant.0 c.in_ok-put_cell.ensures,
  as_long _ _ _ c.args.cells.now.items c.loop-at.at _ c.loop-at.invariant.1 c.in_ok-put_cell.ensures,
)
