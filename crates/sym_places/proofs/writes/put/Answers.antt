use Rattle.std.proofs.Common.{arith}
use Rattle.aig_build.proofs.Nodes.{Grows-length}
use Rattle.bit_words.proofs.RippleCarry.{AreThere-later}
use Rattle.sym_places.proofs.Puts.{one_takes, putting_first, putting_more, putting_all}
use Rattle.sym_places.proofs.There.{aims_at}
use Rattle.sym_places.proofs.writes.put.Goals as goal

pub loop-at-init : goal.loop-at-init
loop-at-init c = putting_first _ _ _ _ _ _ c.requires.store_is_there c.requires.takes

pub put_one-requires-clause-takes : goal.put_one-requires-clause-takes
put_one-requires-clause-takes c = one_takes _ c.args.guard _ _ _ _ _ c.loop-at.invariant.takes c.loop-at-test.true

pub put_one-requires-clause-aim_is_there : goal.put_one-requires-clause-aim_is_there
put_one-requires-clause-aim_is_there c = aims_at _ _ _ _ _ c.loop-at.invariant.grows c.requires.aims_are_there c.loop-at-test.true

pub put_one-requires-clause-store_is_there : goal.put_one-requires-clause-store_is_there
put_one-requires-clause-store_is_there c = c.loop-at.invariant.there

pub put_one-requires-clause-value_is_there : goal.put_one-requires-clause-value_is_there
put_one-requires-clause-value_is_there c = AreThere-later _ _ _ c.loop-at.invariant.grows c.requires.value_is_there

pub put_one-requires-clause-guard_is_there : goal.put_one-requires-clause-guard_is_there
put_one-requires-clause-guard_is_there c = let g = c.requires.guard_is_there in omega (arith, g, Grows-length _ _ c.loop-at.invariant.grows)

pub loop-at-preserved : goal.loop-at-preserved
loop-at-preserved c =
    putting_more _ _ _ _ _ _ _ _ _ _ _ _ c.loop-at.invariant c.loop-at-test.true c.in_ok-put_one.ensures.built c.in_ok-put_one.ensures.there c.in_ok-put_one.ensures.grows

pub returns-clause-built : goal.returns-clause-built
returns-clause-built c = putting_all _ _ _ _ _ _ _ _ _ c.loop-at.invariant c.loop-at-test.false
