use Rattle.std.proofs.Common.{◌≡◌, length, arith}
use Rattle.std.proofs.lemmas.Bool.Decides.{nat_tests}
use Rattle.rvt_edge.proofs.Written.{none_taken, some_taken, kept_taken, part_taken, all_taken}
use Rattle.rvt_edge.proofs.output.write_whole.Goals as goal

pub loop-rest-init : goal.loop-rest-init
loop-rest-init g c = none_taken _ c.args.bytes.now

pub loop-rest-preserved : goal.loop-rest-preserved
loop-rest-preserved g c = some_taken _ _ _ _ c.loop-rest.rest.now c.in-Ok.count c.loop-rest.invariant c.in-Ok.ensures.bytes

pub returns-in-Ok-eq0-clause-part : goal.returns-in-Ok-eq0-clause-part
returns-in-Ok-eq0-clause-part g c =
    part_taken _ _ _ _ (some_taken _ _ _ _ c.loop-rest.rest.now c.in-Ok-eq0.field-0 c.loop-rest.invariant c.in-Ok-eq0.ensures.bytes)

pub returns-in-Err-clause-part : goal.returns-in-Err-clause-part
returns-in-Err-clause-part g c =
    part_taken _ _ _ _ (kept_taken _ _ _ _ _ c.loop-rest.invariant c.in-Err.ensures.bytes)

pub returns-clause-whole : goal.returns-clause-whole
returns-clause-whole g c =
    let ended : length c.loop-rest.rest.now ≡ 0 = grind (arith, nat_tests) in
    all_taken _ _ _ _ c.loop-rest.invariant ended

pub returns-clause-part : goal.returns-clause-part
returns-clause-part g c = part_taken _ _ _ _ c.loop-rest.invariant
