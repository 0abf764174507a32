use Rattle.rvt_run.proofs.pairs.judged_loop.Goals as goal

pub returns-clause-small : goal.returns-clause-small
returns-clause-small c = c.carried-number.ensures.small
