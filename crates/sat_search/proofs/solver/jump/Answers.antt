use Rattle.sat_search.proofs.solver.jump.Goals as goal

pub returns-then-is_due-clause-searching : goal.returns-then-is_due-clause-searching
returns-then-is_due-clause-searching g c = c.take_back.ensures.searching _ c.in_ok-backjump.ensures.searching
