use Rattle.c_steps.proofs.choices.laws_of_loops.Goals as goal

pub returns : goal.returns
returns c =
    record { unfolds = c.loop_unfolds.ensures; tests = c.loop_parts_spend.ensures.tests; bodies = c.loop_parts_spend.ensures.bodies; rounds = c.loop_parts_spend.ensures.rounds }
