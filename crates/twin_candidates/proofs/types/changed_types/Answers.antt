use Rattle.std.proofs.Common.{ℕ, ◌≤◌, subst}
use Rattle.twin_candidates.proofs.Marked.{marks_all}
use Rattle.twin_candidates.proofs.types.changed_types.Goals as goal

pub loop-number-preserved : goal.loop-number-preserved
loop-number-preserved c = c.in_ok-mark_object.ensures c.loop-number.invariant

pub returns : goal.returns
returns c =
    marks_all c.args.program.now c.args.partners.now c.loop-number.marks c.loop-number.number
    (subst (λ (n : ℕ). n ≤ c.loop-number.number) c.len-number-end.ensures c.loop-number-test.false) c.loop-number.invariant
