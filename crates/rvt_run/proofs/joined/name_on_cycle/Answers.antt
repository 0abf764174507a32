use Rattle.std.proofs.Common.{ℕ, length, Option, ◌∙◌, refl, subst}
use Rattle.std.specs.Prelude.{MatchOption}
use Rattle.joint_cycles.specs.JointCalls.{joint_calls}
use Rattle.joint_cycles.specs.Owners.{HasNoOwnerOnCycle, IsFirstOwnerOnCycle}
use Rattle.rvt_run.proofs.Joining.{nodes_are, off_cycles}
use Rattle.rvt_run.proofs.joined.name_on_cycle.Goals as goal

pub returns-in-None : goal.returns-in-None
returns-in-None c =
    let functions = c.args.functions.now in
    let joint = c.args.joint.now in
    let olds = c.as_slice-old.result.now in
    let news = c.as_slice-new.result.now in
    let nodes = c.as_slice-4.result.now in
    off_cycles functions joint olds news nodes c.as_slice-old.ensures c.as_slice-new.ensures
    (nodes_are functions joint olds news nodes c.as_slice-old.ensures c.as_slice-new.ensures c.as_slice.result.now (length olds) c.as_slice-2.result.now c.as_slice-3.result.now
    c.as_slice.ensures refl c.as_slice-2.ensures c.as_slice-3.ensures (c.as_slice-4.ensures.value ∙ c.in_ok-owners.ensures))
    (subst (λ (o : Option ℕ). MatchOption o (HasNoOwnerOnCycle (joint_calls functions olds news) nodes) (IsFirstOwnerOnCycle (joint_calls functions olds news) nodes)) c.in-None.is c.in_ok-node.ensures)
