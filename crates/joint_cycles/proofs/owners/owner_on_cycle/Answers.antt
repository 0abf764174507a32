use Rattle.std.proofs.Common.{◌↔◌, Bool, true, List, Option, ℕ, MatchOption, sym, subst}
use Rattle.call_graph.specs.Graphs.{At}
use Rattle.graph_marks.specs.Cycles.{IsOnCycle}
use Rattle.joint_cycles.specs.JointCalls.{joint_calls}
use Rattle.joint_cycles.specs.Owners.{HasNoOwnerOnCycle, IsFirstOwnerOnCycle}
use Rattle.joint_cycles.proofs.FirstOwner.{first_owner}
use Rattle.joint_cycles.proofs.owners.owner_on_cycle.Goals as goal

pub returns : goal.returns
returns c =
    let graph = joint_calls c.args.pairs.now c.args.old.now c.args.new.now in
    let told = subst (λ (flags : List Bool). (node : ℕ) → At flags node true ↔ IsOnCycle graph node) (sym c.as_slice.ensures.value) c.in_ok-flags.ensures.cycles in
    subst (λ (found : Option ℕ). MatchOption found (HasNoOwnerOnCycle graph c.args.owners.now) (IsFirstOwnerOnCycle graph c.args.owners.now)) (sym c.first_flagged.ensures)
    (first_owner graph c.as_slice.result.now told c.args.owners.now)
