use Rattle.std.proofs.Common.{◌≡◌, ◌<◌, length, get_or, ◌∙◌, arith}
use Rattle.joint_cycles.specs.JointCalls.{called_by}
use Rattle.joint_cycles.proofs.Closed.{callee_below}
use Rattle.joint_cycles.proofs.graphs.nodes_called.Goals as goal

pub new_node-requires : goal.new_node-requires
new_node-requires c =
    let calls = c.deref-callee-items.result.now in
    let count = length c.args.files.now.new.now in
    let same : calls ≡ called_by count c.args.function.now = c.deref-callee-items.ensures.value ∙ c.in_ok-calls.ensures in
    let low : get_or calls c.calls.callee-index 0 < count = callee_below count c.args.function.now calls c.calls.callee-index same c.calls-test.true in
    omega (arith, low, c.requires)
