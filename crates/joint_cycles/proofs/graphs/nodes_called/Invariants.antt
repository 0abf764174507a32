use Rattle.std.proofs.Common.{◌≡◌, take, map, length}
use Rattle.joint_cycles.specs.JointCalls.{new_node}
use Rattle.joint_cycles.proofs.graphs.nodes_called.Given as goal

abbrev pub invariant-calls : goal.invariant-calls
invariant-calls l = l.nodes.items ≡ map (new_node l.files.pairs.now.of_new (length l.files.old.now)) (take l.callee-index l.callee-items)
