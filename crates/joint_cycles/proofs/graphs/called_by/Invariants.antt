use Rattle.std.proofs.Common.{◌≡◌, take, nat_lt, filter}
use Rattle.joint_cycles.proofs.graphs.called_by.Given as goal

abbrev pub invariant-calls : goal.invariant-calls
invariant-calls l = l.known.items ≡ filter (λ callee. nat_lt callee l.count) (take l.callee-index l.callee-items)
