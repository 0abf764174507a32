use Rattle.std.proofs.Common.{◌≡◌, ◌⊎◌, ◌↔◌, ℕ, ◌<◌, length, get_or, ◌∙◌, subst}
use Rattle.call_graph.specs.Graphs.{Edge, rows}
use Rattle.touch_sets.proofs.CallerEdges.{call_pushed}
use Rattle.touch_sets.proofs.Places.{at_read}
use Rattle.touch_sets.proofs.callers.push_caller.Goals as goal

pub calls-preserved : goal.calls-preserved
calls-preserved c =
    let calls = c.args.calls.now in
    let i = c.calls.callee-index in
    let callee = get_or calls i 0 in
    let before = rows c.args.successors.now.items in
    let now = rows c.calls.successors.items in
    let after = rows c.push_edge.new.successors.items in
    (c.in_ok-push_edge.ensures.length ∙ c.calls.invariant.0, λ v u. call_pushed (Edge before v u) (Edge now v u) (Edge after v u) calls i callee c.args.caller (length c.args.successors.now.items) v u (at_read calls i 0 c.calls-test.true) (c.calls.invariant.1 v u) (subst (λ (n : ℕ). Edge after v u ↔ (Edge now v u ⊎ ((u ≡ c.args.caller) × (v ≡ callee) × (v < n)))) c.calls.invariant.0 (c.in_ok-push_edge.ensures.edges v u)))
