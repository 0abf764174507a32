use Rattle.std.proofs.Common.{◌≡◌, ◌+◌, ℕ, List, Vec, length, sym, ap, ◌∙◌, subst, arith}
use Rattle.std.proofs.lemmas.List.{length-map}
use Rattle.std.specs.Global.{Global}
use Rattle.call_graph.specs.Graphs.{IsGraph, rows}
use Rattle.joint_cycles.proofs.Closed.{is_graph, node_count}
use Rattle.joint_cycles.proofs.cycles.on_joint_cycles.Goals as goal

-- as many rows as nodes
counted : (vectors : List (Vec ℕ Global)) (graph : List (List ℕ)) (count : ℕ) → rows vectors ≡ graph → length graph ≡ count → length vectors ≡ count
counted vectors graph count same sized = sym (length-map vectors (λ (v : Vec ℕ Global). v.items)) ∙ (ap length same ∙ sized)

pub on_cycles-requires-clause-graph : goal.on_cycles-requires-clause-graph
on_cycles-requires-clause-graph c = subst IsGraph (sym c.in_ok-graph.ensures) (is_graph c.args.pairs.now c.args.old.now c.args.new.now c.requires)

pub on_cycles-requires-clause-few : goal.on_cycles-requires-clause-few
on_cycles-requires-clause-few c =
    let count : length c.in_ok-graph.graph.successors.items ≡ length c.args.old.now + length c.args.new.now = counted c.in_ok-graph.graph.successors.items _ _ c.in_ok-graph.ensures (node_count c.args.pairs.now c.args.old.now c.args.new.now c.requires) in
    omega (arith, count, c.if-old.false, c.if-new.false)

pub returns-in-Ok-clause-length : goal.returns-in-Ok-clause-length
returns-in-Ok-clause-length c =
    c.in-Ok.ensures.length ∙ counted c.in_ok-graph.graph.successors.items _ _ c.in_ok-graph.ensures (node_count c.args.pairs.now c.args.old.now c.args.new.now c.requires)
