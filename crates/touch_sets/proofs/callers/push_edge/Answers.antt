use Rattle.std.proofs.Common.{◌≡◌, ◌⊎◌, ◌↔◌, ℕ, ◌<◌, ◌++◌, ◌∷◌, [], List, Vec, length, set, sym, ap, ◌∙◌, subst, arith}
use Rattle.std.proofs.lemmas.List.{length-map, map-set}
use Rattle.std.specs.Global.{Global}
use Rattle.call_graph.proofs.Lists.{row_at}
use Rattle.call_graph.specs.Graphs.{At, Edge, rows}
use Rattle.touch_sets.proofs.CallerEdges.{edge_pushed}
use Rattle.touch_sets.proofs.callers.push_edge.Goals as goal

pub returns-clause-edges : goal.returns-clause-edges
returns-clause-edges c v u =
    let vectors = c.args.successors.now.items in
    let row = c.index_mut.result.now in
    let size : length (rows vectors) ≡ length vectors = length-map vectors (λ (w : Vec ℕ Global). w.items) in
    let is : rows (set vectors c.args.from c.push.new.self) ≡ set (rows vectors) c.args.from (row.items ++ c.args.to ∷ []) = map-set (λ (w : Vec ℕ Global). w.items) vectors c.args.from c.push.new.self ∙ ap (λ (l : List ℕ). set (rows vectors) c.args.from l) c.in-Ok.ensures.items in
    let lt : c.args.from < length (rows vectors) = omega (arith, c.if-from-len.false, c.len.ensures, size, c.args.successors.now.ok.0) in
    let at : At (rows vectors) c.args.from row.items = row_at vectors c.args.from row lt c.index_mut.ensures.value in
    subst (λ (g : List (List ℕ)). Edge g v u ↔ (Edge (rows vectors) v u ⊎ ((u ≡ c.args.to) × (v ≡ c.args.from) × (v < length vectors)))) (sym is) (edge_pushed (rows vectors) c.args.from c.args.to (length vectors) row.items (sym size) at v u)
