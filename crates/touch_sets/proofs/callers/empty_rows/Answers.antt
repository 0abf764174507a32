use Rattle.std.proofs.Common.{◌≡◌, ℕ, ◌++◌, ◌∷◌, [], List, length, ap, ◌∙◌, subst, arith, length-append}
use Rattle.call_graph.specs.Graphs.{Edge, rows}
use Rattle.touch_sets.proofs.CallerEdges.{rows_more, none_more}
use Rattle.touch_sets.proofs.callers.empty_rows.Goals as goal

pub rows-preserved : goal.rows-preserved
rows-preserved c =
    let before = c.rows.empty.items in
    let is : rows c.push.new.self.items ≡ rows before ++ [] ∷ [] = ap rows c.in-Ok.ensures.items ∙ (rows_more before c.new.result ∙ ap (λ (l : List ℕ). rows before ++ l ∷ []) c.new.ensures.items) in
    (omega (arith, ap length c.in-Ok.ensures.items, length-append before (c.new.result ∷ []), c.rows.invariant.0), λ v u e. none_more (rows before) c.rows.invariant.1 v u (subst (λ (g : List (List ℕ)). Edge g v u) is e))
