use Rattle.std.proofs.Common.{◌≤◌}
use Rattle.call_graph.specs.Graphs.{rows}
use Rattle.std.specs.Global.{Global}
use Rattle.std.proofs.Common.{◌≡◌, ◌↔◌, ◌<◌, ◌+◌, ◌++◌, ◌∷◌, [], Bool, true, List, Vec, length, sym, ap, ◌∙◌, subst, arith, length-append}
use Rattle.std.proofs.lemmas.List.{length-map}
use Rattle.touch_sets.proofs.Marked.{touched_below}
use Rattle.touch_sets.proofs.Places.{row_pushed, flag_rows_more}
use Rattle.touch_sets.specs.Sets.{Touches}
use Rattle.touch_sets.specs.Touching.{side_of, flag, flag_rows}
use Rattle.touch_sets.proofs.objects.touched_rows.Goals as goal

pub objects-preserved : goal.objects-preserved
objects-preserved c =
    let joint = c.args.core.now in
    let side = side_of c.args.old_side in
    let before = c.objects.touched.items in
    let i = c.objects.object in
    let row = c.in_ok-row.row in
    let table = flag_rows before in
    let is : flag_rows c.push.new.self.items ≡ table ++ row.items ∷ [] = ap flag_rows c.in-Ok.ensures.items ∙ flag_rows_more before row in
    let size : length table ≡ i = length-map before (λ (w : Vec Bool Global). w.items) ∙ c.objects.invariant.0 in (
      omega (arith, ap length c.in-Ok.ensures.items, length-append before (row ∷ []), c.objects.invariant.0),
      λ u o.
          subst (λ (l : List (List Bool)). (flag l o u ≡ true) ↔ ((o < i + 1) × Touches joint side u o)) (sym is) (row_pushed table row.items i u o (λ k. Touches joint side u k) size (c.objects.invariant.1 u o) (c.in_ok-row.ensures u)),
    )

pub returns : goal.returns
returns c u o =
    let joint = c.args.core.now in
    let side = side_of c.args.old_side in
    let graph = rows c.args.callers.now.successors.items in
    let long = c.object_count-count.ensures.table in
    let table : length joint.old.objects ≤ c.object_count-count.result = omega (arith, long, c.len.ensures) in
    let end = c.objects-test.false in (
      λ h. ((c.objects.invariant.1 u o).0 h).1,
      λ t.
          let lt = touched_below joint side graph c.requires.callers c.args.all.now c.requires.objects c.requires.types c.object_count-count.result table c.object_count-count.ensures.named u o t in
          (c.objects.invariant.1 u o).1 (omega (arith, lt, end), t),
    )
