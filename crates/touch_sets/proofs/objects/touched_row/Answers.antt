use Rattle.core_ir.specs.declared.cores.CoreObject.{CoreObject}
use Rattle.std.proofs.Common.{◌≡◌, ◌↔◌, ℕ, Bool, true, false, List, map, ap, ◌∙◌, subst}
use Rattle.std.specs.Prelude.{slice_get, slice_index_or}
use Rattle.call_graph.specs.Graphs.{At, rows}
use Rattle.core_ir.specs.Cells.{has}
use Rattle.core_ir.specs.Joint.{core_of}
use Rattle.core_ir.specs.declared.cores.Core.{Core}
use Rattle.core_ir.specs.declared.units.Unit.{Unit}
use Rattle.graph_marks.specs.Marks.{Spreads}
use Rattle.touch_sets.proofs.CallerEdges.{callers_closed}
use Rattle.touch_sets.proofs.Marked.{spread_touches, touches_spread}
use Rattle.touch_sets.specs.Bodies.{names_object, begins_in}
use Rattle.touch_sets.specs.Touching.{side_of}
use Rattle.touch_sets.proofs.objects.touched_row.Goals as goal

pub spread-requires-clause-graph : goal.spread-requires-clause-graph
spread-requires-clause-graph c = callers_closed (core_of c.args.core.now (side_of c.args.old_side)) (rows c.args.callers.now.successors.items) c.requires.callers

pub returns : goal.returns
returns c u =
    let joint = c.args.core.now in
    let side = side_of c.args.old_side in
    let graph = rows c.args.callers.now.successors.items in
    let all = c.args.all.now in
    let o = c.args.object in
    let held = c.in_ok-held.held.items in
    let row = c.in_ok-row.row.items in
    let naming = map (names_object held o) all in
    let owning = map (λ (w : Unit). has o w.owned) (core_of joint side).units in
    let holds : (type : ℕ) → (slice_index_or held type false ≡ true) ↔ begins_in (slice_get joint.old.objects o) type = subst (λ (l : List CoreObject). (type : ℕ) → (slice_index_or held type false ≡ true) ↔ begins_in (slice_get l o) type) c.as_slice.ensures c.in_ok-held.ensures in
    let seeds : c.as_slice-3.result.now ≡ naming = c.as_slice-3.ensures.value ∙ (c.in_ok-seeds.ensures ∙ ap (λ (l : List Bool). map (names_object l o) all) c.as_slice-2.ensures.value) in
    let owners : c.as_slice-4.result.now ≡ owning = c.as_slice-4.ensures.value ∙ (c.in_ok-owners.ensures ∙ ap (λ (x : Core). map (λ (w : Unit). has o w.owned) x.units) c.version.ensures) in
    let marked : At row u true ↔ Spreads graph naming owning u = subst (λ (l : List Bool). At row u true ↔ Spreads graph naming l u) owners (subst (λ (l : List Bool). At row u true ↔ Spreads graph l c.as_slice-4.result.now u) seeds (c.in_ok-row.ensures.marks u)) in (
      λ h. spread_touches joint side graph c.requires.callers all c.requires.objects c.requires.types o held holds u (marked.0 h),
      λ t. marked.1 (touches_spread joint side graph c.requires.callers all c.requires.objects c.requires.types o held holds u t),
    )
