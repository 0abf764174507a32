use Rattle.std.proofs.Common.{◌≡◌, ◌↔◌, ℕ, Bool, true, false, List, Vec, length, map, replicate, ap, ◌∙◌, subst, arith}
use Rattle.std.proofs.lemmas.List.{length-map}
use Rattle.std.specs.Global.{Global}
use Rattle.call_graph.specs.Graphs.{At, rows}
use Rattle.core_ir.specs.Joint.{core_of}
use Rattle.core_ir.specs.declared.cores.Core.{Core}
use Rattle.core_ir.specs.declared.units.Unit.{Unit}
use Rattle.graph_marks.specs.Marks.{Spreads}
use Rattle.touch_sets.proofs.CallerEdges.{callers_closed}
use Rattle.touch_sets.proofs.Marked.{spread_traps, traps_spread}
use Rattle.touch_sets.specs.Bodies.{has_trap}
use Rattle.touch_sets.specs.Touching.{side_of}
use Rattle.touch_sets.proofs.endings.trap_row.Goals as goal

pub spread-requires-clause-graph : goal.spread-requires-clause-graph
spread-requires-clause-graph c = callers_closed (core_of c.args.core.now (side_of c.args.old_side)) (rows c.args.callers.now.successors.items) c.requires.callers

pub returns : goal.returns
returns c u =
    let joint = c.args.core.now in
    let side = side_of c.args.old_side in
    let graph = rows c.args.callers.now.successors.items in
    let rows_size : length graph ≡ length c.args.callers.now.successors.items = length-map c.args.callers.now.successors.items (λ (w : Vec ℕ Global). w.items) in
    let size : c.len.result ≡ length (core_of joint side).units = omega (arith, c.len.ensures, c.args.callers.now.successors.ok.0, rows_size, c.requires.callers.sized) in
    let trapping = map (λ (w : Unit). has_trap c.args.trap w.own_traps) (core_of joint side).units in
    let seeds : c.as_slice.result.now ≡ trapping = c.as_slice.ensures.value ∙ (c.in_ok-seeds.ensures ∙ ap (λ (x : Core). map (λ (w : Unit). has_trap c.args.trap w.own_traps) x.units) c.version.ensures) in
    let none : c.as_slice-2.result.now ≡ replicate c.len.result false = c.as_slice-2.ensures.value ∙ c.in_ok-none.ensures in
    let marked : At c.in_ok-row.row.items u true ↔ Spreads graph trapping (replicate c.len.result false) u = subst (λ (l : List Bool). At c.in_ok-row.row.items u true ↔ Spreads graph trapping l u) none (subst (λ (l : List Bool). At c.in_ok-row.row.items u true ↔ Spreads graph l c.as_slice-2.result.now u) seeds (c.in_ok-row.ensures.marks u)) in (
      λ h. spread_traps joint side graph c.requires.callers c.args.trap (replicate c.len.result false) u (marked.0 h),
      λ m. marked.1 (traps_spread joint side graph c.requires.callers c.args.trap c.len.result size u m),
    )
