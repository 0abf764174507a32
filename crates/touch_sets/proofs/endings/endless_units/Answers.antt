use Rattle.std.proofs.Common.{◌≡◌, ◌↔◌, ℕ, Bool, true, false, List, Vec, length, replicate, sym, ◌∙◌, subst, arith}
use Rattle.std.proofs.lemmas.List.{length-map}
use Rattle.std.specs.Global.{Global}
use Rattle.call_graph.specs.Graphs.{At, rows}
use Rattle.core_ir.specs.Joint.{core_of}
use Rattle.graph_marks.specs.Marks.{Spreads}
use Rattle.touch_sets.proofs.CallerEdges.{callers_closed}
use Rattle.touch_sets.proofs.Marked.{ends_marked}
use Rattle.touch_sets.specs.Touching.{side_of}
use Rattle.touch_sets.proofs.endings.endless_units.Goals as goal

pub on_cycles-requires-clause-graph : goal.on_cycles-requires-clause-graph
on_cycles-requires-clause-graph c = callers_closed (core_of c.args.core.now (side_of c.args.old_side)) (rows c.args.callers.now.successors.items) c.requires.callers

pub spread-requires-clause-graph : goal.spread-requires-clause-graph
spread-requires-clause-graph c = callers_closed (core_of c.args.core.now (side_of c.args.old_side)) (rows c.args.callers.now.successors.items) c.requires.callers

pub returns : goal.returns
returns c =
    let core = core_of c.args.core.now (side_of c.args.old_side) in
    let graph = rows c.args.callers.now.successors.items in
    let rows_size : length graph ≡ length c.args.callers.now.successors.items = length-map c.args.callers.now.successors.items (λ (w : Vec ℕ Global). w.items) in
    let size : c.len.result ≡ length core.units = omega (arith, c.len.ensures, c.args.callers.now.successors.ok.0, rows_size, c.requires.callers.sized) in
    let marks = c.in_ok-endless.endless.items in
    let seeds = c.in_ok-seeds.seeds.items in
    let marked : (u : ℕ) → At marks u true ↔ Spreads graph seeds (replicate c.len.result false) u = subst (λ (l : List Bool). (u : ℕ) → At marks u true ↔ Spreads graph seeds l u) (c.as_slice-2.ensures.value ∙ c.in_ok-none.ensures) (subst (λ (l : List Bool). (u : ℕ) → At marks u true ↔ Spreads graph l c.as_slice-2.result.now u) c.as_slice.ensures.value c.in_ok-endless.ensures.marks) in
    ends_marked core graph c.requires.callers seeds c.in_ok-seeds.ensures.cycles c.len.result size marks (c.in_ok-endless.ensures.length ∙ (sym rows_size ∙ c.requires.callers.sized)) marked
