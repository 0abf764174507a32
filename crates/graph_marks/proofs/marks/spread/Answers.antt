use Rattle.std.proofs.Common.{◌≡◌, ℕ, ◌++◌, ◌∷◌, [], ◌<◌, true, false, Bool, List, Vec, length, set, sym, ap, ◌∙◌, subst, arith}
use Rattle.std.specs.Global.{Global}
use Rattle.std.proofs.lemmas.List.{length-map}
use Rattle.call_graph.proofs.Lists.{row_at}
use Rattle.call_graph.specs.Graphs.{At, rows}
use Rattle.graph_marks.proofs.Spreading.{read, last_fits, dropped_blocked, dropped_marked, marked, less_spread, begun, ended, no_pending}
use Rattle.graph_marks.specs.Marks.{IsSpread}
use Rattle.graph_marks.proofs.marks.spread.Goals as goal

-- the number of rows
sized : (vectors : List (Vec ℕ Global)) → length (rows vectors) ≡ length vectors
sized vectors = length-map vectors (λ (w : Vec ℕ Global). w.items)

-- what holds before the last pending vertex is taken off
popped : (graph : List (List ℕ)) (seeds blocked marks : List Bool) (pending before : List ℕ) (v : ℕ) → before ≡ pending ++ v ∷ [] → IsSpread graph seeds blocked marks before → IsSpread graph seeds blocked marks (pending ++ v ∷ [])
popped graph seeds blocked marks pending before v e w = subst (IsSpread graph seeds blocked marks) e w

pub steps-init : goal.steps-init
steps-init c =
    let graph = rows c.args.graph.now.successors.items in
    let size = sized c.args.graph.now.successors.items in
    let long : c.len.result ≡ length graph = omega (arith, c.len.ensures, c.args.graph.now.successors.ok.0, size) in
    subst (λ (l : List Bool). IsSpread graph c.args.seeds.now c.args.blocked.now l c.in_ok-pending.pending.items) (sym (c.in-Ok.ensures.items_if_clones_equal (λ y h. h))) (begun graph c.args.seeds.now c.args.blocked.now c.len.result c.in_ok-pending.pending.items long (omega (arith, c.requires.seeds, size)) c.in_ok-pending.ensures)

pub bounds-blocked-vertex : goal.bounds-blocked-vertex
bounds-blocked-vertex c =
    let graph = rows c.args.graph.now.successors.items in
    let w = popped graph c.args.seeds.now c.args.blocked.now c.steps.marks.items c.pop.new.self.items c.steps.pending.items c.in-Some.vertex c.in-Some.ensures.items c.steps.invariant in
    omega (arith, last_fits graph c.args.seeds.now c.args.blocked.now c.steps.marks.items c.pop.new.self.items c.in-Some.vertex w, sized c.args.graph.now.successors.items, c.requires.blocked)

pub steps-preserved-then-blocked-vertex : goal.steps-preserved-then-blocked-vertex
steps-preserved-then-blocked-vertex c =
    let graph = rows c.args.graph.now.successors.items in
    let w = popped graph c.args.seeds.now c.args.blocked.now c.steps.marks.items c.pop.new.self.items c.steps.pending.items c.in-Some.vertex c.in-Some.ensures.items c.steps.invariant in
    let fits : c.in-Some.vertex < length c.args.blocked.now = omega (arith, last_fits graph c.args.seeds.now c.args.blocked.now c.steps.marks.items c.pop.new.self.items c.in-Some.vertex w, sized c.args.graph.now.successors.items, c.requires.blocked) in
    dropped_blocked graph c.args.seeds.now c.args.blocked.now c.steps.marks.items c.pop.new.self.items c.in-Some.vertex w (read c.args.blocked.now c.in-Some.vertex false true fits c.if-blocked-vertex.true)

pub index-requires : goal.index-requires
index-requires c =
    let graph = rows c.args.graph.now.successors.items in
    let w = popped graph c.args.seeds.now c.args.blocked.now c.steps.marks.items c.pop.new.self.items c.steps.pending.items c.in-Some.vertex c.in-Some.ensures.items c.steps.invariant in
    omega (arith, last_fits graph c.args.seeds.now c.args.blocked.now c.steps.marks.items c.pop.new.self.items c.in-Some.vertex w, c.steps.invariant.sized, c.steps.marks.ok.0)

pub steps-preserved-then-index : goal.steps-preserved-then-index
steps-preserved-then-index c =
    let graph = rows c.args.graph.now.successors.items in
    let w = popped graph c.args.seeds.now c.args.blocked.now c.steps.marks.items c.pop.new.self.items c.steps.pending.items c.in-Some.vertex c.in-Some.ensures.items c.steps.invariant in
    let fits : c.in-Some.vertex < length c.steps.marks.items = omega (arith, last_fits graph c.args.seeds.now c.args.blocked.now c.steps.marks.items c.pop.new.self.items c.in-Some.vertex w, c.steps.invariant.sized) in
    dropped_marked graph c.args.seeds.now c.args.blocked.now c.steps.marks.items c.pop.new.self.items c.in-Some.vertex w (read c.steps.marks.items c.in-Some.vertex c.index.result.now true fits (sym c.index.ensures ∙ c.if-index.true))

pub index_mut-requires : goal.index_mut-requires
index_mut-requires c =
    let graph = rows c.args.graph.now.successors.items in
    let w = popped graph c.args.seeds.now c.args.blocked.now c.steps.marks.items c.pop.new.self.items c.steps.pending.items c.in-Some.vertex c.in-Some.ensures.items c.steps.invariant in
    omega (arith, last_fits graph c.args.seeds.now c.args.blocked.now c.steps.marks.items c.pop.new.self.items c.in-Some.vertex w, c.steps.invariant.sized, c.steps.marks.ok.0)

pub index-requires-in-Some : goal.index-requires-in-Some
index-requires-in-Some c =
    let graph = rows c.args.graph.now.successors.items in
    let w = popped graph c.args.seeds.now c.args.blocked.now c.steps.marks.items c.pop.new.self.items c.steps.pending.items c.in-Some.vertex c.in-Some.ensures.items c.steps.invariant in
    omega (arith, last_fits graph c.args.seeds.now c.args.blocked.now c.steps.marks.items c.pop.new.self.items c.in-Some.vertex w, sized c.args.graph.now.successors.items, c.args.graph.now.successors.ok.0)

pub steps-preserved : goal.steps-preserved
steps-preserved c =
    let graph = rows c.args.graph.now.successors.items in
    let v = c.in-Some.vertex in
    let marks = c.steps.marks.items in
    let w = popped graph c.args.seeds.now c.args.blocked.now marks c.pop.new.self.items c.steps.pending.items v c.in-Some.ensures.items c.steps.invariant in
    let last = last_fits graph c.args.seeds.now c.args.blocked.now marks c.pop.new.self.items v w in
    let size = sized c.args.graph.now.successors.items in
    let free : At c.args.blocked.now v false = read c.args.blocked.now v false false (omega (arith, last, size, c.requires.blocked)) c.if-blocked-vertex.false in
    let unmarked : At marks v false = read marks v c.index.result.now false (omega (arith, last, c.steps.invariant.sized)) (sym c.index.ensures ∙ c.if-index.false) in
    let is_row : At graph v c.index-in-Some.result.now.items = row_at c.args.graph.now.successors.items v c.index-in-Some.result.now last c.index-in-Some.ensures in
    subst (IsSpread graph c.args.seeds.now c.args.blocked.now (set marks v true)) (sym (c.in-Ok-extend_from_slice.ensures.items ∙ ap (λ (l : List ℕ). c.pop.new.self.items ++ l) c.as_slice.ensures.value)) (marked graph c.args.seeds.now c.args.blocked.now marks c.pop.new.self.items v w c.index-in-Some.result.now.items is_row free unmarked c.requires.graph)

pub steps-smaller : goal.steps-smaller
steps-smaller c =
    let graph = rows c.args.graph.now.successors.items in
    let v = c.in-Some.vertex in
    let marks = c.steps.marks.items in
    let w = popped graph c.args.seeds.now c.args.blocked.now marks c.pop.new.self.items c.steps.pending.items v c.in-Some.ensures.items c.steps.invariant in
    let last = last_fits graph c.args.seeds.now c.args.blocked.now marks c.pop.new.self.items v w in
    let unmarked : At marks v false = read marks v c.index.result.now false (omega (arith, last, c.steps.invariant.sized)) (sym c.index.ensures ∙ c.if-index.false) in
    let is_row : At graph v c.index-in-Some.result.now.items = row_at c.args.graph.now.successors.items v c.index-in-Some.result.now last c.index-in-Some.ensures in
    less_spread graph marks c.pop.new.self.items c.steps.pending.items c.extend_from_slice.new.self.items c.index-in-Some.result.now.items v c.in-Some.ensures.items (c.in-Ok-extend_from_slice.ensures.items ∙ ap (λ (l : List ℕ). c.pop.new.self.items ++ l) c.as_slice.ensures.value) unmarked is_row

pub returns-clause-marks : goal.returns-clause-marks
returns-clause-marks c =
    let graph = rows c.args.graph.now.successors.items in
    let none : 0 < length c.steps.pending.items → ⊥ = λ lt. c.in_default.not-Some _ (c.pop.ensures.value 0 (omega (arith, lt, c.steps.pending.ok.0))) in
    ended graph c.args.seeds.now c.args.blocked.now c.steps.marks.items (subst (IsSpread graph c.args.seeds.now c.args.blocked.now c.steps.marks.items) (no_pending c.steps.pending.items none) c.steps.invariant)
