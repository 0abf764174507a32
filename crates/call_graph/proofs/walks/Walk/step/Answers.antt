use Rattle.std.proofs.Common.{◌≡◌, Some, None, ◌-◌, ◌<◌, length, take, arith, ap, ◌∙◌, vec_len}
use Rattle.call_graph.specs.Graphs.{At, rows}
use Rattle.call_graph.proofs.Blocks.{passed}
use Rattle.call_graph.proofs.BlockJoins.{united, all_reach}
use Rattle.call_graph.proofs.BlockSteps.{last_at, read_at, is_read, pending_fits, met_late, met_done, less_pending}
use Rattle.call_graph.proofs.walks.Walk.step.Goals as goal

pub index-requires : goal.index-requires
index-requires c =
    let graph = rows c.args.graph.now.successors.items in
    let old = c.args.self.now in
    let w = c.requires.walk in
    let top = c.index-top.result.now in
    let last : At old.blocks.items (length old.blocks.items - 1) top = last_at old.blocks.items c.len.result top (omega (arith, c.len.ensures, old.blocks.ok.0)) c.requires.block c.index-top.ensures in
    let more : top.pending < length old.pending.items = omega (arith, (w.begins (length old.blocks.items - 1) top last).1, c.if-len-top.false, c.len-2.ensures, old.pending.ok.0) in
    let vertex = c.index-vertex.result.now in
    let is_last : At old.pending.items (length old.pending.items - 1) vertex = last_at old.pending.items c.len-3.result vertex (omega (arith, c.len-3.ensures, old.pending.ok.0)) (omega (arith, more)) c.index-vertex.ensures in
    let fits : vertex < length old.places.items = pending_fits graph old.places.items old.open.items old.pending.items old.blocks.items (rows old.groups.items) c.requires.graph w (length old.pending.items - 1) vertex is_last in
    omega (arith, fits, old.places.ok.0)

pub enter-requires-clause-unseen : goal.enter-requires-clause-unseen
enter-requires-clause-unseen c =
    let graph = rows c.args.graph.now.successors.items in
    let old = c.args.self.now in
    let w = c.requires.walk in
    let top = c.index-top.result.now in
    let last : At old.blocks.items (length old.blocks.items - 1) top = last_at old.blocks.items c.len.result top (omega (arith, c.len.ensures, old.blocks.ok.0)) c.requires.block c.index-top.ensures in
    let more : top.pending < length old.pending.items = omega (arith, (w.begins (length old.blocks.items - 1) top last).1, c.if-len-top.false, c.len-2.ensures, old.pending.ok.0) in
    let vertex = c.index-vertex.result.now in
    let is_last : At old.pending.items (length old.pending.items - 1) vertex = last_at old.pending.items c.len-3.result vertex (omega (arith, c.len-3.ensures, old.pending.ok.0)) (omega (arith, more)) c.index-vertex.ensures in
    let fits : vertex < length old.places.items = pending_fits graph old.places.items old.open.items old.pending.items old.blocks.items (rows old.groups.items) c.requires.graph w (length old.pending.items - 1) vertex is_last in
    read_at old.places.items vertex c.index.result.now None fits c.index.ensures c.in-None.is

pub enter-requires-clause-reached : goal.enter-requires-clause-reached
enter-requires-clause-reached c =
    let graph = rows c.args.graph.now.successors.items in
    let old = c.args.self.now in
    let w = c.requires.walk in
    let top = c.index-top.result.now in
    let last : At old.blocks.items (length old.blocks.items - 1) top = last_at old.blocks.items c.len.result top (omega (arith, c.len.ensures, old.blocks.ok.0)) c.requires.block c.index-top.ensures in
    let more : top.pending < length old.pending.items = omega (arith, (w.begins (length old.blocks.items - 1) top last).1, c.if-len-top.false, c.len-2.ensures, old.pending.ok.0) in
    let vertex = c.index-vertex.result.now in
    let is_last : At old.pending.items (length old.pending.items - 1) vertex = last_at old.pending.items c.len-3.result vertex (omega (arith, c.len-3.ensures, old.pending.ok.0)) (omega (arith, more)) c.index-vertex.ensures in
    let fits : vertex < length old.places.items = pending_fits graph old.places.items old.open.items old.pending.items old.blocks.items (rows old.groups.items) c.requires.graph w (length old.pending.items - 1) vertex is_last in
    all_reach graph old.places.items old.open.items old.pending.items old.blocks.items (rows old.groups.items) w top last vertex is_last more

pub returns-then-place-top-clause-walk : goal.returns-then-place-top-clause-walk
returns-then-place-top-clause-walk c =
    let graph = rows c.args.graph.now.successors.items in
    let old = c.args.self.now in
    let w = c.requires.walk in
    let top = c.index-top.result.now in
    let last : At old.blocks.items (length old.blocks.items - 1) top = last_at old.blocks.items c.len.result top (omega (arith, c.len.ensures, old.blocks.ok.0)) c.requires.block c.index-top.ensures in
    let more : top.pending < length old.pending.items = omega (arith, (w.begins (length old.blocks.items - 1) top last).1, c.if-len-top.false, c.len-2.ensures, old.pending.ok.0) in
    let vertex = c.index-vertex.result.now in
    let is_last : At old.pending.items (length old.pending.items - 1) vertex = last_at old.pending.items c.len-3.result vertex (omega (arith, c.len-3.ensures, old.pending.ok.0)) (omega (arith, more)) c.index-vertex.ensures in
    let fits : vertex < length old.places.items = pending_fits graph old.places.items old.open.items old.pending.items old.blocks.items (rows old.groups.items) c.requires.graph w (length old.pending.items - 1) vertex is_last in
    let seen : At old.places.items vertex (Some c.in-Some.place) = read_at old.places.items vertex c.index.result.now (Some c.in-Some.place) fits c.index.ensures c.in-Some.is in
    let size : vec_len old.pending ≡ length old.pending.items = omega (arith, old.pending.ok.0) in
    let popped : c.pop.new.self.items ≡ take (length old.pending.items - 1) old.pending.items = c.pop.ensures.rest ∙ ap (λ n. take (n - 1) old.pending.items) size in
    rw popped (passed graph old.places.items old.open.items old.pending.items old.blocks.items (rows old.groups.items) w top last vertex is_last more (met_late graph old.places.items old.open.items old.pending.items old.blocks.items (rows old.groups.items) w top vertex c.in-Some.place seen c.if-place-top.true))

pub returns-then-place-top-clause-less : goal.returns-then-place-top-clause-less
returns-then-place-top-clause-less c =
    let graph = rows c.args.graph.now.successors.items in
    let old = c.args.self.now in
    let w = c.requires.walk in
    let top = c.index-top.result.now in
    let last : At old.blocks.items (length old.blocks.items - 1) top = last_at old.blocks.items c.len.result top (omega (arith, c.len.ensures, old.blocks.ok.0)) c.requires.block c.index-top.ensures in
    let more : top.pending < length old.pending.items = omega (arith, (w.begins (length old.blocks.items - 1) top last).1, c.if-len-top.false, c.len-2.ensures, old.pending.ok.0) in
    let vertex = c.index-vertex.result.now in
    let is_last : At old.pending.items (length old.pending.items - 1) vertex = last_at old.pending.items c.len-3.result vertex (omega (arith, c.len-3.ensures, old.pending.ok.0)) (omega (arith, more)) c.index-vertex.ensures in
    let fits : vertex < length old.places.items = pending_fits graph old.places.items old.open.items old.pending.items old.blocks.items (rows old.groups.items) c.requires.graph w (length old.pending.items - 1) vertex is_last in
    let size : vec_len old.pending ≡ length old.pending.items = omega (arith, old.pending.ok.0) in
    let popped : c.pop.new.self.items ≡ take (length old.pending.items - 1) old.pending.items = c.pop.ensures.rest ∙ ap (λ n. take (n - 1) old.pending.items) size in
    rw popped (less_pending graph old.places.items old.pending.items old.blocks.items top.pending more)

pub index-requires-in-Some : goal.index-requires-in-Some
index-requires-in-Some c =
    let graph = rows c.args.graph.now.successors.items in
    let old = c.args.self.now in
    let w = c.requires.walk in
    let top = c.index-top.result.now in
    let last : At old.blocks.items (length old.blocks.items - 1) top = last_at old.blocks.items c.len.result top (omega (arith, c.len.ensures, old.blocks.ok.0)) c.requires.block c.index-top.ensures in
    let more : top.pending < length old.pending.items = omega (arith, (w.begins (length old.blocks.items - 1) top last).1, c.if-len-top.false, c.len-2.ensures, old.pending.ok.0) in
    let vertex = c.index-vertex.result.now in
    let is_last : At old.pending.items (length old.pending.items - 1) vertex = last_at old.pending.items c.len-3.result vertex (omega (arith, c.len-3.ensures, old.pending.ok.0)) (omega (arith, more)) c.index-vertex.ensures in
    let fits : vertex < length old.places.items = pending_fits graph old.places.items old.open.items old.pending.items old.blocks.items (rows old.groups.items) c.requires.graph w (length old.pending.items - 1) vertex is_last in
    omega (arith, (w.begins (length old.blocks.items - 1) top last).0, c.if-place-top.false, old.open.ok.0)

pub returns-then-index-vertex-clause-walk : goal.returns-then-index-vertex-clause-walk
returns-then-index-vertex-clause-walk c =
    let graph = rows c.args.graph.now.successors.items in
    let old = c.args.self.now in
    let w = c.requires.walk in
    let top = c.index-top.result.now in
    let last : At old.blocks.items (length old.blocks.items - 1) top = last_at old.blocks.items c.len.result top (omega (arith, c.len.ensures, old.blocks.ok.0)) c.requires.block c.index-top.ensures in
    let more : top.pending < length old.pending.items = omega (arith, (w.begins (length old.blocks.items - 1) top last).1, c.if-len-top.false, c.len-2.ensures, old.pending.ok.0) in
    let vertex = c.index-vertex.result.now in
    let is_last : At old.pending.items (length old.pending.items - 1) vertex = last_at old.pending.items c.len-3.result vertex (omega (arith, c.len-3.ensures, old.pending.ok.0)) (omega (arith, more)) c.index-vertex.ensures in
    let fits : vertex < length old.places.items = pending_fits graph old.places.items old.open.items old.pending.items old.blocks.items (rows old.groups.items) c.requires.graph w (length old.pending.items - 1) vertex is_last in
    let seen : At old.places.items vertex (Some c.in-Some.place) = read_at old.places.items vertex c.index.result.now (Some c.in-Some.place) fits c.index.ensures c.in-Some.is in
    let size : vec_len old.pending ≡ length old.pending.items = omega (arith, old.pending.ok.0) in
    let popped : c.pop-then-index-vertex.new.self.items ≡ take (length old.pending.items - 1) old.pending.items = c.pop-then-index-vertex.ensures.rest ∙ ap (λ n. take (n - 1) old.pending.items) size in
    rw popped (passed graph old.places.items old.open.items old.pending.items old.blocks.items (rows old.groups.items) w top last vertex is_last more (met_done graph old.places.items old.open.items old.pending.items old.blocks.items (rows old.groups.items) w top vertex c.in-Some.place seen (λ h. c.if-index-vertex.true (is_read old.open.items c.in-Some.place c.index-in-Some.result.now vertex h c.index-in-Some.ensures))))

pub returns-then-index-vertex-clause-less : goal.returns-then-index-vertex-clause-less
returns-then-index-vertex-clause-less c =
    let graph = rows c.args.graph.now.successors.items in
    let old = c.args.self.now in
    let w = c.requires.walk in
    let top = c.index-top.result.now in
    let last : At old.blocks.items (length old.blocks.items - 1) top = last_at old.blocks.items c.len.result top (omega (arith, c.len.ensures, old.blocks.ok.0)) c.requires.block c.index-top.ensures in
    let more : top.pending < length old.pending.items = omega (arith, (w.begins (length old.blocks.items - 1) top last).1, c.if-len-top.false, c.len-2.ensures, old.pending.ok.0) in
    let vertex = c.index-vertex.result.now in
    let is_last : At old.pending.items (length old.pending.items - 1) vertex = last_at old.pending.items c.len-3.result vertex (omega (arith, c.len-3.ensures, old.pending.ok.0)) (omega (arith, more)) c.index-vertex.ensures in
    let fits : vertex < length old.places.items = pending_fits graph old.places.items old.open.items old.pending.items old.blocks.items (rows old.groups.items) c.requires.graph w (length old.pending.items - 1) vertex is_last in
    let size : vec_len old.pending ≡ length old.pending.items = omega (arith, old.pending.ok.0) in
    let popped : c.pop-then-index-vertex.new.self.items ≡ take (length old.pending.items - 1) old.pending.items = c.pop-then-index-vertex.ensures.rest ∙ ap (λ n. take (n - 1) old.pending.items) size in
    rw popped (less_pending graph old.places.items old.pending.items old.blocks.items top.pending more)

pub returns-else-index-vertex-clause-walk : goal.returns-else-index-vertex-clause-walk
returns-else-index-vertex-clause-walk c =
    let graph = rows c.args.graph.now.successors.items in
    let old = c.args.self.now in
    let w = c.requires.walk in
    let top = c.index-top.result.now in
    let last : At old.blocks.items (length old.blocks.items - 1) top = last_at old.blocks.items c.len.result top (omega (arith, c.len.ensures, old.blocks.ok.0)) c.requires.block c.index-top.ensures in
    let more : top.pending < length old.pending.items = omega (arith, (w.begins (length old.blocks.items - 1) top last).1, c.if-len-top.false, c.len-2.ensures, old.pending.ok.0) in
    let vertex = c.index-vertex.result.now in
    let is_last : At old.pending.items (length old.pending.items - 1) vertex = last_at old.pending.items c.len-3.result vertex (omega (arith, c.len-3.ensures, old.pending.ok.0)) (omega (arith, more)) c.index-vertex.ensures in
    let fits : vertex < length old.places.items = pending_fits graph old.places.items old.open.items old.pending.items old.blocks.items (rows old.groups.items) c.requires.graph w (length old.pending.items - 1) vertex is_last in
    let opens : c.in-Some.place < length old.open.items = omega (arith, (w.begins (length old.blocks.items - 1) top last).0, c.if-place-top.false) in
    let size : vec_len old.blocks ≡ length old.blocks.items = omega (arith, old.blocks.ok.0) in
    let popped : c.pop-in-Some.new.self.items ≡ take (length old.blocks.items - 1) old.blocks.items = c.pop-in-Some.ensures.rest ∙ ap (λ n. take (n - 1) old.blocks.items) size in
    rw popped (united graph old.places.items old.open.items old.pending.items old.blocks.items (rows old.groups.items) w top last vertex is_last more c.in-Some.place (read_at old.open.items c.in-Some.place c.index-in-Some.result.now vertex opens c.index-in-Some.ensures c.if-index-vertex.false) (omega (arith, c.if-place-top.false)))
