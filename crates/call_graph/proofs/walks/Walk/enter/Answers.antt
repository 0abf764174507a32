use Rattle.std.proofs.Common.{◌≡◌, ◌++◌, ◌∷◌, [], Some, None, ◌<◌, length, set, arith, ap, sym, ◌∙◌, subst, length-append}
use Rattle.call_graph.specs.Walks.{IsWalk}
use Rattle.call_graph.specs.Graphs.{At, rows}
use Rattle.call_graph.proofs.BlockEntries.{entered, less_work, not_unseen}
use Rattle.call_graph.proofs.Lists.{set_new, set_keeps, within, row_at}
use Rattle.call_graph.proofs.walks.Walk.enter.Goals as goal

pub returns-clause-walk : goal.returns-clause-walk
returns-clause-walk c =
    let graph = rows c.args.graph.now.successors.items in
    let old = c.args.self.now in
    let row = c.index.result.now.items in
    let fits : c.args.vertex < length graph = omega (arith, within old.places.items c.args.vertex None c.requires.unseen, c.requires.walk.sized) in
    let is_row : At graph c.args.vertex row = row_at c.args.graph.now.successors.items c.args.vertex c.index.result.now fits c.index.ensures in
    let first : c.len.result ≡ length old.open.items = omega (arith, c.len.ensures, old.open.ok.0) in
    let next : c.len-2.result ≡ length old.pending.items = omega (arith, c.len-2.ensures, old.pending.ok.0) in
    let pending : c.extend_from_slice.new.self.items ≡ old.pending.items ++ row = c.in-Ok-extend_from_slice.ensures.items ∙ ap (λ xs. old.pending.items ++ xs) c.as_slice.ensures.value in
    rw (c.in-Ok.ensures.items, pending, c.in-Ok-push.ensures.items)
    (subst (λ n. IsWalk graph (set old.places.items c.args.vertex (Some n)) (old.open.items ++ c.args.vertex ∷ []) (old.pending.items ++ row) (old.blocks.items ++ record { «open» = c.len.result; pending = c.len-2.result } ∷ []) (rows old.groups.items)) (sym first)
    (entered graph old.places.items old.open.items old.pending.items old.blocks.items (rows old.groups.items) c.requires.walk c.args.vertex c.requires.unseen row is_row c.requires.reached
    (record { «open» = c.len.result; pending = c.len-2.result }) first next))

pub returns-clause-kept : goal.returns-clause-kept
returns-clause-kept c v i h =
    let old = c.args.self.now in
    set_keeps old.places.items c.args.vertex (Some c.len.result) v (Some i) (not_unseen old.places.items c.args.vertex i v c.requires.unseen h) h

pub returns-clause-seen : goal.returns-clause-seen
returns-clause-seen c = (c.len.result, set_new c.args.self.now.places.items c.args.vertex (Some c.len.result) None c.requires.unseen)

pub returns-clause-less : goal.returns-clause-less
returns-clause-less c =
    let graph = rows c.args.graph.now.successors.items in
    let old = c.args.self.now in
    let row = c.index.result.now.items in
    let fits : c.args.vertex < length graph = omega (arith, within old.places.items c.args.vertex None c.requires.unseen, c.requires.walk.sized) in
    let is_row : At graph c.args.vertex row = row_at c.args.graph.now.successors.items c.args.vertex c.index.result.now fits c.index.ensures in
    let pending : c.extend_from_slice.new.self.items ≡ old.pending.items ++ row = c.in-Ok-extend_from_slice.ensures.items ∙ ap (λ xs. old.pending.items ++ xs) c.as_slice.ensures.value in
    let less = less_work graph old.places.items c.args.vertex c.len.result row c.requires.unseen is_row in
    rw (pending, c.in-Ok-push.ensures.items)
    (omega (arith, less, length-append old.pending.items row, length-append old.blocks.items (record { «open» = c.len.result; pending = c.len-2.result } ∷ [])))
