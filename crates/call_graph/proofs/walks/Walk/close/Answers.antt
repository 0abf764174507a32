use Rattle.call_graph.specs.Graphs.{rows}
use Rattle.std.proofs.Common.{◌≡◌, ◌++◌, ◌∷◌, [], ◌-◌, length, take, drop, arith, ap, ◌∙◌, vec_len}
use Rattle.std.proofs.lemmas.List.{map-append}
use Rattle.call_graph.proofs.BlockCloses.{closed}
use Rattle.call_graph.proofs.walks.Walk.close.Goals as goal

pub returns-clause-walk : goal.returns-clause-walk
returns-clause-walk c =
    let old = c.args.self.now in
    let size : vec_len old.blocks ≡ length old.blocks.items = omega (arith, old.blocks.ok.0) in
    let blocks : c.pop.new.self.items ≡ take (length old.blocks.items - 1) old.blocks.items = c.pop.ensures.rest ∙ ap (λ n. take (n - 1) old.blocks.items) size in
    let groups : rows c.push.new.self.items ≡ rows old.groups.items ++ drop c.args.top.open old.open.items ∷ [] =
    ap rows c.in-Ok-push.ensures.items ∙ map-append (λ v. v.items) old.groups.items (c.in-Ok.group ∷ []) ∙ ap (λ g. rows old.groups.items ++ g ∷ []) c.in-Ok.ensures.tail in
    rw (blocks, c.in-Ok.ensures.items, groups)
    (closed (rows c.args.graph.now.successors.items) old.places.items old.open.items old.pending.items old.blocks.items (rows old.groups.items) c.requires.walk c.args.top c.requires.last c.requires.followed)
