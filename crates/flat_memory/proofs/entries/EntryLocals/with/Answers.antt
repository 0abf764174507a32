use Rattle.std.proofs.Common.{◌∙◌, ◌++◌, ◌∷◌, [], ap}
use Rattle.flat_memory.proofs.Spots.{with_are, with_now}
use Rattle.flat_memory.proofs.entries.EntryLocals.with.Goals as goal

pub invariant_of-self : goal.invariant_of-self
invariant_of-self c =
    with_are c.self.inside.spots.items c.self.inside.cells.items c.self.invariant c.args.cells.now c.in_ok-spot.spot c.len.result (c.len.ensures ∙ c.self.inside.cells.ok.0) c.in_ok-spot.ensures
    c.push.new.self.items c.in_ok-push.ensures.items c.extend_from_slice.new.self.items c.in_ok-extend_from_slice.ensures.items

pub returns : goal.returns
returns c =
    with_now c.self.inside.spots.items c.self.inside.cells.items c.self.invariant c.args.cells.now c.in_ok-spot.spot c.len.result (c.len.ensures ∙ c.self.inside.cells.ok.0) c.in_ok-spot.ensures
    c.push.new.self.items c.in_ok-push.ensures.items c.extend_from_slice.new.self.items c.in_ok-extend_from_slice.ensures.items
    ∙ ap (λ locals. locals ++ c.args.cells.now ∷ []) c.self.view_is
