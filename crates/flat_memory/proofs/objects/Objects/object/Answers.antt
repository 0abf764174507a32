use Rattle.std.proofs.Common.{◌∙◌, ap, take, drop, not}
use Rattle.flat_memory.proofs.ObjectSteps.{none_object, constant_now, stored_now}
use Rattle.flat_memory.proofs.objects.Objects.object.Goals as goal

pub returns-in-None : goal.returns-in-None
returns-in-None c = none_object c.self.inside.program.now c.self.inside.extents.items c.self.inside.constants.items c.self.inside.store c.self.invariant c.args.self.now c.self.view_is c.args.number c.in-None.ensures

pub returns-then-extent : goal.returns-then-extent
returns-then-extent c =
    c.part.ensures
    ∙ ap (λ xs. take c.in-Some.extent.count (drop c.in-Some.extent.first xs)) c.as_slice.ensures.value
    ∙ constant_now c.self.inside.program.now c.self.inside.extents.items c.self.inside.constants.items c.self.inside.store c.self.invariant c.args.self.now c.self.view_is c.args.number c.in-Some.extent c.in-Some.ensures c.if-extent.true

pub returns-else-extent : goal.returns-else-extent
returns-else-extent c =
    c.part-else-extent.ensures
    ∙ ap (λ xs. take c.in-Some.extent.count (drop c.in-Some.extent.first xs)) c.all.ensures
    ∙ stored_now c.self.inside.program.now c.self.inside.extents.items c.self.inside.constants.items c.self.inside.store c.self.invariant c.args.self.now c.self.view_is c.args.number c.in-Some.extent c.in-Some.ensures (ap not c.if-extent.false)
