use Rattle.std.proofs.Common.{◌∙◌, ◌+◌, ap, take, drop, arith}
use Rattle.flat_memory.proofs.LocalSteps.{ends, local_now, none_local}
use Rattle.flat_memory.proofs.locals.Locals.local.Goals as goal

pub overflow_add-self-inside : goal.overflow_add-self-inside
overflow_add-self-inside c = let inside = ends c.self.inside.entries.items c.self.inside.cells c.self.inside.base c.self.inside.function c.args.self.now c.self.view_is c.self.invariant c.as_slice.result.now c.as_slice.ensures.value c.args.number c.in-Some.spot c.in-Some.ensures in omega (arith, inside, c.self.invariant.short)

pub returns-in-Some : goal.returns-in-Some
returns-in-Some c =
    c.part.ensures
    ∙ ap (λ xs. take c.in-Some.spot.count (drop (c.self.inside.base + c.in-Some.spot.first) xs)) c.all.ensures
    ∙ local_now c.self.inside.entries.items c.self.inside.cells c.self.inside.base c.self.inside.function c.args.self.now c.self.view_is c.self.invariant c.as_slice.result.now c.as_slice.ensures.value c.args.number c.in-Some.spot c.in-Some.ensures

pub returns-in-None : goal.returns-in-None
returns-in-None c = none_local c.self.inside.entries.items c.self.inside.cells c.self.inside.base c.self.inside.function c.args.self.now c.self.view_is c.self.invariant c.as_slice.result.now c.as_slice.ensures.value c.args.number c.in-None.ensures
