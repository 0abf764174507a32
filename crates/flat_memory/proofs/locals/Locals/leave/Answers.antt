use Rattle.std.proofs.Common.{◌∙◌, ap, length, get_or, []}
use Rattle.flat_memory.specs.Cells.{joined}
use Rattle.flat_memory.proofs.LocalSteps.{leaving_fits, leaving_now, leaving_room}
use Rattle.flat_memory.proofs.locals.Locals.leave.Goals as goal

pub overflow_sub-self : goal.overflow_sub-self
overflow_sub-self c = leaving_fits c.self.inside.entries.items c.self.inside.cells c.self.inside.base c.self.inside.function c.args.self.now c.self.view_is c.self.invariant c.args.function c.count.result (c.count.ensures ∙ ap (λ es. length (joined (get_or es c.args.function []))) c.as_slice.ensures.value) c.requires

pub invariant_of-self : goal.invariant_of-self
invariant_of-self c = leaving_room c.self.inside.entries.items c.self.inside.cells c.self.inside.base c.self.inside.function c.args.self.now c.self.view_is c.self.invariant c.args.function c.count.result (c.count.ensures ∙ ap (λ es. length (joined (get_or es c.args.function []))) c.as_slice.ensures.value) c.requires

pub returns : goal.returns
returns c = leaving_now c.self.inside.entries.items c.self.inside.cells c.self.inside.base c.self.inside.function c.args.self.now c.self.view_is c.self.invariant c.args.function c.count.result (c.count.ensures ∙ ap (λ es. length (joined (get_or es c.args.function []))) c.as_slice.ensures.value) c.requires
