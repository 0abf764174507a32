use Rattle.std.proofs.Common.{◌∙◌, ap, length, get_or, [], arith}
use Rattle.flat_memory.specs.Cells.{joined}
use Rattle.flat_memory.proofs.LocalSteps.{entering_ends, entering_now, entering_room}
use Rattle.flat_memory.proofs.locals.Locals.enter.Goals as goal

pub overflow_add-base : goal.overflow_add-base
overflow_add-base c =
    let n = c.count.ensures ∙ ap (λ es. length (joined (get_or es c.self.inside.function []))) c.as_slice-entries.ensures.value in
    omega (arith, n, c.self.invariant.inside, c.self.invariant.short)

pub put-requires : goal.put-requires
put-requires c = entering_ends c.self.inside.entries.items c.self.inside.cells c.self.inside.base c.self.inside.function c.args.self.now c.self.view_is c.self.invariant c.args.function c.count.result (c.count.ensures ∙ ap (λ es. length (joined (get_or es c.self.inside.function []))) c.as_slice-entries.ensures.value) c.image.result.now (c.image.ensures ∙ ap (λ es. joined (get_or es c.args.function [])) c.as_slice-entries.ensures.value) c.requires

pub invariant_of-self : goal.invariant_of-self
invariant_of-self c = entering_room c.self.inside.entries.items c.self.inside.cells c.self.inside.base c.self.inside.function c.args.self.now c.self.view_is c.self.invariant c.args.function c.count.result (c.count.ensures ∙ ap (λ es. length (joined (get_or es c.self.inside.function []))) c.as_slice-entries.ensures.value) c.image.result.now (c.image.ensures ∙ ap (λ es. joined (get_or es c.args.function [])) c.as_slice-entries.ensures.value) c.requires c.put.new.self c.put.ensures

pub returns : goal.returns
returns c = entering_now c.self.inside.entries.items c.self.inside.cells c.self.inside.base c.self.inside.function c.args.self.now c.self.view_is c.self.invariant c.args.function c.count.result (c.count.ensures ∙ ap (λ es. length (joined (get_or es c.self.inside.function []))) c.as_slice-entries.ensures.value) c.image.result.now (c.image.ensures ∙ ap (λ es. joined (get_or es c.args.function [])) c.as_slice-entries.ensures.value) c.requires c.put.new.self c.put.ensures
