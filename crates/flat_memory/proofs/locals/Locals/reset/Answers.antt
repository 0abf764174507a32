use Rattle.std.proofs.Common.{◌∙◌}
use Rattle.flat_memory.proofs.LocalSteps.{reset_now, reset_room}
use Rattle.flat_memory.proofs.locals.Locals.reset.Goals as goal

pub invariant_of-self : goal.invariant_of-self
invariant_of-self c = reset_room c.self.inside.entries.items c.self.inside.cells c.self.inside.base c.self.inside.function c.args.self.now c.self.view_is c.self.invariant c.len-self-inside.result (c.len-self-inside.ensures ∙ c.self.inside.entries.ok.0)

pub returns : goal.returns
returns c = reset_now c.self.inside.entries.items c.self.inside.cells c.self.inside.base c.self.inside.function c.args.self.now c.self.view_is c.self.invariant c.len-self-inside.result (c.len-self-inside.ensures ∙ c.self.inside.entries.ok.0)
