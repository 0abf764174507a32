use Rattle.std.proofs.Common.{◌∙◌, ap, sym}
use Rattle.flat_memory.specs.Entries.{spot_of}
use Rattle.flat_memory.proofs.LocalSteps.{found_is, missing_is}
use Rattle.flat_memory.proofs.locals.spot.Goals as goal

pub returns-in-Some : goal.returns-in-Some
returns-in-Some c = c.spot.ensures ∙ ap (λ ls. spot_of ls c.args.number) (sym (found_is c.args.entries.now c.args.function c.in-Some.entry.now c.in-Some.ensures))

pub returns-in-None : goal.returns-in-None
returns-in-None c = ap (λ ls. spot_of ls c.args.number) (sym (missing_is c.args.entries.now c.args.function c.in-None.ensures))
