use Rattle.std.proofs.Common.{◌-◌, length, slice_get, ap, ◌∙◌}
use Rattle.c_tasks.specs.Operands.{nowhere}
use Rattle.c_steps.proofs.LastPlaces.{last_is_top, no_last}
use Rattle.c_steps.proofs.places.last_place.Goals as goal

pub returns-in-Some : goal.returns-in-Some
returns-in-Some c =
    last_is_top c.args.work.now.places.items c.in-Some.place.now nowhere (c.in-Some.ensures.value ∙ ap (λ places. slice_get places (length places - 1)) c.deref.ensures.value)

pub returns-in-None : goal.returns-in-None
returns-in-None c =
    c.new.ensures ∙ no_last c.args.work.now.places.items nowhere (c.in-None.ensures.value ∙ ap (λ places. slice_get places (length places - 1)) c.deref.ensures.value)
