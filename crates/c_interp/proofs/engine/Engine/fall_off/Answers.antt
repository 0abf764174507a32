use Rattle.std.proofs.Common.{sym, ap, ◌∙◌, arith}
use Rattle.c_meaning.specs.Outcomes.{Returning}
use Rattle.c_steps.specs.Steps.{with_left}
use Rattle.c_interp.specs.declared.frames.Wait.TheVariants as W
use Rattle.c_interp.specs.Frames.{returned_number}
use Rattle.c_interp.proofs.Stacked.{weight_push, popped, popped_none, falls_off, falls_off_last}
use Rattle.c_interp.proofs.Results.{if_ok, on_none}
use Rattle.c_interp.proofs.engine.Engine.fall_off.Goals as goal

pub returns-in-Call-clause-same : goal.returns-in-Call-clause-same
returns-in-Call-clause-same c =
    if_ok c.end_call.result (λ event h left. h left ∙ sym (falls_off c.args.layouts.now c.args.self.now.frames.items c.pop.new.self.items c.in-Some.field-0 (W.Call c.in-Call.callee c.in-Call.returns c.in-Call.saved) c.args.self.now.depth c.args.self.now.work (with_left c.args.self.now.cells left) (popped _ _ _ _ c.pop.ensures.items c.in-Some.is) c.in-Call.is c.requires)) c.end_call.ensures.same

pub returns-in-Call-clause-lighter : goal.returns-in-Call-clause-lighter
returns-in-Call-clause-lighter c =
    if_ok c.end_call.result (λ event. on_none event (λ h. omega (arith, h, weight_push _ _ _ (popped _ _ _ _ c.pop.ensures.items c.in-Some.is)))) c.end_call.ensures.lighter

pub returns-in-Initializer-clause-same : goal.returns-in-Initializer-clause-same
returns-in-Initializer-clause-same c =
    λ left. c.end_initializer.ensures.same c.args.layouts.now left ∙ sym (falls_off c.args.layouts.now c.args.self.now.frames.items c.pop.new.self.items c.in-Some.field-0 W.Initializer c.args.self.now.depth c.args.self.now.work (with_left c.args.self.now.cells left) (popped _ _ _ _ c.pop.ensures.items c.in-Some.is) c.in-Initializer.is c.requires)

pub returns-in-Initializer-clause-lighter : goal.returns-in-Initializer-clause-lighter
returns-in-Initializer-clause-lighter c =
    omega (arith, c.end_initializer.ensures.lighter, weight_push _ _ _ (popped _ _ _ _ c.pop.ensures.items c.in-Some.is))

pub returns-in-None-clause-same : goal.returns-in-None-clause-same
returns-in-None-clause-same c =
    let none = popped_none _ _ _ _ _ c.args.self.now.frames.ok.0 c.pop.ensures.cases c.pop.ensures.items c.in-None.is in
    λ left. sym (falls_off_last c.args.layouts.now c.args.self.now.frames.items c.pop.new.self.items c.args.self.now.depth c.args.self.now.work (with_left c.args.self.now.cells left) none.0 c.requires ∙ ap (λ n. Returning n c.args.self.now.cells.store left) (sym (c.returned_number.ensures ∙ ap returned_number c.take_value-value.ensures.value)))
