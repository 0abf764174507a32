use Rattle.std.proofs.Common.{sym, ap, ◌∙◌, arith}
use Rattle.c_meaning.specs.Outcomes.{Returning}
use Rattle.c_interp.specs.Frames.{whole}
use Rattle.c_interp.proofs.Stacked.{weight_push, popped, popped_none, not_some, fewer_frames, initializer_passes, call_returns}
use Rattle.c_interp.proofs.frames.last_caller.Goals as goal

pub returns-in-Call-clause-some : goal.returns-in-Call-clause-some
returns-in-Call-clause-some c =
    λ program number store left. sym (c.frames.invariant.0 program number store left) ∙ call_returns program c.frames.frames.items c.pop.new.self.items c.in-Some.field-0 c.in-Call.callee _ c.in-Call.saved number store left (popped _ _ _ _ c.pop.ensures.items c.in-Some.is) c.in-Call.is

pub returns-in-Call-clause-lighter : goal.returns-in-Call-clause-lighter
returns-in-Call-clause-lighter c =
    omega (arith, weight_push _ _ _ (popped _ _ _ _ c.pop.ensures.items c.in-Some.is), c.frames.invariant.1)

pub frames-preserved : goal.frames-preserved
frames-preserved c =
    (λ program number store left. initializer_passes program c.frames.frames.items c.pop.new.self.items c.in-Some.field-0 number store left (popped _ _ _ _ c.pop.ensures.items c.in-Some.is) c.in-Initializer.is ∙ c.frames.invariant.0 program number store left, omega (arith, weight_push _ _ _ (popped _ _ _ _ c.pop.ensures.items c.in-Some.is), c.frames.invariant.1))

pub frames-smaller : goal.frames-smaller
frames-smaller c =
    fewer_frames _ _ _ (popped _ _ _ _ c.pop.ensures.items c.in-Some.is)

pub returns-clause-none : goal.returns-clause-none
returns-clause-none c =
    let none = popped_none _ _ _ _ _ c.frames.frames.ok.0 c.pop.ensures.cases c.pop.ensures.items (not_some _ c.in_default.not-Some) in
    λ program number store left. sym (c.frames.invariant.0 program number store left) ∙ ap (λ fs. whole program fs (Returning number store left)) none.0
