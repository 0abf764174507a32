use Rattle.std.proofs.Common.{◌≡◌, ◌-◌, suc, sym, ap, ◌∙◌, arith}
use Rattle.c_interp.specs.declared.events.Event.TheVariants as E
use Rattle.c_interp.specs.Frames.{happening}
use Rattle.c_interp.proofs.Halts.{cut_call, deep_call}
use Rattle.c_interp.proofs.engine.Engine.call_with_step.Goals as goal

pub returns-then-left-eq0 : goal.returns-then-left-eq0
returns-then-left-eq0 c =
    cut_call c.args.layouts.now c.args.self.now c.args.number c.args.height c.args.left c.if-left-eq0.true

pub returns-then-self-eq0 : goal.returns-then-self-eq0
returns-then-self-eq0 c =
    let more : suc (c.args.left - 1) ≡ c.args.left = omega (arith, c.if-left-eq0.false) in
    deep_call c.args.layouts.now c.args.self.now c.args.number c.args.height c.args.left (c.args.left - 1) (sym more) c.if-self-eq0.true

pub returns : goal.returns
returns c =
    let more : suc (c.args.left - 1) ≡ c.args.left = omega (arith, c.if-left-eq0.false) in
    (omega (arith, more), c.in_ok-call.ensures (c.args.left - 1) ∙ ap (happening c.args.layouts.now (E.Calls c.args.number c.args.height) c.args.self.now) more)
