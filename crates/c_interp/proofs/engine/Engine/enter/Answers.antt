use Rattle.std.proofs.Common.{◌≡◌, ◌-◌, suc, ap, subst, ◌∙◌, arith}
use Rattle.c_meaning.specs.Runs.{entered}
use Rattle.c_meaning.specs.Laws.{CallUnfolds}
use Rattle.c_places.specs.Kept.{KeptIsClosed}
use Rattle.c_interp.proofs.Entered.{enters}
use Rattle.c_interp.proofs.engine.Engine.enter.Goals as goal

pub returns : goal.returns
returns c =
    let deep : c.args.self.now.depth ≡ suc (c.args.self.now.depth - 1) = omega (arith, c.requires.deep) in
    λ left. enters c.args.layouts.now c.args.self.now c.wait.new.self c.args.number c.args.height left (c.args.self.now.depth - 1) c.args.function.now c.gives_result-returns.result c.in_ok-saved.saved c.lower.new.self c.activation-work.result c.begin_body.new.work
    (subst CallUnfolds c.program.ensures c.call_unfolds.ensures) (subst KeptIsClosed c.program-2.ensures c.kept_is_closed.ensures) deep c.requires.function
    c.in_ok-wait.ensures.frames c.in_ok-wait.ensures.depth c.in_ok-wait.ensures.tasks c.in_ok-wait.ensures.operands
    (c.in_ok-wait.ensures.cells ∙ c.in_ok-saved.ensures.entered ∙ ap (λ vs. entered c.args.layouts.now c.args.number c.args.function.now vs c.args.self.now.cells) c.values_above-arguments.ensures)
    c.lower.ensures.tasks c.lower.ensures.operands c.gives_result-returns.ensures c.in_ok-saved.ensures.saved c.activation-work.ensures.tasks c.in_ok-begin_body.ensures
