use Rattle.std.proofs.Common.{◌≡◌, ◌-◌, suc, slice_get, refl, sym, ap, subst, ◌∙◌, arith}
use Rattle.c_tasks.specs.Operands.{with_value}
use Rattle.rvt_num.specs.declared.values.Value.TheVariants.{Null}
use Rattle.c_meaning.specs.Laws.{CallUnfolds}
use Rattle.c_interp.proofs.Entered.{misses}
use Rattle.c_interp.proofs.engine.Engine.call.Goals as goal

pub enter-requires-clause-function : goal.enter-requires-clause-function
enter-requires-clause-function c =
    ap (λ fs. slice_get fs c.args.number) (sym (c.as_slice.ensures ∙ ap (λ p. p.functions) c.program.ensures)) ∙ sym c.in-Some.ensures

pub returns-in-Some : goal.returns-in-Some
returns-in-Some c =
    c.enter.ensures

pub returns-in_ok-give-in-None : goal.returns-in_ok-give-in-None
returns-in_ok-give-in-None c =
    let deep : c.args.self.now.depth ≡ suc (c.args.self.now.depth - 1) = omega (arith, c.requires) in
    λ left. misses c.args.layouts.now c.args.self.now (record c.args.self.now { work = c.give.new.self }) c.args.number c.args.height left (c.args.self.now.depth - 1) (subst CallUnfolds c.program-in-None.ensures c.call_unfolds.ensures) deep (ap (λ fs. slice_get fs c.args.number) (sym (c.as_slice.ensures ∙ ap (λ p. p.functions) c.program.ensures)) ∙ sym c.in-None.ensures) refl refl refl
    (c.in_ok-give-in-None.ensures.tasks ∙ c.lower.ensures.tasks) (c.in_ok-give-in-None.ensures.operands ∙ ap (with_value Null) c.lower.ensures.operands)
