use Rattle.std.proofs.Common.{◌≡◌, true, false, refl, sym, ◌∙◌}
use Rattle.rvt_run.specs.LoopTwins.{AreNamedSo}
use Rattle.rvt_run.proofs.Alike.{so_step, so_fails, so_nil, not_same, not_other, nil_of}
use Rattle.rvt_run.proofs.loop_twins.are_named_so.Goals as goal

pub locals-preserved : goal.locals-preserved
locals-preserved c =
    so_step c.args.f.now c.args.g.now (AreNamedSo c.args.f.now c.args.g.now c.args.locals.now) c.locals.left.now c.in-Some.more.now c.in-Some.local.now c.in-Some.ensures.cases.0
    (sym c.name_at.ensures ∙ not_other _ _ (sym c.ne.ensures ∙ c.if-ne.false) ∙ c.name_at-in-Some.ensures) c.locals.invariant

pub returns-then-ne : goal.returns-then-ne
returns-then-ne c = (
  λ no. let h : false ≡ true = no in cc,
  λ whole. absurd (so_fails c.args.f.now c.args.g.now (AreNamedSo c.args.f.now c.args.g.now c.args.locals.now) c.locals.left.now c.in-Some.more.now c.in-Some.local.now c.in-Some.ensures.cases.0
      (λ same. not_same _ _ (sym c.ne.ensures ∙ c.if-ne.true) (c.name_at.ensures ∙ same ∙ sym c.name_at-in-Some.ensures)) c.locals.invariant whole),
)

pub returns : goal.returns
returns c = (λ yes_. c.locals.invariant.0 (so_nil c.args.f.now c.args.g.now c.locals.left.now (nil_of c.locals.left.now c.in_default.ensures.cases)), λ whole. refl)
