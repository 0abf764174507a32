use Rattle.std.proofs.Common.{◌≡◌, true, false, refl, sym, ◌∙◌, subst}
use Rattle.loop_interfaces.specs.Loops.{loops_of}
use Rattle.rvt_run.specs.LoopTwins.{AreNamedSo, HaveOneNaming}
use Rattle.rvt_run.proofs.Alike.{naming_start, naming_step, naming_fails, naming_done, nil_of}
use Rattle.rvt_run.proofs.loop_twins.have_one_naming.Goals as goal

pub loops-init : goal.loops-init
loops-init c = naming_start c.args.f.now c.args.g.now (loops_of c.args.f.now) c.as_slice-left.result.now c.in_ok-loops.loops.items c.as_slice-left.ensures.value c.in_ok-loops.ensures

pub loops-preserved : goal.loops-preserved
loops-preserved c =
    naming_step c.args.f.now c.args.g.now (HaveOneNaming c.args.f.now c.args.g.now) c.loops.left.now c.in-Some.more.now c.in-Some.interface.now c.in-Some.ensures.cases.0
    (subst (AreNamedSo c.args.f.now c.args.g.now) c.as_slice.ensures.value (c.are_named_so.ensures.0 c.if-not-are_named_so.false)) c.loops.invariant

pub returns-then-not-are_named_so : goal.returns-then-not-are_named_so
returns-then-not-are_named_so c = (
  λ no. let h : false ≡ true = no in cc,
  λ whole. absurd (naming_fails c.args.f.now c.args.g.now (HaveOneNaming c.args.f.now c.args.g.now) c.loops.left.now c.in-Some.more.now c.in-Some.interface.now c.in-Some.ensures.cases.0
      (λ so. let no : true ≡ false = sym (c.are_named_so.ensures.1 (subst (AreNamedSo c.args.f.now c.args.g.now) (sym c.as_slice.ensures.value) so)) ∙ c.if-not-are_named_so.true in cc) c.loops.invariant whole),
)

pub returns : goal.returns
returns c = (λ yes_. naming_done c.args.f.now c.args.g.now (HaveOneNaming c.args.f.now c.args.g.now) c.loops.left.now (nil_of c.loops.left.now c.in_default.ensures.cases) c.loops.invariant, λ whole. refl)
