use Rattle.std.proofs.Common.{arith, ◌<◌, ◌∙◌, sym, subst, refl}
use Rattle.std.specs.Prelude.{All}
use Rattle.clause_db.specs.Literal.{variable_of}
use Rattle.refutation_check.proofs.RunSteps.{within_more, from_true, from_false}
use Rattle.refutation_check.proofs.GoingOn.{goes_on_same, goes_on_more, goes_on_extends}
use Rattle.refutation_check.proofs.tries.assume_part.Goals as goal

pub assume_at-requires-clause-fits : goal.assume_at-requires-clause-fits
assume_at-requires-clause-fits c = subst (λ n. All (λ l. variable_of l < n) c.args.order.now.literals.items) (sym c.loop-place.invariant.variables) c.requires.fits

pub loop-place-init : goal.loop-place-init
loop-place-init c = record {
  run = c.requires.run;
  decided = c.requires.decided;
  false_there = λ k above h. absurd (omega (arith, above, h));
  goes_on = goes_on_same c.args.trail.now c.args.watches.now.head c.requires.run.handled;
  variables = refl;
}

pub loop-place-preserved : goal.loop-place-preserved
loop-place-preserved c =
    let clause = c.args.order.now.literals.items in
    let i = c.loop-place.invariant in
    let e = c.in_ok-assume_at.ensures in
    let old = c.loop-place.trail in
    let new = c.assume_at.new.trail in
    record {
      run = from_true _ e.quiet c.if-not-branch.false;
      decided = from_true _ e.decided c.if-not-branch.false;
      false_there = within_more clause c.args.part.from c.loop-place.place old.literals.items new.literals.items (goes_on_extends old new c.assume_at.new.watches.head e.goes_on) (from_true _ e.false_there c.if-not-branch.false) i.false_there;
      goes_on = goes_on_more c.args.trail.now old new c.loop-place.watches.head c.assume_at.new.watches.head i.goes_on e.goes_on;
      variables = e.variables ∙ i.variables;
    }

pub returns-then-not-branch-clause-refuted : goal.returns-then-not-branch-clause-refuted
returns-then-not-branch-clause-refuted c = from_false _ c.in_ok-assume_at.ensures.refuted c.if-not-branch.true
