use Rattle.std.proofs.Common.{arith, ◌<◌, ℕ, length, sym, subst}
use Rattle.unit_propagation.specs.Status.{FitsVariables}
use Rattle.unit_propagation.specs.Watching.{entries}
use Rattle.unit_propagation.proofs.Reasons.{reasons_taken_back}
use Rattle.unit_propagation.proofs.Watchings.{watched_cut}
use Rattle.refutation_check.proofs.GoingOn.{back_by_cut, back_by_nothing}
use Rattle.refutation_check.proofs.tries.take_back.Goals as goal

pub returns-clause-run : goal.returns-clause-run
returns-clause-run c clauses run =
    let trail = c.args.trail.now in
    let w = c.args.watches.now in
    let level = c.args.level in
    let n : ℕ = length trail.places.items in
    let u = c.cut.ensures in
    let r = c.rewind.ensures in
    let low : level < length trail.starts.items = (let a = c.if-level-len.false in omega (arith, a, trail.starts.ok.0)) in
    record {
      fits = subst (λ k. FitsVariables k clauses) (sym u.variables) run.fits;
      has_reasons = rw (u.literals, u.starts, u.reasons) (reasons_taken_back trail.literals.items trail.starts.items trail.starts_right level low clauses trail.reasons.items run.has_reasons);
      watched = rw (u.variables, r.head, r.pairs, r.lists, r.pending, u.literals, u.starts) (watched_cut trail.literals.items trail.starts.items trail.starts_right level low clauses n w.head w.pairs.items (entries w.lists.items) w.pending.items run.watched);
      known = rw r.pairs run.known;
    }

pub returns-clause-back : goal.returns-clause-back
returns-clause-back c base is goes_on =
    let trail = c.args.trail.now in
    let u = c.cut.ensures in
    let low : c.args.level < length trail.starts.items = (let a = c.if-level-len.false in omega (arith, a, trail.starts.ok.0)) in
    back_by_cut base trail c.cut.new.self c.args.level c.args.watches.now.head c.rewind.new.self.head is low goes_on u.literals u.starts c.rewind.ensures.head

pub returns-then-level-len-clause-back : goal.returns-then-level-len-clause-back
returns-then-level-len-clause-back c base is goes_on =
    let trail = c.args.trail.now in
    back_by_nothing base trail c.args.level c.args.watches.now.head is (let a = c.if-level-len.true in omega (arith, a, trail.starts.ok.0)) goes_on
