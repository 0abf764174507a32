use Rattle.std.proofs.Common.{arith, ◌<◌, ℕ, length}
use Rattle.unit_propagation.specs.Watching.{entries}
use Rattle.unit_propagation.proofs.Reasons.{reasons_taken_back}
use Rattle.unit_propagation.proofs.Watchings.{watched_cut}
use Rattle.sat_search.proofs.Deciding.{not_zero}
use Rattle.sat_search.proofs.solver.take_back.Goals as goal

pub returns-clause-searching : goal.returns-clause-searching
returns-clause-searching c clauses searching =
    let trail = c.args.trail.now in
    let u = c.cut.ensures in
    let low : 0 < length trail.starts.items = (let a = not_zero _ c.if-is_empty.ensures in omega (arith, a, trail.starts.ok.0)) in
    record {
      has_reasons = rw (u.literals, u.starts, u.reasons) (reasons_taken_back trail.literals.items trail.starts.items trail.starts_right 0 low clauses trail.reasons.items searching.has_reasons);
      quiet_before = rw u.starts (λ k h. absurd (omega (arith, h)));
      started = rw u.starts (λ k h. absurd (omega (arith, h)));
    }

pub returns-clause-watched : goal.returns-clause-watched
returns-clause-watched c clauses watched =
    let trail = c.args.trail.now in
    let w = c.args.watches.now in
    let n : ℕ = length trail.places.items in
    let u = c.cut.ensures in
    let r = c.rewind.ensures in
    let low : 0 < length trail.starts.items = (let a = not_zero _ c.if-is_empty.ensures in omega (arith, a, trail.starts.ok.0)) in
    rw (u.variables, r.head, r.pairs, r.lists, r.pending, u.literals, u.starts) (watched_cut trail.literals.items trail.starts.items trail.starts_right 0 low clauses n w.head w.pairs.items (entries w.lists.items) w.pending.items watched)
