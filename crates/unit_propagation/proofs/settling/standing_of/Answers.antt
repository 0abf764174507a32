use Rattle.std.proofs.Common.{rules, arith, ◌<◌, ◌+◌, ℕ, pos, w64, get_or, subst}
use Rattle.std.proofs.lemmas.Int.{to_z-of_z}
use mir.Val.{SFits}
use Rattle.unit_propagation.specs.Status.{IsNext}
use Rattle.unit_propagation.proofs.Statuses.{falsified}
use Rattle.unit_propagation.proofs.SettleSteps.{next_true, next_free, two_stand, forces_stand}
use Rattle.unit_propagation.proofs.settling.standing_of.Goals as goal

pub returns-in-False : goal.returns-in-False
returns-in-False c = falsified c.args.trail.now.literals.items c.args.clause.now c.next_not_false-first.result.place (subst (IsNext c.args.trail.now.literals.items c.args.clause.now 0 c.next_not_false-first.result.place) c.in-False.is c.next_not_false-first.ensures)

pub returns-in-True-value : goal.returns-in-True-value
returns-in-True-value c =
    let trail = c.args.trail.now.literals.items in
    let clause = c.args.clause.now in
    let p : ℕ = c.next_not_false-first.result.place in
    let q : ℕ = c.next_not_false-second.result.place in
    let p_fits : SFits w64 (get_or clause p (pos 0)) = search rules in
    let q_fits : SFits w64 (get_or clause q (pos 0)) = search rules in
    let later : p < q = (let h = c.next_not_false-second.ensures.forward in omega (arith, h)) in
    two_stand trail clause p q _ _ c.requires.ordered (to_z-of_z w64 _ p_fits) (to_z-of_z w64 _ q_fits) later (next_true trail clause c.args.trail.now.places.items 0 p c.args.trail.now.places_right (subst (IsNext trail clause 0 p) c.in-True.is c.next_not_false-first.ensures)) (next_true trail clause c.args.trail.now.places.items (p + 1) q c.args.trail.now.places_right (subst (IsNext trail clause (p + 1) q) c.in-True-value.is c.next_not_false-second.ensures))

pub returns-in-Free-value : goal.returns-in-Free-value
returns-in-Free-value c =
    let trail = c.args.trail.now.literals.items in
    let clause = c.args.clause.now in
    let p : ℕ = c.next_not_false-first.result.place in
    let q : ℕ = c.next_not_false-second.result.place in
    let p_fits : SFits w64 (get_or clause p (pos 0)) = search rules in
    let q_fits : SFits w64 (get_or clause q (pos 0)) = search rules in
    let later : p < q = (let h = c.next_not_false-second.ensures.forward in omega (arith, h)) in
    two_stand trail clause p q _ _ c.requires.ordered (to_z-of_z w64 _ p_fits) (to_z-of_z w64 _ q_fits) later (next_true trail clause c.args.trail.now.places.items 0 p c.args.trail.now.places_right (subst (IsNext trail clause 0 p) c.in-True.is c.next_not_false-first.ensures)) (next_free trail clause (p + 1) q (subst (IsNext trail clause (p + 1) q) c.in-Free-value.is c.next_not_false-second.ensures))

pub returns-in-True-value-2 : goal.returns-in-True-value-2
returns-in-True-value-2 c =
    let trail = c.args.trail.now.literals.items in
    let clause = c.args.clause.now in
    let p : ℕ = c.next_not_false-first.result.place in
    let q : ℕ = c.next_not_false-second-in-Free.result.place in
    let p_fits : SFits w64 (get_or clause p (pos 0)) = search rules in
    let q_fits : SFits w64 (get_or clause q (pos 0)) = search rules in
    let later : p < q = (let h = c.next_not_false-second-in-Free.ensures.forward in omega (arith, h)) in
    two_stand trail clause p q _ _ c.requires.ordered (to_z-of_z w64 _ p_fits) (to_z-of_z w64 _ q_fits) later (next_free trail clause 0 p (subst (IsNext trail clause 0 p) c.in-Free.is c.next_not_false-first.ensures)) (next_true trail clause c.args.trail.now.places.items (p + 1) q c.args.trail.now.places_right (subst (IsNext trail clause (p + 1) q) c.in-True-value-2.is c.next_not_false-second-in-Free.ensures))

pub returns-in-Free-value-2 : goal.returns-in-Free-value-2
returns-in-Free-value-2 c =
    let trail = c.args.trail.now.literals.items in
    let clause = c.args.clause.now in
    let p : ℕ = c.next_not_false-first.result.place in
    let q : ℕ = c.next_not_false-second-in-Free.result.place in
    let p_fits : SFits w64 (get_or clause p (pos 0)) = search rules in
    let q_fits : SFits w64 (get_or clause q (pos 0)) = search rules in
    let later : p < q = (let h = c.next_not_false-second-in-Free.ensures.forward in omega (arith, h)) in
    two_stand trail clause p q _ _ c.requires.ordered (to_z-of_z w64 _ p_fits) (to_z-of_z w64 _ q_fits) later (next_free trail clause 0 p (subst (IsNext trail clause 0 p) c.in-Free.is c.next_not_false-first.ensures)) (next_free trail clause (p + 1) q (subst (IsNext trail clause (p + 1) q) c.in-Free-value-2.is c.next_not_false-second-in-Free.ensures))

pub returns-in-False-value-2 : goal.returns-in-False-value-2
returns-in-False-value-2 c =
    let trail = c.args.trail.now.literals.items in
    let clause = c.args.clause.now in
    let p : ℕ = c.next_not_false-first.result.place in
    let q : ℕ = c.next_not_false-second-in-Free.result.place in
    let p_fits : SFits w64 (get_or clause p (pos 0)) = search rules in
    forces_stand trail clause p q _ (to_z-of_z w64 _ p_fits) (subst (IsNext trail clause 0 p) c.in-Free.is c.next_not_false-first.ensures) (subst (IsNext trail clause (p + 1) q) c.in-False-value-2.is c.next_not_false-second-in-Free.ensures)
