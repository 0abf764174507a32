use Rattle.std.proofs.Common.{rules, subst, w64}
use Rattle.std.proofs.lemmas.Int.{to_z-of_z}
use Rattle.std.specs.Prelude.{Contains}
use mir.Val.{SFits}
use Rattle.clause_db.specs.Literal.{opposite}
use Rattle.unit_propagation.specs.Visiting.{OthersAreFalse}
use Rattle.unit_propagation.proofs.Covers.{all_false}
use Rattle.unit_propagation.proofs.visits.look_beside.Goals as goal

pub returns-in-Some : goal.returns-in-Some
returns-in-Some c =
    let fits : SFits w64 c.args.other = search rules in
    let next_fits : SFits w64 c.in-Some.next = search rules in
    let w = c.in-Some.ensures in
    rw (to_z-of_z w64 c.in-Some.next next_fits) (to_z-of_z w64 _ fits, w.0, w.1, w.2)

pub returns-in-Some-replacement_in : goal.returns-in-Some-replacement_in
returns-in-Some-replacement_in c =
    let fits : SFits w64 c.args.other = search rules in
    let next_fits : SFits w64 c.in-Some-replacement_in.next = search rules in
    let w = c.in-Some-replacement_in.ensures in
    rw (to_z-of_z w64 c.in-Some-replacement_in.next next_fits) (to_z-of_z w64 _ fits, w.0, w.1, w.2)

pub returns-in-None : goal.returns-in-None
returns-in-None c =
    let fits : SFits w64 c.args.other = search rules in
    all_false c.args.trail.now.literals.items c.args.clause.now.literals.items c.args.other (subst (OthersAreFalse c.args.trail.now.literals.items c.args.clause.now.literals.items) (to_z-of_z w64 _ fits) c.in-None.ensures) (subst (λ l. Contains c.args.trail.now.literals.items (opposite l)) (to_z-of_z w64 _ fits) c.in-False.ensures)
