use Rattle.std.proofs.Common.{rules, inl, inr, refl, subst, w64}
use Rattle.std.proofs.lemmas.Int.{to_z-of_z}
use mir.Val.{SFits}
use Rattle.unit_propagation.specs.Visiting.{IsLookBeside}
use Rattle.unit_propagation.proofs.LookSteps.{look_from_beside, same_read}
use Rattle.unit_propagation.proofs.visits.look_by.Goals as goal

pub returns-then-watched-falsified : goal.returns-then-watched-falsified
returns-then-watched-falsified c =
    let fits : SFits w64 c.args.falsified = search rules in
    let first : SFits w64 c.args.watched.first = search rules in
    let second : SFits w64 c.args.watched.second = search rules in
    look_from_beside c.args.trail.now.literals.items c.args.clause.now.literals.items c.args.watched c.args.falsified c.args.watched.second c.look_beside.result c.requires.has_second (inl (same_read c.args.watched.first c.args.falsified first fits c.if-watched-falsified.true, refl)) (subst (λ l. IsLookBeside c.args.trail.now.literals.items c.args.clause.now.literals.items l c.look_beside.result) (to_z-of_z w64 _ second) c.look_beside.ensures)

pub returns-then-watched-falsified-2 : goal.returns-then-watched-falsified-2
returns-then-watched-falsified-2 c =
    let fits : SFits w64 c.args.falsified = search rules in
    let first : SFits w64 c.args.watched.first = search rules in
    let second : SFits w64 c.args.watched.second = search rules in
    look_from_beside c.args.trail.now.literals.items c.args.clause.now.literals.items c.args.watched c.args.falsified c.args.watched.first c.look_beside-then-watched-falsified-2.result c.requires.has_first (inr (same_read c.args.watched.second c.args.falsified second fits c.if-watched-falsified-2.true, refl)) (subst (λ l. IsLookBeside c.args.trail.now.literals.items c.args.clause.now.literals.items l c.look_beside-then-watched-falsified-2.result) (to_z-of_z w64 _ first) c.look_beside-then-watched-falsified-2.ensures)
