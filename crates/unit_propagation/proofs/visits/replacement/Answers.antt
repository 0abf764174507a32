use Rattle.std.proofs.Common.{rules, arith, sym, ◌∙◌, subst, w64}
use Rattle.std.specs.Prelude.{Contains}
use Rattle.std.proofs.lemmas.Int.{to_z-of_z}
use mir.Val.{SFits}
use Rattle.clause_db.specs.Literal.{opposite}
use Rattle.clause_db.proofs.Ordered.{read_at_place}
use Rattle.unit_propagation.proofs.visits.replacement.Goals as goal

pub returns : goal.returns
returns c m w ne =
    let fits : SFits w64 c.args.other = search rules in
    let is = read_at_place c.args.clause.now m w in
    subst (λ l. Contains c.args.trail.now.literals.items (opposite l)) is (c.loop-place.invariant w.0 (omega (arith, w.1, c.loop-place-test.false)) (λ e. ne (sym is ∙ e ∙ to_z-of_z w64 _ fits)))
