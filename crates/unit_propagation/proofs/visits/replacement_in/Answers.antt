use Rattle.std.proofs.Common.{rules, ◌<◌, length, sym, subst, w64}
use Rattle.std.specs.Prelude.{All}
use Rattle.std.proofs.lemmas.Int.{to_z-of_z}
use mir.Val.{SFits, to_z, of_z}
use Rattle.clause_db.specs.Literal.{variable_of}
use Rattle.unit_propagation.specs.Visiting.{IsReplacement}
use Rattle.unit_propagation.proofs.visits.replacement_in.Goals as goal

pub replacement-requires : goal.replacement-requires
replacement-requires c = subst (All (λ l. variable_of l < length c.args.trail.now.places.items)) (sym c.deref.ensures.value) c.requires

pub returns : goal.returns
returns c =
    let fits : SFits w64 c.args.other = search rules in
    subst (λ l. IsReplacement c.args.trail.now.literals.items c.args.clause.now.literals.items l c.replacement.result) (to_z-of_z w64 _ fits) (subst (λ xs. IsReplacement c.args.trail.now.literals.items xs (to_z w64 (of_z w64 c.args.other)) c.replacement.result) c.deref.ensures.value c.replacement.ensures)
