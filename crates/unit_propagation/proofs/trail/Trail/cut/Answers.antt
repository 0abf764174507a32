use Rattle.std.proofs.Common.{rules, ◌≡◌, ℤ, ◌++◌, ◌∷◌, [], sym, ap, ◌∙◌, w64, subst}
use Rattle.std.proofs.lemmas.Int.{to_z-of_z}
use Rattle.std.proofs.Math.ListN.{length-set}
use mir.Val.{SFits}
use Rattle.clause_db.specs.Literal.{variable_of}
use Rattle.unit_propagation.specs.Places.{PlacesAreRight, ValuesAreRight}
use Rattle.unit_propagation.proofs.Trails.{places_pop, values_pop}
use Rattle.unit_propagation.proofs.trail.Trail.cut.Goals as goal

pub invariant_of-self-in-Some-clause-places_right : goal.invariant_of-self-in-Some-clause-places_right
invariant_of-self-in-Some-clause-places_right c =
    let l : ℤ = c.in-Some.literal in
    let fits : SFits w64 l = search rules in
    let v : c.variable-v.result ≡ variable_of l = c.variable-v.ensures ∙ ap variable_of (to_z-of_z w64 _ fits) in
    let items : c.loop-self.self.literals.items ≡ c.pop.new.self.items ++ l ∷ [] = c.in-Some.ensures.items in
    rw v (places_pop c.pop.new.self.items c.loop-self.self.places.items l (subst (λ t. PlacesAreRight t c.loop-self.self.places.items) items c.loop-self.self.places_right))

pub invariant_of-self-in-Some-clause-same_values : goal.invariant_of-self-in-Some-clause-same_values
invariant_of-self-in-Some-clause-same_values c = length-set c.loop-self.self.values.items c.variable-v.result _ ∙ c.loop-self.self.same_values ∙ sym (length-set c.loop-self.self.places.items c.variable-v.result 0)

pub invariant_of-self-in-Some-clause-values_right : goal.invariant_of-self-in-Some-clause-values_right
invariant_of-self-in-Some-clause-values_right c =
    let l : ℤ = c.in-Some.literal in
    let old = c.loop-self.self in
    let fits : SFits w64 l = search rules in
    let v : c.variable-v.result ≡ variable_of l = c.variable-v.ensures ∙ ap variable_of (to_z-of_z w64 _ fits) in
    let items : old.literals.items ≡ c.pop.new.self.items ++ l ∷ [] = c.in-Some.ensures.items in
    rw v (values_pop c.pop.new.self.items old.places.items old.values.items l (subst (λ t. PlacesAreRight t old.places.items) items old.places_right) (subst (λ t. ValuesAreRight t old.places.items old.values.items) items old.values_right) old.same_values)
