use Rattle.std.proofs.Common.{rules, arith, ◌≡◌, ℤ, ◌+◌, ◌++◌, ◌∷◌, [], length, sym, ap, ◌∙◌, w64}
use Rattle.std.proofs.lemmas.Int.{to_z-of_z}
use Rattle.std.proofs.Math.ListN.{length-set}
use mir.Val.{SFits}
use Rattle.clause_db.specs.Literal.{variable_of}
use Rattle.unit_propagation.proofs.Trails.{places_push, values_push}
use Rattle.unit_propagation.proofs.trail.Trail.push.Goals as goal

pub invariant_of-self-2-clause-places_right : goal.invariant_of-self-2-clause-places_right
invariant_of-self-2-clause-places_right c =
    let trail = c.args.self.now.literals.items in
    let l : ℤ = c.args.literal in
    let fits : SFits w64 l = search rules in
    let v : c.variable-v.result ≡ variable_of l = c.variable-v.ensures ∙ ap variable_of (to_z-of_z w64 _ fits) in
    let items : c.push.new.self.items ≡ trail ++ l ∷ [] = c.in-Ok.ensures.items ∙ ap (λ m. trail ++ m ∷ []) (to_z-of_z w64 _ fits) in
    let place : c.len-place.result ≡ length trail = omega (arith, c.len-place.ensures, c.args.self.now.literals.ok.0) in
    rw (items, v, place) (places_push trail c.args.self.now.places.items c.args.self.now.places_right l c.requires.positive c.requires.within c.requires.free)

pub invariant_of-self-2-clause-values_right : goal.invariant_of-self-2-clause-values_right
invariant_of-self-2-clause-values_right c =
    let trail = c.args.self.now.literals.items in
    let l : ℤ = c.args.literal in
    let fits : SFits w64 l = search rules in
    let v : c.variable-v.result ≡ variable_of l = c.variable-v.ensures ∙ ap variable_of (to_z-of_z w64 _ fits) in
    let items : c.push.new.self.items ≡ trail ++ l ∷ [] = c.in-Ok.ensures.items ∙ ap (λ m. trail ++ m ∷ []) (to_z-of_z w64 _ fits) in
    let place : c.len-place.result ≡ length trail = omega (arith, c.len-place.ensures, c.args.self.now.literals.ok.0) in
    let values = c.args.self.now.values.items in
    rw (items, v, place, to_z-of_z w64 _ fits) (values_push trail c.args.self.now.places.items values c.args.self.now.places_right c.args.self.now.values_right c.args.self.now.same_values l c.requires.within)

pub invariant_of-self-2-clause-same_values : goal.invariant_of-self-2-clause-same_values
invariant_of-self-2-clause-same_values c = length-set c.args.self.now.values.items c.variable-v.result _ ∙ c.args.self.now.same_values ∙ sym (length-set c.args.self.now.places.items c.variable-v.result (c.len-place.result + 1))
