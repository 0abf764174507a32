use Rattle.std.proofs.Common.{rules, arith, ◌≡◌, ◌≢◌, pos, slice_index_or, ap, ◌∙◌, w64}
use Rattle.std.proofs.lemmas.Int.{to_z-of_z}
use mir.Val.{SFits, of_z}
use Rattle.clause_db.specs.Literal.{variable_of}
use Rattle.std.proofs.lemmas.List.{get_or_read}
use Rattle.unit_propagation.proofs.Trails.{false_by_value}
use Rattle.unit_propagation.proofs.trail.Trail.value.Goals as goal

pub returns-else-known-literal : goal.returns-else-known-literal
returns-else-known-literal c =
    let trail = c.args.self.now in
    let values = trail.values.items in
    let fits : SFits w64 c.args.literal = search rules in
    let v : c.variable.result ≡ variable_of c.args.literal = c.variable.ensures ∙ ap variable_of (to_z-of_z w64 _ fits) in
    let known : c.index-known.result.now ≡ slice_index_or values (variable_of c.args.literal) (pos 0) = get_or_read values c.variable.result c.index-known.result.now (omega (arith, v, c.requires, trail.same_values)) c.index-known.ensures (pos 0) ∙ ap (λ n. slice_index_or values n (pos 0)) v in
    let some : c.index-known.result.now ≢ pos 0 = λ e. c.if-known-eq0.false (ap (of_z w64) e) in
    false_by_value trail.literals.items trail.places.items values trail.places_right trail.values_right c.args.literal c.index-known.result.now c.requires known some (λ e. c.if-known-literal.false (ap (of_z w64) e))
