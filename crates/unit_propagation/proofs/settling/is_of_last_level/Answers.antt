use Rattle.std.proofs.Common.{rules, arith, ◌≡◌, ◌<◌, ◌-◌, length, slice_index, ap, ◌∙◌, w64, inl, inr}
use Rattle.std.proofs.lemmas.Int.{to_z-of_z}
use Rattle.std.proofs.lemmas.List.{get_or_read}
use Rattle.std.proofs.lemmas.Bool.{cases_eq, ltb-true}
use mir.Val.{SFits}
use Rattle.clause_db.specs.Literal.{variable_of}
use Rattle.unit_propagation.proofs.settling.is_of_last_level.Goals as goal

pub returns : goal.returns
returns c =
    let trail = c.args.trail.now in
    let fits : SFits w64 c.args.literal = search rules in
    let v : c.variable.result ≡ variable_of c.args.literal = c.variable.ensures ∙ ap variable_of (to_z-of_z w64 _ fits) in
    let place : c.index.result.now ≡ slice_index trail.places.items (variable_of c.args.literal) = get_or_read trail.places.items c.variable.result c.index.result.now (omega (arith, v, c.requires)) c.index.ensures 0 ∙ ap (slice_index trail.places.items) v in
    λ late j h.
    let starts = trail.starts.items in
    let long : c.len.result ≡ length starts = omega (arith, c.len.ensures, trail.starts.ok.0) in
    let last : c.index-2.result.now ≡ slice_index starts (length starts - 1) = get_or_read starts (c.len.result - 1) c.index-2.result.now (omega (arith, long, h)) c.index-2.ensures 0 ∙ ap (λ n. slice_index starts (n - 1)) long in
    let later : c.index-2.result.now < c.index.result.now = ltb-true c.index-2.result.now c.index.result.now late in
    elim (cases_eq j (length starts - 1)) [
      | inl e ↦ let same = ap (slice_index starts) e in omega (arith, same, last, later, place)
      | inr ne ↦ let before = trail.starts_right.increasing j (length starts - 1) (omega (arith, h, ne)) (omega (arith, h)) in omega (arith, before, last, later, place)
    ]
