use Rattle.std.proofs.Common.{rules, arith, ◌≡◌, ℕ, pos, ap, ◌∙◌, w64, get_or, slice_index}
use Rattle.std.proofs.lemmas.Int.{to_z-of_z}
use Rattle.std.proofs.lemmas.List.{get_or_read}
use mir.Val.{SFits}
use Rattle.clause_db.specs.Literal.{variable_of}
use Rattle.sat_search.specs.Latest.{place_in}
use Rattle.sat_search.proofs.Latests.{latest_newer, latest_second, latest_older}
use Rattle.sat_search.proofs.learning.latest_of.Goals as goal
use Rattle.sat_search.proofs.learning.latest_of.Goals.{then-place-last, else-place-last+then-place-second, else-place-last+else-place-second}

pub loop-literal-preserved : goal.loop-literal-preserved
loop-literal-preserved c =
    let clause = c.args.clause.now in
    let places = c.args.trail.now.places.items in
    let i : ℕ = c.loop-literal.literal-index in
    let fits : SFits w64 (get_or clause i (pos 0)) = search rules in
    let v : c.variable.result ≡ variable_of (get_or clause i (pos 0)) = c.variable.ensures ∙ ap variable_of (to_z-of_z w64 _ fits) in
    let within = c.requires i (pos 0) (omega arith) in
    let place : c.index-place.result.now ≡ place_in places clause i = get_or_read places c.variable.result c.index-place.result.now (omega (arith, v, within)) c.index-place.ensures 0 ∙ ap (slice_index places) v in
    elim c.if-place-last.branch [
      | then-place-last w ↦ rw (w.last-is, w.second-is, place) (latest_newer places clause i c.loop-literal.last c.loop-literal.second c.loop-literal.invariant (omega (arith, place, w.if-place-last.true)))
      | else-place-last+then-place-second w ↦ rw (w.last-is, w.second-is, place) (latest_second places clause i c.loop-literal.last c.loop-literal.second c.loop-literal.invariant (omega (arith, place, w.if-place-last.false)) (omega (arith, place, w.if-place-second.true)))
      | else-place-last+else-place-second w ↦ rw (w.last-is, w.second-is) (latest_older places clause i c.loop-literal.last c.loop-literal.second c.loop-literal.invariant (omega (arith, place, w.if-place-second.false)))
    ]
