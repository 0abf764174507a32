use Rattle.sat_search.proofs.Parts.{part_refl, part_trans}
use Rattle.sat_search.proofs.shortening.shorten.Goals as goal

pub loop-index-init : goal.loop-index-init
loop-index-init c = record { part = part_refl _ _ _; chain = λ start h. h }

pub loop-index-preserved : goal.loop-index-preserved
loop-index-preserved c =
    let i = c.loop-index.invariant in
    let e = c.in_ok-resolve_within.ensures in
    record { part = part_trans _ _ _ _ _ i.part e.part; chain = λ start h. e.chain start (i.chain start h) }
