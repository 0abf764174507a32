use Rattle.std.proofs.Common.{◌≡◌, ◌<◌, ◌∙◌, ap, subst, set, get_or, length, arith}
use Rattle.std.proofs.lemmas.List.Edits.{map_over_more}
use Rattle.c_meaning.specs.Stores.{cleared}
use Rattle.c_places.proofs.locals.clear_all.Goals as goal

pub loop-at-preserved : goal.loop-at-preserved
loop-at-preserved c =
    let x = c.index-as_slice-at.result in
    let h : c.loop-at.at < length c.args.cells.now = omega (arith, c.loop-at-test.true, c.len-at-end.ensures) in
    c.set.ensures
    ∙ ap (set c.loop-at.cells c.loop-at.at) c.cleared.ensures
    ∙ map_over_more cleared c.args.cells.now c.loop-at.cells c.loop-at.at x h c.loop-at.invariant
    (subst (λ xs. x ≡ get_or xs c.loop-at.at x) c.as_slice.ensures c.index-as_slice-at.is)
