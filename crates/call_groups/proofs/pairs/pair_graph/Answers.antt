use Rattle.std.proofs.Common.{◌≡◌, ℕ, ◌++◌, List, None, Option, false, get_or, ap, ◌∙◌, subst}
use Rattle.call_graph.specs.Graphs.{At, rows}
use Rattle.call_groups.proofs.Edges.{called_row, row_more}
use Rattle.call_groups.proofs.Tables.{at_read}
use Rattle.call_groups.specs.Groups.{called_by, pairs_of}
use Rattle.core_ir.specs.Calls.{unit_calls}
use Rattle.core_ir.specs.Joint.{Old, New, PairOfUnits, pair_from}
use Rattle.call_groups.proofs.pairs.pair_graph.Goals as goal

pub pairs-preserved : goal.pairs-preserved
pairs-preserved c =
    let joint = c.args.core.now in
    let pairs : List PairOfUnits = c.as_slice-pairs.result.now in
    let k = c.pairs.pair-index in
    let none : PairOfUnits = (0, 0, false) in
    let pair = get_or pairs k none in
    let f : ℕ → Option ℕ = λ u. get_or c.in_ok-old_pairs.old_pairs.items u None in
    let g : ℕ → Option ℕ = λ u. get_or c.in_ok-new_pairs.new_pairs.items u None in
    let old : (u : ℕ) → f u ≡ pair_from Old u 0 joint.pairs = λ u. c.in_ok-old_pairs.ensures u ∙ ap (pair_from Old u 0) c.as_slice-pairs.ensures in
    let new : (u : ℕ) → g u ≡ pair_from New u 0 joint.pairs = λ u. c.in_ok-new_pairs.ensures u ∙ ap (pair_from New u 0) c.as_slice-pairs.ensures in
    let row : c.in_ok-row.row.items ≡ called_by joint pair =
    c.in_ok-row.ensures
    ∙ ap (λ (t : List (Option ℕ)). pairs_of (λ u. get_or t u None) (unit_calls joint.old pair.0) ++ pairs_of (λ u. get_or c.as_slice-in-pairs.result.now u None) (unit_calls joint.new_side pair.1)) c.as_slice.ensures.value
    ∙ ap (λ (t : List (Option ℕ)). pairs_of f (unit_calls joint.old pair.0) ++ pairs_of (λ u. get_or t u None) (unit_calls joint.new_side pair.1)) c.as_slice-in-pairs.ensures.value
    ∙ called_row joint pair f g old new in
    let at : At joint.pairs k pair = subst (λ (l : List PairOfUnits). At l k pair) c.as_slice-pairs.ensures (at_read pairs k none c.pairs-test.true) in
    ap rows c.in-Ok.ensures.items ∙ row_more joint joint.pairs c.pairs.successors.items c.in_ok-row.row k pair at c.pairs.invariant row
