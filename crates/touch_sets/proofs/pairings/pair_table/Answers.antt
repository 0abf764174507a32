use Rattle.std.proofs.Common.{false, get_or, take, sym, ap, ◌∙◌}
use Rattle.touch_sets.proofs.PairTables.{next_entry, at_read}
use Rattle.touch_sets.specs.Touching.{entered_at, side_of}
use Rattle.core_ir.specs.Joint.{PairOfUnits, pair_from}
use Rattle.touch_sets.proofs.pairings.pair_table.Goals as goal

pub pairs-preserved : goal.pairs-preserved
pairs-preserved c u =
    let pairs = c.args.pairs.now in
    let k = c.pairs.place in
    let side = side_of c.args.old_side in
    let none : PairOfUnits = (0, 0, false) in
    let before = pair_from side u 0 (take k pairs) in
    c.in_ok-enter.ensures u
    ∙ ap (entered_at c.member_of.result k u) (c.pairs.invariant u)
    ∙ ap (λ m. entered_at m k u before) c.member_of.ensures
    ∙ sym (next_entry side u k pairs (get_or pairs k none) (at_read pairs k none c.pairs-test.true))
