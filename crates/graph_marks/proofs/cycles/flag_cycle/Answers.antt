use Rattle.std.proofs.Common.{◌≡◌, ◌<◌, true, false, length, get_or, refl, sym, ◌∙◌, arith}
use Rattle.std.proofs.lemmas.List.{length-set}
use Rattle.call_graph.specs.Graphs.{At, rows}
use Rattle.graph_marks.proofs.Rounds.{GoesRound, member_flagged, member_passed}
use Rattle.graph_marks.proofs.Spreading.{read}
use Rattle.graph_marks.proofs.cycles.flag_cycle.Goals as goal

pub goes_round-requires : goal.goes_round-requires
goes_round-requires c = c.requires.group (get_or c.args.group.now c.members.vertex-index 0) (c.members.vertex-index, read c.args.group.now c.members.vertex-index 0 (get_or c.args.group.now c.members.vertex-index 0) c.members-test.true refl)

pub index_mut-requires : goal.index_mut-requires
index_mut-requires c =
    let fits = c.requires.group (get_or c.args.group.now c.members.vertex-index 0) (c.members.vertex-index, read c.args.group.now c.members.vertex-index 0 (get_or c.args.group.now c.members.vertex-index 0) c.members-test.true refl) in
    omega (arith, fits, c.requires.sized, c.members.invariant.0, c.members.flags.ok.0)

pub members-preserved : goal.members-preserved
members-preserved c =
    let v = get_or c.args.group.now c.members.vertex-index 0 in
    let graph = rows c.args.graph.now.successors.items in
    let at : At c.args.group.now c.members.vertex-index v = read c.args.group.now c.members.vertex-index 0 v c.members-test.true refl in
    let fits = c.requires.group v (c.members.vertex-index, at) in
    let lt : v < length c.members.flags.items = omega (arith, fits, c.requires.sized, c.members.invariant.0) in
    let round : GoesRound graph c.args.group.now v = c.goes_round.ensures.0 c.if-not-goes_round.false in
    (length-set c.members.flags.items v true ∙ c.members.invariant.0, member_flagged graph c.args.group.now c.members.vertex-index v c.args.flags.now.items c.members.flags.items at round lt c.members.invariant.1)

false_true : false ≡ true → ⊥
false_true e = cc

pub members-preserved-then-not-goes_round : goal.members-preserved-then-not-goes_round
members-preserved-then-not-goes_round c =
    let v = get_or c.args.group.now c.members.vertex-index 0 in
    let graph = rows c.args.graph.now.successors.items in
    let at : At c.args.group.now c.members.vertex-index v = read c.args.group.now c.members.vertex-index 0 v c.members-test.true refl in
    (c.members.invariant.0, member_passed graph c.args.group.now c.members.vertex-index v c.args.flags.now.items c.members.flags.items at (λ (r : GoesRound graph c.args.group.now v). false_true (sym c.if-not-goes_round.true ∙ c.goes_round.ensures.1 r)) c.members.invariant.1)
