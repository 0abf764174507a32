use Rattle.std.proofs.Common.{ℕ, ◌+◌, List, take, sym, subst}
use Rattle.std.proofs.lemmas.List.{take_all}
use Rattle.graph_marks.specs.Marks.{AreSeeds}
use Rattle.graph_marks.proofs.Spreading.{seeds_more, seeds_same}
use Rattle.graph_marks.proofs.marks.seeds_of.Goals as goal

pub seeds-preserved : goal.seeds-preserved
seeds-preserved c =
    subst (λ (l : List ℕ). AreSeeds (take (c.seeds.vertex + 1) c.args.seeds.now) l) (sym c.in-Ok.ensures.items) (seeds_more c.args.seeds.now c.seeds.vertex c.seeds.vertices.items c.seeds-test.true c.if-not-seed.false c.seeds.invariant)

pub seeds-preserved-then-not-seed : goal.seeds-preserved-then-not-seed
seeds-preserved-then-not-seed c = seeds_same c.args.seeds.now c.seeds.vertex c.seeds.vertices.items c.seeds-test.true c.if-not-seed.true c.seeds.invariant

pub returns : goal.returns
returns c = subst (λ s. AreSeeds s c.seeds.vertices.items) (take_all c.seeds.vertex c.args.seeds.now c.seeds-test.false) c.seeds.invariant
