use Rattle.std.proofs.Common.{◌<◌, Some, None, length, arith, subst, below_more, vec_len, sym, eqb→eq}
use Rattle.std.proofs.lemmas.Float.{T_from_true}
use Rattle.std.proofs.lemmas.List.{length-map}
use Rattle.call_graph.specs.Graphs.{rows}
use Rattle.call_graph.specs.Walks.{IsWalk}
use Rattle.call_graph.proofs.BlockSteps.{read_at}
use Rattle.call_graph.proofs.WalkEnds.{finished, none_open, no_elements}
use Rattle.call_graph.proofs.searches.components.Goals as goal

pub enter-requires-clause-unseen : goal.enter-requires-clause-unseen
enter-requires-clause-unseen c =
    let walk = c.vertices.walk in
    let size = length-map c.args.graph.now.successors.items (λ v. v.items) in
    let fits : c.vertices.vertex < length walk.places.items = omega (arith, c.vertices-test.true, c.len-count.ensures, c.args.graph.now.successors.ok.0, size, c.vertices.invariant.walk.sized) in
    read_at walk.places.items c.vertices.vertex c.index.result.now None fits c.index.ensures c.in-None.is

pub enter-requires-clause-reached : goal.enter-requires-clause-reached
enter-requires-clause-reached c u i h =
    let graph = rows c.args.graph.now.successors.items in
    let walk = c.vertices.walk in
    absurd (none_open graph walk.places.items walk.open.items walk.pending.items (rows walk.groups.items)
    (subst (λ b. IsWalk graph walk.places.items walk.open.items walk.pending.items b (rows walk.groups.items)) c.vertices.invariant.no_block c.vertices.invariant.walk) i u h)

pub steps-init : goal.steps-init
steps-init c = record {
  walk = c.in_ok-enter.ensures.walk;
  here = c.in_ok-enter.ensures.seen;
  seen = λ v lt. let s = c.vertices.invariant.seen v lt in (s.0, c.in_ok-enter.ensures.kept v s.0 s.1);
}

pub steps-preserved : goal.steps-preserved
steps-preserved c = record {
  walk = c.in_ok-step.ensures.walk;
  here = let h = c.steps.invariant.here in (h.0, c.in_ok-step.ensures.kept c.vertices.vertex h.0 h.1);
  seen = λ v lt. let s = c.steps.invariant.seen v lt in (s.0, c.in_ok-step.ensures.kept v s.0 s.1);
}

pub vertices-preserved : goal.vertices-preserved
vertices-preserved c = record {
  walk = c.steps.invariant.walk;
  no_block = no_elements _ (omega (arith, eqb→eq (vec_len c.steps.walk.blocks) 0 (T_from_true _ (sym c.steps-test.ensures)), c.steps.walk.blocks.ok.0));
  seen = below_more _ _ c.steps.invariant.seen c.steps.invariant.here;
}

pub returns : goal.returns
returns c =
    let graph = rows c.args.graph.now.successors.items in
    let walk = c.vertices.walk in
    let size = length-map c.args.graph.now.successors.items (λ v. v.items) in
    finished graph walk.places.items walk.open.items walk.pending.items (rows walk.groups.items)
    (subst (λ b. IsWalk graph walk.places.items walk.open.items walk.pending.items b (rows walk.groups.items)) c.vertices.invariant.no_block c.vertices.invariant.walk)
    (λ v lt. c.vertices.invariant.seen v (omega (arith, lt, c.vertices-test.false, c.len-count.ensures, c.args.graph.now.successors.ok.0, size, c.vertices.auto.vertex-end)))

pub vertices-preserved-in-Some : goal.vertices-preserved-in-Some
vertices-preserved-in-Some c =
    let walk = c.vertices.walk in
    let size = length-map c.args.graph.now.successors.items (λ v. v.items) in
    let fits : c.vertices.vertex < length walk.places.items = omega (arith, c.vertices-test.true, c.len-count.ensures, c.args.graph.now.successors.ok.0, size, c.vertices.invariant.walk.sized) in
    record {
      walk = c.vertices.invariant.walk;
      no_block = c.vertices.invariant.no_block;
      seen = below_more _ _ c.vertices.invariant.seen (c.in-Some.field-0, read_at walk.places.items c.vertices.vertex c.index.result.now (Some c.in-Some.field-0) fits c.index.ensures c.in-Some.is);
    }
