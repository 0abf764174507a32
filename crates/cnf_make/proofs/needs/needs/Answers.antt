use Rattle.std.proofs.Common.{rules, ◌≡◌, ◌<◌, ◌-◌, true, false, length, None, sym, ap, ◌∙◌, arith}
use Rattle.std.proofs.lemmas.List.{length-replicate, get_or_default}
use Rattle.cnf_make.specs.Needed.{is_marked, marked, spread_below}
use Rattle.cnf_make.proofs.Marks.{down_begun, down_node, marked_length}
use Rattle.cnf_make.proofs.needs.needs.Goals as goal

pub down-init : goal.down-init
down-init c =
    let count = c.nodes-node.ensures.count in
    let first = c.in-Ok.ensures.items_if_clones_equal (λ y h. h) in
    record {
      marks = down_begun c.args.circuit.now c.args.bad c.nodes-node.result _ _ count first c.mark.ensures;
      size = ap length c.mark.ensures ∙ marked_length _ _ c.args.bad ∙ ap length first ∙ length-replicate c.nodes-node.result false ∙ count;
      node = omega arith;
    }

pub down-preserved-in-Some : goal.down-preserved-in-Some
down-preserved-in-Some c =
    let positive : 0 < c.down.node = search rules in
    let below : c.down.node - 1 < length c.down.marks.items = let n = c.down.invariant.node in let s = c.down.invariant.size in omega arith in
    let read : c.index.result.now ≡ true = search rules in
    let t : is_marked c.down.marks.items (c.down.node - 1) ≡ true = get_or_default c.down.marks.items (c.down.node - 1) false c.index.result.now below ∙ sym c.index.ensures ∙ read in
    let both = c.mark-in-Some-2.ensures ∙ ap (λ ms. marked c.args.circuit.now ms c.in-Some.b) c.mark-in-Some.ensures in
    record {
      marks = ap (spread_below c.args.circuit.now (c.down.node - 1)) both ∙ down_node c.args.circuit.now c.down.marks.items c.down.node _ positive t c.in-Some.ensures.there ∙ c.down.invariant.marks;
      size = ap length both ∙ marked_length c.args.circuit.now (marked c.args.circuit.now c.down.marks.items c.in-Some.a) c.in-Some.b ∙ marked_length c.args.circuit.now c.down.marks.items c.in-Some.a ∙ c.down.invariant.size;
      node = let n = c.down.invariant.node in omega arith;
    }

pub down-preserved : goal.down-preserved
down-preserved c =
    let positive : 0 < c.down.node = search rules in
    let below : c.down.node - 1 < length c.down.marks.items = let n = c.down.invariant.node in let s = c.down.invariant.size in omega arith in
    let read : c.index.result.now ≡ true = search rules in
    let t : is_marked c.down.marks.items (c.down.node - 1) ≡ true = get_or_default c.down.marks.items (c.down.node - 1) false c.index.result.now below ∙ sym c.index.ensures ∙ read in
    record {
      marks = down_node c.args.circuit.now c.down.marks.items c.down.node None positive t c.in-None.ensures.there ∙ c.down.invariant.marks;
      size = c.down.invariant.size;
      node = let n = c.down.invariant.node in omega arith;
    }
