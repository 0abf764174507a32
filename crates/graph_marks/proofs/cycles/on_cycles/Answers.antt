use Rattle.std.proofs.Common.{◌≡◌, ◌⊎◌, ◌↔◌, ℕ, ◌<◌, true, false, List, Bool, Vec, length, replicate, get_or, sym, ap, ◌∙◌, subst, arith}
use Rattle.std.proofs.lemmas.List.{length-map, length-replicate}
use Rattle.std.specs.Global.{Global}
use Rattle.call_graph.proofs.Lists.{row_at}
use Rattle.call_graph.specs.Components.{AreComponents}
use Rattle.call_graph.specs.Graphs.{At, rows}
use Rattle.graph_marks.proofs.Rounds.{GoesRound, IsFlagged, none_flagged, none_before, group_flagged, cycle_flagged, flagged_cycle}
use Rattle.graph_marks.specs.Marks.{Stands}
use Rattle.graph_marks.proofs.cycles.on_cycles.Goals as goal

-- the number of rows
sized : (vectors : List (Vec ℕ Global)) → length (rows vectors) ≡ length vectors
sized vectors = length-map vectors (λ (w : Vec ℕ Global). w.items)

-- the group that is looked at
this_group : (items : List (Vec ℕ Global)) (k : ℕ) (v : Vec ℕ Global) → k < length items → v ≡ get_or items k v → At (rows items) k v.items
this_group items k v lt e = row_at items k v (omega (arith, lt, sized items)) e

pub groups-init : goal.groups-init
groups-init c =
    let is : c.in-Ok.flags.items ≡ replicate c.len.result false = c.in-Ok.ensures.items_if_clones_equal (λ y h. h) in
    let long : c.len.result ≡ length c.args.graph.now.successors.items = omega (arith, c.len.ensures, c.args.graph.now.successors.ok.0) in (
      ap length is ∙ (length-replicate c.len.result false ∙ long),
      λ v. (
        λ h. absurd (none_flagged c.len.result v (subst (λ (l : List Bool). At l v true) is h)),
        λ f. absurd (none_before (rows c.args.graph.now.successors.items) (rows c.deref-group-items.result.now) v f),
      ),
    )

pub flag_cycle-requires-clause-group : goal.flag_cycle-requires-clause-group
flag_cycle-requires-clause-group c v s =
    let graph = rows c.args.graph.now.successors.items in
    let components : AreComponents graph (rows c.deref-group-items.result.now) = subst (λ (l : List (Vec ℕ Global)). AreComponents graph (rows l)) (sym c.deref-group-items.ensures.value) c.in_ok-groups.ensures in
    let here = this_group c.deref-group-items.result.now c.groups.group-index c.group-item.result c.groups-test.true c.group-item.is in
    let stands = subst (λ (l : List ℕ). At l s.0 v) c.as_slice.ensures.value s.1 in
    omega (arith, components.within v c.groups.group-index (s.0, record { group = c.group-item.result.items; is_there = here; stands = stands }), sized c.args.graph.now.successors.items)

pub groups-preserved : goal.groups-preserved
groups-preserved c =
    let graph = rows c.args.graph.now.successors.items in
    let groups = rows c.deref-group-items.result.now in
    let here = this_group c.deref-group-items.result.now c.groups.group-index c.group-item.result c.groups-test.true c.group-item.is in
    let step : (v : ℕ) → At c.flag_cycle.new.flags.items v true ↔ (At c.groups.flags.items v true ⊎ (Stands c.group-item.result.items v × GoesRound graph c.group-item.result.items v)) =
    subst (λ (l : List ℕ). (v : ℕ) → At c.flag_cycle.new.flags.items v true ↔ (At c.groups.flags.items v true ⊎ (Stands l v × GoesRound graph l v))) c.as_slice.ensures.value c.flag_cycle.ensures.flags in
    (c.flag_cycle.ensures.length ∙ c.groups.invariant.0, group_flagged graph groups c.groups.group-index c.group-item.result.items c.groups.flags.items c.flag_cycle.new.flags.items here c.groups.invariant.1 step)

pub returns-clause-cycles : goal.returns-clause-cycles
returns-clause-cycles c v =
    let graph = rows c.args.graph.now.successors.items in
    let groups = rows c.deref-group-items.result.now in
    let components : AreComponents graph groups = subst (λ (l : List (Vec ℕ Global)). AreComponents graph (rows l)) (sym c.deref-group-items.ensures.value) c.in_ok-groups.ensures in
    let end : c.groups.group-index ≡ length groups = omega (arith, c.groups-test.false, c.groups.auto.group-index-end, sized c.deref-group-items.result.now) in (
      λ h. cycle_flagged graph groups components v (subst (λ n. IsFlagged graph groups n v) end ((c.groups.invariant.1 v).0 h)),
      λ o. (c.groups.invariant.1 v).1 (subst (λ n. IsFlagged graph groups n v) (sym end) (flagged_cycle graph groups components c.requires.graph v o)),
    )
