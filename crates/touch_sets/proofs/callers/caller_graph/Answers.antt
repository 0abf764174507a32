use Rattle.std.proofs.Common.{◌≡◌, ◌⊎◌, ◌↔◌, ℕ, ◌<◌, List, Vec, length, ◌∙◌, subst, arith}
use Rattle.std.proofs.lemmas.List.{length-map}
use Rattle.std.specs.Global.{Global}
use Rattle.call_graph.specs.Graphs.{Edge, rows}
use Rattle.core_ir.specs.Calls.{Among, unit_calls}
use Rattle.touch_sets.proofs.CallerEdges.{unit_pushed, are_callers}
use Rattle.touch_sets.proofs.callers.caller_graph.Goals as goal

pub units-init : goal.units-init
units-init c = (
  c.in_ok-successors.ensures.length ∙ c.len-count.ensures,
  λ v u. (
    λ e. absurd (c.in_ok-successors.ensures.edges v u e),
    λ w. absurd (let lt = w.0 in omega (arith, lt)),
  ),
)

pub units-preserved : goal.units-preserved
units-preserved c =
    let core = c.args.core.now in
    let i = c.units.unit in
    let now = rows c.units.successors.items in
    let after = rows c.push_caller.new.successors.items in (
      c.in_ok-push_caller.ensures.length ∙ c.units.invariant.0,
      λ v u.
          let by_calls : Edge after v u ↔ (Edge now v u ⊎ ((u ≡ i) × Among v (unit_calls core i) × (v < length c.units.successors.items))) = subst (λ (l : List ℕ). Edge after v u ↔ (Edge now v u ⊎ ((u ≡ i) × Among v l × (v < length c.units.successors.items)))) (c.as_slice.ensures.value ∙ c.in-Ok.ensures) (c.in_ok-push_caller.ensures.edges v u) in
          unit_pushed (Edge now v u) (Edge after v u) (unit_calls core) i (length core.units) v u (c.units.invariant.1 v u) (subst (λ (n : ℕ). Edge after v u ↔ (Edge now v u ⊎ ((u ≡ i) × Among v (unit_calls core i) × (v < n)))) c.units.invariant.0 by_calls),
    )

pub returns-clause-callers : goal.returns-clause-callers
returns-clause-callers c =
    let core = c.args.core.now in
    let graph = rows c.units.successors.items in
    let end : c.units.unit ≡ length core.units = omega (arith, c.units-test.false, c.units.auto.unit-end, c.len-count.ensures) in
    are_callers core graph (length-map c.units.successors.items (λ (w : Vec ℕ Global). w.items) ∙ c.units.invariant.0) (subst (λ (n : ℕ). (v u : ℕ) → Edge graph v u ↔ ((u < n) × (v < length core.units) × Among v (unit_calls core u))) end c.units.invariant.1)
