use Rattle.std.proofs.Common.{◌≡◌, ◌<◌, ◌+◌, ◌++◌, List, map, drop, length, get_or, sym, ap, ◌∙◌, subst, arith}
use Rattle.call_graph.specs.Graphs.{At}
use Rattle.core_ir.specs.declared.units.Unit.{Unit}
use Rattle.touch_sets.proofs.Places.{pushed_map, at_read}
use Rattle.touch_sets.specs.Bodies.{unit_objects, unit_types, names_of, types_of}
use Rattle.touch_sets.specs.declared.bodies.Named.{Named}
use Rattle.touch_sets.proofs.bodies.all_named.Goals as goal

pub units-preserved : goal.units-preserved
units-preserved c =
    let units = c.args.core.now.units in
    let before = c.units.all.items in
    let i = c.units.unit-index in
    let unit = c.unit-item.result in
    let named = c.in_ok-named.named in
    let lt : i < length units = omega (arith, c.units-test.true, ap length c.as_slice-unit-items.ensures) in
    let is : unit ≡ get_or units i unit = c.unit-item.is ∙ ap (λ (l : List Unit). get_or l i unit) c.as_slice-unit-items.ensures in
    let at : At units i unit = subst (λ (x : Unit). At units i x) (sym is) (at_read units i unit lt) in (
      ap (λ (l : List Named). map names_of l ++ map unit_objects (drop (i + 1) units)) c.in-Ok.ensures.items ∙ pushed_map names_of unit_objects before named units i unit c.units.invariant.0 at c.in_ok-named.ensures.objects,
      ap (λ (l : List Named). map types_of l ++ map unit_types (drop (i + 1) units)) c.in-Ok.ensures.items ∙ pushed_map types_of unit_types before named units i unit c.units.invariant.1 at c.in_ok-named.ensures.types,
    )
