use Rattle.std.proofs.Common.{ℕ, List, ◌++◌, ap, ◌∙◌}
use Rattle.core_ir.specs.Nodes.{node_objects, node_types}
use Rattle.core_ir.specs.declared.units.Shape.{Shape}
use Rattle.touch_sets.proofs.Collected.{objects_collected, types_collected}
use Rattle.touch_sets.specs.Bodies.{collected}
use Rattle.touch_sets.proofs.bodies.named_by.Goals as goal

pub returns-clause-objects : goal.returns-clause-objects
returns-clause-objects c =
    let unit = c.args.unit.now in
    c.in_ok-note.ensures.objects
    ∙ ap (λ (l : List ℕ). l ++ collected node_objects unit.body) c.new.ensures.items
    ∙ objects_collected unit.body

pub returns-clause-types : goal.returns-clause-types
returns-clause-types c =
    let unit = c.args.unit.now in
    c.in_ok-note.ensures.types
    ∙ ap (λ (l : List Shape). c.new-2.result.items ++ collected (node_types l) unit.body) c.as_slice.ensures
    ∙ ap (λ (l : List ℕ). l ++ collected (node_types unit.registers) unit.body) c.new-2.ensures.items
    ∙ types_collected unit.registers unit.body
