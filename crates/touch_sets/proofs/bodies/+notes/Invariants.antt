use Rattle.std.proofs.Common.{◌≡◌, ◌++◌, drop}
use Rattle.core_ir.specs.Nodes.{node_objects, node_types}
use Rattle.touch_sets.specs.Bodies.{collected_all}
use Rattle.touch_sets.proofs.bodies.+notes.Given as goal

abbrev pub invariant-note_all-parts : goal.invariant-note_all-parts
invariant-note_all-parts l = (l.named.objects.items ++ collected_all node_objects (drop l.part-index l.parts) ≡ l.initial.named.objects.items ++ collected_all node_objects l.parts) × (l.named.types.items ++ collected_all (node_types l.registers) (drop l.part-index l.parts) ≡ l.initial.named.types.items ++ collected_all (node_types l.registers) l.parts)
