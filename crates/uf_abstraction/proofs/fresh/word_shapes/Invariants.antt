use Rattle.std.proofs.Common.{◌≡◌, take}
use Rattle.std.specs.Prelude.{map}
use Rattle.core_ir.specs.declared.units.Shape.TheVariants.{Word}
use Rattle.uf_abstraction.proofs.fresh.word_shapes.Given as goal

abbrev pub invariant-kinds : goal.invariant-kinds
invariant-kinds l = l.shapes.items ≡ map Word (take l.kind-index l.kinds)
