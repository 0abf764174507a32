use Rattle.std.proofs.Common.{◌≡◌, take}
use Rattle.uf_abstraction.specs.Applying.{fresh_values}
use Rattle.uf_abstraction.proofs.fresh.make_values.Given as goal

abbrev pub invariant-shapes : goal.invariant-shapes
invariant-shapes l = fresh_values l.initial.circuit (take l.shape-index l.shapes) ≡ record { nodes = l.circuit; values = l.values.items }
