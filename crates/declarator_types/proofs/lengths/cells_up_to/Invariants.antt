use Rattle.std.proofs.Common.{◌≡◌, ◌*◌, ◌≤◌, min, drop}
use Rattle.declarator_types.specs.Products.{product}
use Rattle.declarator_types.proofs.lengths.cells_up_to.Given as goal

abbrev pub invariant-loop-length : goal.invariant-loop-length
invariant-loop-length l = record {
  few : l.total ≤ 4097;
  counts : min (product (drop l.length-index l.lengths) * l.total) 4097 ≡ min (product l.fn.lengths * l.fn.cells) 4097;
}
