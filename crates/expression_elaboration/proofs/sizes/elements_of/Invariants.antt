use Rattle.std.proofs.Common.{length, ◌≡◌, ◌≤◌, ◌*◌, option_map}
use Rattle.expression_elaboration.specs.Extents.{capped, elements_of}
use Rattle.expression_elaboration.proofs.sizes.elements_of.Given as goal

abbrev pub invariant-lengths : goal.invariant-lengths
invariant-lengths l = record {
  bound : l.elements ≤ 4294967295;
  so_far : option_map (λ n. capped (l.elements * n)) (elements_of l.left) ≡ option_map capped (elements_of l.fn.lengths);
}

abbrev pub decreases-lengths : goal.decreases-lengths
decreases-lengths l = length l.left
