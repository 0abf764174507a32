use Rattle.std.proofs.Common.{◌∙◌, sym}
use Rattle.expression_elaboration.proofs.Caps.{elements_after, capped_bound}
use Rattle.expression_elaboration.proofs.sizes.elements_of.Goals as goal

pub lengths-preserved : goal.lengths-preserved
lengths-preserved c = rw c.times-elements.ensures (record {
  bound = capped_bound _;
  so_far = sym (elements_after c.lengths.left.now c.in-len1-up.len_at_least c.length_of.result c.length_of.ensures c.in-Some.length c.in-Some.is c.lengths.elements)
      ∙ c.lengths.invariant.so_far;
})
