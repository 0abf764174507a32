use Rattle.std.proofs.Common.{◌∙◌}
use Rattle.touch_sets.proofs.NodeFlags.{effects_with}
use Rattle.touch_sets.proofs.touching.touched_by.Goals as goal

pub returns : goal.returns
returns c =
    let pairs = c.in-Ok.ensures.items ∙ c.as_slice.ensures in
    record {
      pairs = pairs;
      effects = effects_with c.args.core.now c.in-Ok.pairs.items c.in_ok-old.old c.in_ok-new_side.new_side pairs c.in_ok-old.ensures c.in_ok-new_side.ensures;
    }
