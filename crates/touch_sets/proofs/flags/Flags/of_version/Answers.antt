use Rattle.std.proofs.Common.{true, not}
use Rattle.std.specs.Prelude.{slice_index_or}
use Rattle.touch_sets.proofs.Places.{not_true}
use Rattle.std.proofs.Common.{ap}
use Rattle.touch_sets.proofs.flags.Flags.of_version.Goals as goal

pub returns : goal.returns
returns c =
    let endless = c.in_ok-endless.endless.items in
    record {
      touched = c.in_ok-touched.ensures;
      may_trap = c.in_ok-traps.ensures;
      always_ends = λ u. let ends = c.in_ok-endless.ensures u in (λ h. ends.0 (not_true (slice_index_or endless u true) h), λ a. ap not (ends.1 a));
    }
