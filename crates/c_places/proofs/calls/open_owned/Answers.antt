use Rattle.std.proofs.Common.{◌∙◌}
use Rattle.c_places.proofs.CallEffects.{opened_are}
use Rattle.c_places.proofs.calls.open_owned.Goals as goal

pub returns : goal.returns
returns c =
    c.clear_ranges.ensures ∙ opened_are c.args.layouts.now c.args.number c.owned-owned.result.now c.owned-owned.ensures c.args.store.now
