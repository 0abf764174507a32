use Rattle.std.proofs.Common.{◌∙◌}
use Rattle.c_places.proofs.CallEffects.{kept_are}
use Rattle.c_places.proofs.calls.owned_copy.Goals as goal

pub returns : goal.returns
returns c =
    c.in_ok-cells.ensures ∙ kept_are c.args.layouts.now c.args.number c.owned-owned.result.now c.owned-owned.ensures c.args.store.now
