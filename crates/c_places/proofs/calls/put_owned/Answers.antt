use Rattle.std.proofs.Common.{◌≡◌, length, refl, arith}
use Rattle.c_places.proofs.CallEffects.{put_owned_is}
use Rattle.c_places.proofs.calls.put_owned.Goals as goal

pub returns-then-fit : goal.returns-then-fit
returns-then-fit c =
    let long : c.len.result ≡ length c.args.store.now.items = omega (arith, c.len.ensures, c.args.store.now.ok.0) in
    put_owned_is c.args.layouts.now c.args.number c.owned-owned.result.now c.owned-owned.ensures c.args.cells.now c.args.store.now.items c.overwrite_ranges.new.store.items
    (length c.args.cells.now) c.len.result refl long c.if-fit.ensures c.in_ok-overwrite_ranges.ensures
