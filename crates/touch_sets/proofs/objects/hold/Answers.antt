use Rattle.std.proofs.Common.{◌≡◌, ◌⊎◌, ◌↔◌, Bool, true, false, get_or, set, subst}
use Rattle.touch_sets.proofs.Places.{flag_set}
use Rattle.touch_sets.proofs.objects.hold.Goals as goal

pub returns : goal.returns
returns c type =
    let flags = c.make_room.new.held.items in
    let p = c.args.pointee in
    subst (λ (b : Bool). (get_or (set flags p true) type false ≡ true) ↔ ((b ≡ true) ⊎ (type ≡ p))) (c.in_ok-make_room.ensures.kept type) (flag_set flags p type c.in_ok-make_room.ensures.room)
