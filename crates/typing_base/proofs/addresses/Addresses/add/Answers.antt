use Rattle.std.proofs.Common.{◌∙◌}
use Rattle.typing_base.proofs.Noted.{marked}
use Rattle.typing_base.proofs.addresses.Addresses.add.Goals as goal

pub invariant_of-self-in-Local : goal.invariant_of-self-in-Local
invariant_of-self-in-Local c = λ number. marked c.make_room.new.flags.items c.self.inside.list.items c.args.taken c.in-Local.number number c.in_ok-make_room-in-Local.ensures.room (c.make_room.ensures.same number ∙ c.self.invariant number) _ c.in_ok-push-in-Local.ensures.items c.in-Local.is
