use Rattle.object_numbers.proofs.Turned.{one_back}
use Rattle.object_numbers.proofs.locals.renumbered_locals.Goals as goal

pub turned-preserved : goal.turned-preserved
turned-preserved c = one_back _ c.turned.done.items c.push.new.self.items c.turned.turned.items c.pop.new.self.items c.in-Some.local c.turned.invariant c.in-Some.ensures.items c.in_ok-push.ensures.items
