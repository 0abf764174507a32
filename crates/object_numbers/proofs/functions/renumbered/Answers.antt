use Rattle.std.proofs.Common.{map}
use Rattle.object_numbers.specs.NumberedObjects.{parts}
use Rattle.object_numbers.proofs.Turned.{one_back, seen_after}
use Rattle.object_numbers.proofs.functions.renumbered.Goals as goal

pub turned-preserved : goal.turned-preserved
turned-preserved c =
    one_back _ (map parts c.turned.done.items) (map parts c.push.new.self.items) (map parts c.turned.turned.items) (map parts c.pop.new.self.items) (parts c.in-Some.function) c.turned.invariant
    (seen_after parts c.turned.turned.items c.pop.new.self.items c.in-Some.function c.in-Some.ensures.items)
    (seen_after parts c.push.new.self.items c.turned.done.items c.in-Some.function c.in_ok-push.ensures.items)
