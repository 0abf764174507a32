use Rattle.std.proofs.Common.{[], ◌∷◌, ◌++◌, map, ap, ◌∙◌}
use Rattle.object_numbers.specs.NumberedObjects.{parts, renumbered}
use Rattle.object_numbers.proofs.Turned.{one_turned, seen_after}
use Rattle.object_numbers.proofs.functions.turned_functions.Goals as goal

pub rest-preserved : goal.rest-preserved
rest-preserved c =
    one_turned (λ one. renumbered c.args.numbers.now (parts one)) _ c.rest.rest c.pop.new.self (map parts c.rest.done.items) (map parts c.push.new.self.items) c.in-Some.function c.rest.invariant c.in-Some.ensures
    (seen_after parts c.push.new.self.items c.rest.done.items _ c.in_ok-push.ensures.items ∙ ap (λ one. map parts c.rest.done.items ++ (one ∷ [])) c.in_ok-renumbered_function.ensures)
