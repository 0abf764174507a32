use Rattle.std.proofs.Common.{[], ◌∷◌, ◌++◌, ap, ◌∙◌}
use Rattle.object_numbers.specs.NumberedObjects.{local_renumbered}
use Rattle.object_numbers.proofs.Turned.{one_turned}
use Rattle.object_numbers.proofs.locals.turned_locals.Goals as goal

pub rest-preserved : goal.rest-preserved
rest-preserved c =
    one_turned (local_renumbered c.args.numbers.now) _ c.rest.rest c.pop.new.self c.rest.done.items c.push.new.self.items c.in-Some.local c.rest.invariant c.in-Some.ensures
    (c.in_ok-push.ensures.items ∙ ap (λ one. c.rest.done.items ++ (one ∷ [])) c.renumbered_local.ensures)
