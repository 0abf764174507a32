use Rattle.std.proofs.Common.{subst, sym}
use Rattle.statement_elaboration.specs.Views.{Extends}
use Rattle.file_items.proofs.Extensions.{extends_same}
use Rattle.file_items.proofs.bodies.typed_body.Goals as goal

pub returns-in_ok-body-in-None-clause-declared : goal.returns-in_ok-body-in-None-clause-declared
returns-in_ok-body-in-None-clause-declared c =
    subst (λ environment. Extends c.args.environment.now environment) (sym c.in_ok-body-in-None.ensures.same) (extends_same c.args.environment.now)
