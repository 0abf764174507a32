use Rattle.std.proofs.Common.{ap}
use Rattle.c_syntax.specs.Views as s
use Rattle.statement_elaboration.proofs.Headers.{start_declared}
use Rattle.statement_elaboration.proofs.acts.typed_start.Goals as goal

pub returns-in_ok-statements-in-Local-clause-typed : goal.returns-in_ok-statements-in-Local-clause-typed
returns-in_ok-statements-in-Local-clause-typed c =
    rw c.in_ok-statements-in-Local.ensures
    (start_declared _ _ _ _ c.in_ok-made-in-Local.made.items _ _ (ap s.start_view c.in-Local.is) c.in_ok-made-in-Local.ensures.typed)
