use Rattle.statement_elaboration.proofs.Extensions.{left_again}
use Rattle.statement_elaboration.proofs.blocks.leave.Goals as goal

pub returns : goal.returns
returns c = λ outer extends at. rw (c.leave.ensures, at) (left_again outer c.args.environment.now extends)
