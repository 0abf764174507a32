use Rattle.file_state.proofs.Completed.{none_here}
use Rattle.file_state.proofs.structs.push_contents.Goals as goal

pub returns-in-None : goal.returns-in-None
returns-in-None c = none_here c.args.kinds.now.items c.args.structs.now c.args.number c.in-None.ensures
