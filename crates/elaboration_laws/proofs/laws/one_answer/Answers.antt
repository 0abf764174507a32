use Rattle.file_typing.proofs.OneAnswer.{holds}
use Rattle.elaboration_laws.proofs.laws.one_answer.Goals as goal

pub returns : goal.returns
returns c = holds
