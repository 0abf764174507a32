use Rattle.core_ir.proofs.Proper.{proper_run}
use Rattle.core_ir.proofs.laws.proper_runs.Goals as goal

pub returns : goal.returns
returns c = λ joint side answers call fits proper p. proper_run joint fits side answers proper call p
