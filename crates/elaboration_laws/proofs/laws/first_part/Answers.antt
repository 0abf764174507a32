use Rattle.elaboration_laws.proofs.Lists.{parts_break, broken_parts}
use Rattle.elaboration_laws.proofs.laws.first_part.Goals as goal

pub returns : goal.returns
returns c = λ block parts notes cause at. (parts_break cause at parts block notes, broken_parts cause at parts block notes)
