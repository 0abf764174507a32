use Rattle.elaboration_laws.proofs.Lists.{declarators_break, broken_declarators}
use Rattle.elaboration_laws.proofs.laws.first_declarator.Goals as goal

pub returns : goal.returns
returns c = λ block base inits notes cause at. (declarators_break cause at base inits block notes, broken_declarators cause at base inits block notes)
