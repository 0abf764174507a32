use Rattle.std.proofs.Common.{refl}
use Rattle.joint_programs.proofs.laws.small_programs.Goals as goal

pub returns : goal.returns
returns c = record { constants = (refl, refl); owners = (refl, refl, refl, refl); structs = refl; arrays = refl }
