use Rattle.std.proofs.Common.{arith}
use Rattle.core_ir.specs.Meaning.{steps}
use Rattle.core_ir.proofs.laws.ends_within_steps.Goals as goal

pub returns : goal.returns
returns c = λ core call e. (λ h. (steps core h.depth call, record { depth = h.depth; ends = h.ends; bound = omega arith }), λ h. record { depth = h.1.depth; ends = h.1.ends })
