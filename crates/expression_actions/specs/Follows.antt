-- What was answered is what a rule says: the new values, or that one is missing.
use Rattle.std.specs.Prelude.{◌≡◌, Option, Some, None, Result, Ok, Err}
use Rattle.expression_actions.specs.declared.faults.Fault.{Fault}
use Rattle.expression_actions.specs.declared.faults.Fault.TheVariants as F

abbrev pub Follows : {T Values : Type 0} → Result T Fault → Values → Option Values → Type 0
Follows (Ok done) new rule = rule ≡ Some new
Follows (Err F.Missing) new rule = rule ≡ None
Follows (Err F.Memory) new rule = Unit {0}
