use Rattle.std.proofs.Common.{◌≡◌, drop}
use Rattle.std.specs.List.{find}
use Rattle.call_cycles.proofs.MissingCalls.{lacks_body, all_calls}
use Rattle.call_cycles.proofs.bodies.missing_body.Given as goal

abbrev pub invariant-functions : goal.invariant-functions
invariant-functions l = find (lacks_body l.functions) (all_calls (drop l.function-index l.functions)) ≡ find (lacks_body l.functions) (all_calls l.functions)
