use Rattle.std.proofs.Common.{◌≡◌, drop}
use Rattle.std.specs.List.{find}
use Rattle.call_cycles.proofs.MissingCalls.{lacks_body}
use Rattle.call_cycles.proofs.bodies.missing_in.Given as goal

abbrev pub invariant-calls : goal.invariant-calls
invariant-calls l = find (lacks_body l.functions) (drop l.call-index l.calls) ≡ find (lacks_body l.functions) l.calls
