use Rattle.std.proofs.Common.{◌≡◌, map, take}
use Rattle.call_cycles.proofs.cycles.functions_called.Given as goal

abbrev pub invariant-calls : goal.invariant-calls
invariant-calls l = l.called.items ≡ map (λ call. call.function) (take l.call-index l.calls)
