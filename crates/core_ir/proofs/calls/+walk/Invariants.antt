use Rattle.std.proofs.Common.{◌≡◌, ◌++◌, drop}
use Rattle.core_ir.specs.Calls.{calls_in_all}
use Rattle.core_ir.proofs.calls.+walk.Given as goal

abbrev pub invariant-push_all_calls-loop-part : goal.invariant-push_all_calls-loop-part
invariant-push_all_calls-loop-part l = l.calls.items ++ calls_in_all (drop l.part-index l.parts) ≡ l.initial.calls.items ++ calls_in_all l.parts
