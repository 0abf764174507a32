use Rattle.std.proofs.Common.{◌≡◌, drop}
use Rattle.c_meaning.specs.Runs.{with_arguments}
use Rattle.c_places.proofs.calls.put_arguments.Given as goal

abbrev pub invariant-loop-local : goal.invariant-loop-local
invariant-loop-local l = with_arguments l.layouts (drop l.local-index l.params) l.left l.store.items ≡ with_arguments l.layouts l.params l.arguments l.initial.store.items
