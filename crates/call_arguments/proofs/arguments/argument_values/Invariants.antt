use Rattle.call_arguments.proofs.ArgumentLemmas.{Goes}
use Rattle.call_arguments.proofs.arguments.argument_values.Given as goal

abbrev pub invariant-loop-i : goal.invariant-loop-i
invariant-loop-i l = Goes l.program l.params l.words l.i l.values.items
