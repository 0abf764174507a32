use Rattle.std.proofs.Common.{◌≤◌}
use Rattle.c_syntax.specs.declared.declarations.Values.{size-Values}
use Rattle.c_syntax.proofs.declarations.Values.+initializer.Given as goal

-- what is left to drop is no deeper than the whole
abbrev pub invariant-loop-self : goal.invariant-loop-self
invariant-loop-self l = size-Values l.self ≤ size-Values l.initial.self
