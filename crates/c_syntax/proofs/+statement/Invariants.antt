use Rattle.std.proofs.Common.{◌≤◌}
use Rattle.c_syntax.specs.declared.statements.Parts.{size-Parts}
use Rattle.c_syntax.specs.declared.statements.Groups.{size-Groups}
use Rattle.c_syntax.proofs.+statement.Given as goal

-- what is left to drop is no deeper than the whole
abbrev pub invariant-statements::Parts::drop-loop-self : goal.invariant-statements::Parts::drop-loop-self
invariant-statements::Parts::drop-loop-self l = size-Parts l.self ≤ size-Parts l.initial.self

abbrev pub invariant-statements::Groups::drop-loop-self : goal.invariant-statements::Groups::drop-loop-self
invariant-statements::Groups::drop-loop-self l = size-Groups l.self ≤ size-Groups l.initial.self
