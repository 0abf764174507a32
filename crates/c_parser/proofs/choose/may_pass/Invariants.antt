use Rattle.std.proofs.Common.{◌≡◌, length}
use Rattle.c_parser.specs.LookAhead.{may_pass}
use Rattle.c_parser.proofs.choose.may_pass.Given as goal

abbrev pub invariant-loop-row : goal.invariant-loop-row
invariant-loop-row g l = may_pass g.G.Grammar.rules g.G.Grammar.table l.row l.class ≡ may_pass g.G.Grammar.rules g.G.Grammar.table l.initial.row l.class

abbrev pub decreases-loop-row : goal.decreases-loop-row
decreases-loop-row g l = length l.row
