use Rattle.std.proofs.Common.{◌≡◌, length}
use Rattle.c_parser.specs.LookAhead.{may_be_empty}
use Rattle.c_parser.proofs.choose.may_be_empty.Given as goal

abbrev pub invariant-loop-row : goal.invariant-loop-row
invariant-loop-row g l = may_be_empty g.G.Grammar.rules g.G.Grammar.table l.row ≡ may_be_empty g.G.Grammar.rules g.G.Grammar.table l.initial.row

abbrev pub decreases-loop-row : goal.decreases-loop-row
decreases-loop-row g l = length l.row
