use Rattle.std.proofs.Common.{◌≡◌, map, length}
use Rattle.c_parser.specs.LookAhead.{may_go_on, first_row}
use Rattle.c_parser.proofs.choose.choose.Given as goal

abbrev pub invariant-loop-rows : goal.invariant-loop-rows
invariant-loop-rows g l = first_row (λ row. may_go_on g.G.Grammar.rules g.G.Grammar.table l.fn.line row l.fn.class) (map (λ r. r.now) l.rows) ≡ first_row (λ row. may_go_on g.G.Grammar.rules g.G.Grammar.table l.fn.line row l.fn.class) (g.G.Grammar.rules.lines l.fn.line)

abbrev pub decreases-loop-rows : goal.decreases-loop-rows
decreases-loop-rows g l = length l.rows
