use Rattle.std.proofs.Common.{◌≡◌, map, length}
use Rattle.c_parser.specs.LookAhead.{may_be_empty, first_row}
use Rattle.c_parser.proofs.choose.choose_at_end.Given as goal

abbrev pub invariant-loop-rows : goal.invariant-loop-rows
invariant-loop-rows g l = first_row (λ row. may_be_empty g.G.Grammar.rules g.G.Grammar.table row) (map (λ r. r.now) l.rows) ≡ first_row (λ row. may_be_empty g.G.Grammar.rules g.G.Grammar.table row) (g.G.Grammar.rules.lines l.fn.line)

abbrev pub decreases-loop-rows : goal.decreases-loop-rows
decreases-loop-rows g l = length l.rows
