use Rattle.c_parser.specs.Stands.{StandsAt}
use Rattle.c_parser.proofs.machine.parse.Given as goal

abbrev pub invariant-loop : goal.invariant-loop
invariant-loop g l = StandsAt g.G.Grammar.rules g.G.Grammar.table l.tokens l.machine
