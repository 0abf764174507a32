use Rattle.std.proofs.Common.{drop}
use Rattle.c_parser.proofs.Steps.{stands_turn}
use Rattle.c_parser.proofs.machine.take_turn.Goals as goal

pub returns : goal.returns
returns g c =
    rw c.in_ok-state.ensures (record {
      within = c.requires.within;
      stands = stands_turn g.G.Grammar.rules g.G.Grammar.table g.met.G.Grammar.right c.args.tokens.now c.args.machine.state c.args.machine.steps.items c.args.machine.row
          c.args.way (drop c.args.machine.at c.args.tokens.now) c.requires.stands;
    })
