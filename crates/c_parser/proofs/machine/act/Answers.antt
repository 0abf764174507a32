use Rattle.std.proofs.Common.{drop}
use Rattle.c_parser.proofs.Steps.{stands_make}
use Rattle.c_parser.proofs.machine.act.Goals as goal

pub returns : goal.returns
returns g c = record {
  within = c.requires.within;
  stands =
      rw c.in_ok-push.ensures.items
      (stands_make g.G.Grammar.rules g.G.Grammar.table g.met.G.Grammar.right c.args.tokens.now c.args.machine.state c.args.machine.steps.items c.args.machine.row c.args.action
      (drop c.args.machine.at c.args.tokens.now) c.requires.stands);
}
