use Rattle.std.proofs.Common.{arith}
use Rattle.c_parser.proofs.MoveLemmas.{line_moves, line_unexpected, line_end, line_end_moves}
use Rattle.c_parser.proofs.machine.expand.Goals as goal

pub returns-in_default : goal.returns-in_default
returns-in_default g c =
    line_end g.G.Grammar.rules g.G.Grammar.table g.met.G.Grammar.right c.args.tokens.now c.args.machine c.if-at-tokens.true c.args.line c.requires c.in_default.ensures

pub returns-in_default-choose : goal.returns-in_default-choose
returns-in_default-choose g c =
    line_unexpected g.G.Grammar.rules g.G.Grammar.table g.met.G.Grammar.right c.args.tokens.now c.args.machine
    c.index-tokens-at.result (omega (arith, c.if-at-tokens.false)) c.index-tokens-at.is c.class_of.result c.class_of.ensures
    c.args.line c.requires c.in_default-choose.ensures

pub returns-then-at-tokens : goal.returns-then-at-tokens
returns-then-at-tokens g c =
    rw c.in_ok-push_row.ensures (record {
      within = c.requires.within;
      stands =
          line_end_moves g.G.Grammar.rules g.G.Grammar.table g.met.G.Grammar.right c.args.tokens.now c.args.machine c.if-at-tokens.true
          c.args.line c.in-Some.chosen.now c.requires c.in-Some.ensures;
    })

pub returns : goal.returns
returns g c =
    rw c.in_ok-push_row-2.ensures (record {
      within = c.requires.within;
      stands =
          line_moves g.G.Grammar.rules g.G.Grammar.table g.met.G.Grammar.right c.args.tokens.now c.args.machine
          c.index-tokens-at.result (omega (arith, c.if-at-tokens.false)) c.index-tokens-at.is c.class_of.result c.class_of.ensures
          c.args.line c.in-Some-choose.chosen.now c.requires c.in-Some-choose.ensures;
    })
