use Rattle.std.proofs.Common.{arith}
use Rattle.c_parser.proofs.MoveLemmas.{token_moves, token_unexpected, token_too_deep, token_end}
use Rattle.c_parser.proofs.machine.take_token.Goals as goal

pub returns-then-at-tokens : goal.returns-then-at-tokens
returns-then-at-tokens g c =
    token_end g.G.Grammar.rules g.G.Grammar.table g.met.G.Grammar.right c.args.tokens.now c.args.machine c.if-at-tokens.true c.args.class c.args.effect c.requires

pub returns-then-not-is_same : goal.returns-then-not-is_same
returns-then-not-is_same g c =
    token_unexpected g.G.Grammar.rules g.G.Grammar.table g.met.G.Grammar.right c.args.tokens.now c.args.machine
    c.index-tokens-at.result (omega (arith, c.if-at-tokens.false)) c.index-tokens-at.is c.class_of.result c.class_of.ensures
    c.args.class c.args.effect c.requires c.is_same.result c.is_same.ensures c.if-not-is_same.true

pub returns-in_default : goal.returns-in_default
returns-in_default g c =
    token_too_deep g.G.Grammar.rules g.G.Grammar.table g.met.G.Grammar.right c.args.tokens.now c.args.machine
    c.index-tokens-at.result (omega (arith, c.if-at-tokens.false)) c.index-tokens-at.is c.class_of.result c.class_of.ensures
    c.args.class c.args.effect c.requires c.is_same.result c.is_same.ensures c.if-not-is_same.false c.in_ok-state.field-0 c.in_ok-state.ensures c.in_default.is

pub returns : goal.returns
returns g c = record {
  within = omega (arith, c.if-at-tokens.false);
  stands =
      rw c.in_ok-push.ensures.items
      (token_moves g.G.Grammar.rules g.G.Grammar.table g.met.G.Grammar.right c.args.tokens.now c.args.machine
      c.index-tokens-at.result (omega (arith, c.if-at-tokens.false)) c.index-tokens-at.is c.class_of.result c.class_of.ensures
      c.args.class c.args.effect c.requires c.is_same.result c.is_same.ensures c.if-not-is_same.false c.in_ok-state.field-0 c.in-Some.state c.in_ok-state.ensures c.in-Some.is);
}
