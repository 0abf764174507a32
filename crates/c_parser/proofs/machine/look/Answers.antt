use Rattle.c_parser.proofs.MoveLemmas.{next_unexpected, next_passes, next_passes_end}
use Rattle.c_parser.proofs.machine.look.Goals as goal
use Rattle.c_parser.proofs.machine.look.Goals.{else-at-tokens-via-then-at-tokens+else-is_same, else-at-tokens-via-else-at-tokens}

pub returns-then-is_same : goal.returns-then-is_same
returns-then-is_same g c =
    next_unexpected g.G.Grammar.rules g.G.Grammar.table g.met.G.Grammar.right c.args.tokens.now c.args.machine
    c.index-tokens-at.result c.if-at-tokens.true c.index-tokens-at.is c.class_of.result c.class_of.ensures
    c.args.class c.requires c.is_same.result c.is_same.ensures c.if-is_same.true

pub returns : goal.returns
returns g c = record {
  within = c.requires.within;
  stands =
      elim c.else-at-tokens.branch [
        | else-at-tokens-via-then-at-tokens+else-is_same w ↦
            next_passes g.G.Grammar.rules g.G.Grammar.table g.met.G.Grammar.right c.args.tokens.now c.args.machine
            w.index-tokens-at.result w.if-at-tokens.true w.index-tokens-at.is w.class_of.result w.class_of.ensures
            c.args.class c.requires w.is_same.result w.is_same.ensures w.if-is_same.false
        | else-at-tokens-via-else-at-tokens w ↦
            next_passes_end g.G.Grammar.rules g.G.Grammar.table g.met.G.Grammar.right c.args.tokens.now c.args.machine w.if-at-tokens.false c.args.class c.requires
      ];
}
