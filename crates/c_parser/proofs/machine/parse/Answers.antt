use Rattle.std.proofs.Common.{drop, IfErr, subst, rules, arith}
use Rattle.c_parser.specs.declared.fault.Cause.TheVariants as cause
use Rattle.c_parser.specs.Rules.{Row}
use Rattle.c_parser.specs.File.{IsAnswered}
use Rattle.c_parser.specs.Stands.{Stands}
use Rattle.c_parser.proofs.RowLemmas.{Reads-taken}
use Rattle.c_parser.proofs.Steps.{stands_start}
use Rattle.c_parser.proofs.MoveLemmas.{refused_is_none, error_is_none, rest_unexpected, all_read}
use Rattle.c_parser.proofs.machine.parse.Goals as goal

pub loop-init : goal.loop-init
loop-init g c = record {
  within = omega arith;
  stands =
      rw c.in_ok-push.ensures (rw c.new-row.ensures (rw c.start.ensures (rw c.before_all.ensures (rw c.new.ensures.items
      (stands_start g.G.Grammar.rules g.G.Grammar.table c.args.tokens.now)))));
}

pub step-requires-after_bounds : goal.step-requires-after_bounds
step-requires-after_bounds g c = λ lives outlive. record {
  within = c.loop.invariant.within;
  stands =
      subst (λ (row : Row g.row.G-Class.Denot g.row.G-Line.Denot g.row.G-Action.Denot).
      Stands g.G.Grammar.rules g.G.Grammar.table c.args.tokens.now c.loop.machine.state row (drop c.loop.machine.at c.args.tokens.now) c.loop.machine.steps.items)
      c.in-Some.ensures c.loop.invariant.stands;
}

pub returns-in_err-machine-in-Some-clause-no_file : goal.returns-in_err-machine-in-Some-clause-no_file
returns-in_err-machine-in-Some-clause-no_file g c =
    let refused : IfErr c.from_residual-in_err-machine-in-Some.result (λ e. IsAnswered g.G.Grammar.rules c.args.tokens.now e) = search rules in
    error_is_none g.G.Grammar.rules c.args.tokens.now c.from_residual-in_err-machine-in-Some.result refused

pub returns-then-machine-tokens-clause-refused : goal.returns-then-machine-tokens-clause-refused
returns-then-machine-tokens-clause-refused g c =
    rest_unexpected g.G.Grammar.rules g.G.Grammar.table g.met.G.Grammar.right c.args.tokens.now c.loop.machine c.if-machine-tokens.true (record {
      within = c.loop.invariant.within;
      stands =
          subst (λ (row : Row g.row.G-Class.Denot g.row.G-Line.Denot g.row.G-Action.Denot).
          Stands g.G.Grammar.rules g.G.Grammar.table c.args.tokens.now c.loop.machine.state row (drop c.loop.machine.at c.args.tokens.now) c.loop.machine.steps.items)
          c.in-None.ensures.0 c.loop.invariant.stands;
    })

pub returns-then-machine-tokens-clause-no_file : goal.returns-then-machine-tokens-clause-no_file
returns-then-machine-tokens-clause-no_file g c =
    refused_is_none g.G.Grammar.rules c.args.tokens.now c.loop.machine.at cause.Unexpected (returns-then-machine-tokens-clause-refused g c)

pub returns-in-None-clause-steps : goal.returns-in-None-clause-steps
returns-in-None-clause-steps g c =
    all_read g.G.Grammar.rules g.G.Grammar.table g.met.G.Grammar.right c.args.tokens.now c.loop.machine c.if-machine-tokens.false (record {
      within = c.loop.invariant.within;
      stands =
          subst (λ (row : Row g.row.G-Class.Denot g.row.G-Line.Denot g.row.G-Action.Denot).
          Stands g.G.Grammar.rules g.G.Grammar.table c.args.tokens.now c.loop.machine.state row (drop c.loop.machine.at c.args.tokens.now) c.loop.machine.steps.items)
          c.in-None.ensures.0 c.loop.invariant.stands;
    })

pub returns-in-None-clause-taken : goal.returns-in-None-clause-taken
returns-in-None-clause-taken g c = Reads-taken g.G.Grammar.rules (returns-in-None-clause-steps g c).is
