use Rattle.std.proofs.Common.{◌≡◌, ◌+◌, ◌++◌, ◌∷◌, List, ℕ, [], get_or, ap, sym, subst, arith}
use Rattle.std.specs.Borrow.{Bor}
use Rattle.rvt_num.specs.declared.values.Value.{Value}
use Rattle.rvt_tree.specs.declared.programs.Local.{Local}
use Rattle.call_arguments.specs.Arguments.{IsArgument}
use Rattle.call_arguments.proofs.ArgumentLemmas.{Goes, more, stops, ends}
use Rattle.call_arguments.proofs.arguments.argument_values.Goals as goal

abbrev no_word : Bor (List ℕ)
no_word = record { ref_ptr = (0, 0); now = [] }

pub returns-in-None : goal.returns-in-None
returns-in-None c =
    stops c.args.program.now c.args.params.now c.args.words.now c.loop-i.i c.loop-i.values.items c.index-params-i.result no_word c.loop-i-test.true (omega (arith, c.loop-i-test.true, c.requires))
    (λ value is. c.in-None.ensures.none value (subst (λ (l : Local). IsArgument c.args.program.now l.ty (get_or c.args.words.now c.loop-i.i no_word).now value) (sym c.index-params-i.is) is)) c.loop-i.invariant

pub loop-i-preserved : goal.loop-i-preserved
loop-i-preserved c =
    subst (λ (values : List Value). Goes c.args.program.now c.args.params.now c.args.words.now (c.loop-i.i + 1) values) (sym c.in_ok-push-in-Some.ensures.items)
    (more c.args.program.now c.args.params.now c.args.words.now c.loop-i.i c.loop-i.values.items c.index-params-i.result no_word c.in-Some.value c.loop-i-test.true (omega (arith, c.loop-i-test.true, c.requires))
    (subst (λ (l : Local). IsArgument c.args.program.now l.ty (get_or c.args.words.now c.loop-i.i no_word).now c.in-Some.value) c.index-params-i.is c.in-Some.ensures.some) c.loop-i.invariant)

pub returns : goal.returns
returns c = ends c.args.program.now c.args.params.now c.args.words.now c.loop-i.i c.loop-i.values.items c.requires c.loop-i-test.false c.loop-i.invariant
