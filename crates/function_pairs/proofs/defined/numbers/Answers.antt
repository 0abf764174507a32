use Rattle.std.proofs.Common.{◌<◌, ◌-◌, Some, cond, ap, ◌∙◌, arith}
use Rattle.function_pairs.specs.Defined.{defines}
use Rattle.function_pairs.proofs.Steps.{position_before}
use Rattle.function_pairs.proofs.defined.numbers.Goals as goal

pub functions-preserved : goal.functions-preserved
functions-preserved c =
    let i = c.functions.left - 1 in
    let function = c.index-functions-left.result in
    let positive : 0 < c.functions.left = omega (arith, c.functions-test.true) in
    record {
      within = omega (arith, c.functions.invariant.within);
      numbered = λ name.
          c.in_ok-put.ensures name
          ∙ ap (λ r. cond (defines name function) (Some i) r) (c.functions.invariant.numbered name)
          ∙ position_before (defines name) c.args.functions.now i c.functions.left function (omega (arith, positive)) (omega (arith, positive, c.functions.invariant.within)) c.index-functions-left.is;
    }
