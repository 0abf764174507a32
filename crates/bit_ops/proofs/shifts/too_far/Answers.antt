use Rattle.std.proofs.Common.{◌∙◌, ◌<◌, length, drop, sym, subst}
use Rattle.aig_build.specs.declared.lits.Lit.{Lit}
use Rattle.bit_words.specs.Words.{AreThere}
use Rattle.bit_words.proofs.Multiplication.{AreThere-take, AreThere-replicate}
use Rattle.bit_words.proofs.WordValues.{some_nodes}
use Rattle.bit_ops.proofs.ShiftingSteps.{AreThere-drop}
use Rattle.bit_ops.proofs.shifts.too_far.Goals as goal

pub carried-requires-clause-a_is_there : goal.carried-requires-clause-a_is_there
carried-requires-clause-a_is_there c = AreThere-take _ _ (drop c.args.low c.args.count.now) (AreThere-drop _ c.args.low c.args.count.now c.requires.count_is_there)

pub carried-requires-clause-b_is_there : goal.carried-requires-clause-b_is_there
carried-requires-clause-b_is_there c =
    let h : c.constant.result.node < length c.args.circuit.now = subst (λ (x : Lit). x.node < length c.args.circuit.now) (sym c.constant.ensures) (some_nodes _ c.nodes-count.ensures.circuit) in
    subst (AreThere c.args.circuit.now) (sym (c.deref.ensures.value ∙ c.in_ok-zeros.ensures)) (AreThere-replicate _ _ c.constant.result h)
