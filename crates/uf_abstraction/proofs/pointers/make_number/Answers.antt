use Rattle.std.proofs.Common.{◌∙◌, ◌+◌, ◌-◌, ◌/◌, ◌++◌, ◌∷◌, [], ap}
use Rattle.uf_abstraction.proofs.Loops.{number_step}
use Rattle.uf_abstraction.specs.Testing.{number_lits}
use Rattle.uf_abstraction.proofs.pointers.make_number.Goals as goal

pub bits-preserved : goal.bits-preserved
bits-preserved c =
    ap (λ xs. xs ++ number_lits (c.args.width - (c.bits.counter + 1)) (c.bits.left / 2)) (c.in_ok-push.ensures ∙ ap (λ x. c.bits.lits.items ++ x ∷ []) c.constant.ensures)
    ∙ number_step c.bits.lits.items _ c.args.width c.bits.counter c.bits.left c.bits-test.true c.bits.invariant
