use Rattle.std.proofs.Common.{◌∙◌, Ok, sym, ap}
use Rattle.rvt_num.specs.Operations.{binary_of, is_shift}
use Rattle.bit_words.specs.Words.{word_number}
use Rattle.bit_ops.specs.Outcomes.{outcome}
use Rattle.bit_ops.proofs.OutcomeValues.{plain_outcome}
use Rattle.bit_ops.proofs.operations.word_op.Goals as goal

pub word_sum-requires : goal.word_sum-requires
word_sum-requires c = record { a_is_there = c.requires.a_is_there; b_is_there = c.requires.b_is_there; same_kind = c.requires.same_kind (ap is_shift c.in-Add.is); promoted = c.requires.a_promoted }

pub returns-in_ok-sum-in-Add-clause-value : goal.returns-in_ok-sum-in-Add-clause-value
returns-in_ok-sum-in-Add-clause-value c = λ inputs.
    (λ i. outcome c.word_sum.new.circuit inputs (c.no_trap-none.ensures i) (word_number c.word_sum.new.circuit inputs c.in_ok-sum-in-Add.sum))
    ∙ plain_outcome c.args.circuit.now c.word_sum.new.circuit inputs _ c.nodes-count.ensures.circuit c.in_ok-sum-in-Add.ensures.grows
    ∙ ap Ok (c.in_ok-sum-in-Add.ensures.value inputs)
    ∙ ap (λ op. binary_of op (word_number c.args.circuit.now inputs c.args.a.now) (word_number c.args.circuit.now inputs c.args.b.now)) (sym c.in-Add.is)

pub word_difference-requires : goal.word_difference-requires
word_difference-requires c = record { a_is_there = c.requires.a_is_there; b_is_there = c.requires.b_is_there; same_kind = c.requires.same_kind (ap is_shift c.in-Sub.is); promoted = c.requires.a_promoted }

pub returns-in_ok-difference-in-Sub-clause-value : goal.returns-in_ok-difference-in-Sub-clause-value
returns-in_ok-difference-in-Sub-clause-value c = λ inputs.
    (λ i. outcome c.word_difference.new.circuit inputs (c.no_trap-none.ensures i) (word_number c.word_difference.new.circuit inputs c.in_ok-difference-in-Sub.difference))
    ∙ plain_outcome c.args.circuit.now c.word_difference.new.circuit inputs _ c.nodes-count.ensures.circuit c.in_ok-difference-in-Sub.ensures.grows
    ∙ ap Ok (c.in_ok-difference-in-Sub.ensures.value inputs)
    ∙ ap (λ op. binary_of op (word_number c.args.circuit.now inputs c.args.a.now) (word_number c.args.circuit.now inputs c.args.b.now)) (sym c.in-Sub.is)

pub word_product-requires : goal.word_product-requires
word_product-requires c = record { a_is_there = c.requires.a_is_there; b_is_there = c.requires.b_is_there; same_kind = c.requires.same_kind (ap is_shift c.in-Mul.is); promoted = c.requires.a_promoted }

pub returns-in_ok-product-in-Mul-clause-value : goal.returns-in_ok-product-in-Mul-clause-value
returns-in_ok-product-in-Mul-clause-value c = λ inputs.
    (λ i. outcome c.word_product.new.circuit inputs (c.no_trap-none.ensures i) (word_number c.word_product.new.circuit inputs c.in_ok-product-in-Mul.product))
    ∙ plain_outcome c.args.circuit.now c.word_product.new.circuit inputs _ c.nodes-count.ensures.circuit c.in_ok-product-in-Mul.ensures.grows
    ∙ ap Ok (c.in_ok-product-in-Mul.ensures.value inputs)
    ∙ ap (λ op. binary_of op (word_number c.args.circuit.now inputs c.args.a.now) (word_number c.args.circuit.now inputs c.args.b.now)) (sym c.in-Mul.is)

pub word_and-requires : goal.word_and-requires
word_and-requires c = record { a_is_there = c.requires.a_is_there; b_is_there = c.requires.b_is_there; same_kind = c.requires.same_kind (ap is_shift c.in-And.is); promoted = c.requires.a_promoted }

pub returns-in_ok-ands-in-And-clause-value : goal.returns-in_ok-ands-in-And-clause-value
returns-in_ok-ands-in-And-clause-value c = λ inputs.
    (λ i. outcome c.word_and.new.circuit inputs (c.no_trap-none.ensures i) (word_number c.word_and.new.circuit inputs c.in_ok-ands-in-And.ands))
    ∙ plain_outcome c.args.circuit.now c.word_and.new.circuit inputs _ c.nodes-count.ensures.circuit c.in_ok-ands-in-And.ensures.grows
    ∙ ap Ok (c.in_ok-ands-in-And.ensures.value inputs)
    ∙ ap (λ op. binary_of op (word_number c.args.circuit.now inputs c.args.a.now) (word_number c.args.circuit.now inputs c.args.b.now)) (sym c.in-And.is)

pub word_or-requires : goal.word_or-requires
word_or-requires c = record { a_is_there = c.requires.a_is_there; b_is_there = c.requires.b_is_there; same_kind = c.requires.same_kind (ap is_shift c.in-Or.is); promoted = c.requires.a_promoted }

pub returns-in_ok-ors-in-Or-clause-value : goal.returns-in_ok-ors-in-Or-clause-value
returns-in_ok-ors-in-Or-clause-value c = λ inputs.
    (λ i. outcome c.word_or.new.circuit inputs (c.no_trap-none.ensures i) (word_number c.word_or.new.circuit inputs c.in_ok-ors-in-Or.ors))
    ∙ plain_outcome c.args.circuit.now c.word_or.new.circuit inputs _ c.nodes-count.ensures.circuit c.in_ok-ors-in-Or.ensures.grows
    ∙ ap Ok (c.in_ok-ors-in-Or.ensures.value inputs)
    ∙ ap (λ op. binary_of op (word_number c.args.circuit.now inputs c.args.a.now) (word_number c.args.circuit.now inputs c.args.b.now)) (sym c.in-Or.is)

pub word_xor-requires : goal.word_xor-requires
word_xor-requires c = record { a_is_there = c.requires.a_is_there; b_is_there = c.requires.b_is_there; same_kind = c.requires.same_kind (ap is_shift c.in-Xor.is); promoted = c.requires.a_promoted }

pub returns-in_ok-xors-in-Xor-clause-value : goal.returns-in_ok-xors-in-Xor-clause-value
returns-in_ok-xors-in-Xor-clause-value c = λ inputs.
    (λ i. outcome c.word_xor.new.circuit inputs (c.no_trap-none.ensures i) (word_number c.word_xor.new.circuit inputs c.in_ok-xors-in-Xor.xors))
    ∙ plain_outcome c.args.circuit.now c.word_xor.new.circuit inputs _ c.nodes-count.ensures.circuit c.in_ok-xors-in-Xor.ensures.grows
    ∙ ap Ok (c.in_ok-xors-in-Xor.ensures.value inputs)
    ∙ ap (λ op. binary_of op (word_number c.args.circuit.now inputs c.args.a.now) (word_number c.args.circuit.now inputs c.args.b.now)) (sym c.in-Xor.is)

pub word_equal-requires : goal.word_equal-requires
word_equal-requires c = record { a_is_there = c.requires.a_is_there; b_is_there = c.requires.b_is_there; same_kind = c.requires.same_kind (ap is_shift c.in-Eq.is) }

pub word_different-requires : goal.word_different-requires
word_different-requires c = record { a_is_there = c.requires.a_is_there; b_is_there = c.requires.b_is_there; same_kind = c.requires.same_kind (ap is_shift c.in-Ne.is) }

pub word_less-requires : goal.word_less-requires
word_less-requires c = record { a_is_there = c.requires.a_is_there; b_is_there = c.requires.b_is_there; same_kind = c.requires.same_kind (ap is_shift c.in-Lt.is) }

pub word_at_most-requires : goal.word_at_most-requires
word_at_most-requires c = record { a_is_there = c.requires.a_is_there; b_is_there = c.requires.b_is_there; same_kind = c.requires.same_kind (ap is_shift c.in-Le.is) }

pub word_greater-requires : goal.word_greater-requires
word_greater-requires c = record { a_is_there = c.requires.a_is_there; b_is_there = c.requires.b_is_there; same_kind = c.requires.same_kind (ap is_shift c.in-Gt.is) }

pub word_at_least-requires : goal.word_at_least-requires
word_at_least-requires c = record { a_is_there = c.requires.a_is_there; b_is_there = c.requires.b_is_there; same_kind = c.requires.same_kind (ap is_shift c.in-Ge.is) }
