use Rattle.std.proofs.Common.{◌≡◌, ◌∙◌, sym, ap, subst, length}
use Rattle.rvt_num.specs.Kinds.{width}
use Rattle.bit_words.specs.Built.{carried_built}
use Rattle.bit_words.specs.Words.{LitWord}
use Rattle.bit_words.specs.declared.cells.Cell.TheVariants.{Equal}
use Rattle.bit_words.proofs.EqualValues.{equal_is}
use Rattle.bit_words.proofs.comparisons.equal.Goals as goal

pub returns-clause-built : goal.returns-clause-built
returns-clause-built c =
    let left = c.deref.ensures.value ∙ ap (λ (w : LitWord). w.bits) c.a.view_is in
    let right = c.deref-2.ensures.value ∙ ap (λ (w : LitWord). w.bits) c.b.view_is in
    (λ i. carried_built c.args.circuit.now Equal (sym c.constant.ensures i) (sym left i) (sym right i)) ∙ c.in_ok-lit.ensures.built

pub returns-clause-value : goal.returns-clause-value
returns-clause-value c = λ inputs.
    equal_is _ _ _ c.args.a.now c.args.b.now c.nodes-count.ensures.circuit
    (record { there = c.requires.a_is_there; wide = subst (λ (w : LitWord). length w.bits ≡ width w.kind) c.a.view_is c.a.invariant })
    (record { there = c.requires.b_is_there; wide = subst (λ (w : LitWord). length w.bits ≡ width w.kind) c.b.view_is c.b.invariant })
    c.requires.same_kind (returns-clause-built c) inputs
