use Rattle.std.proofs.Common.{◌<◌, ◌∙◌, ◌++◌, length, ap, sym, subst}
use Rattle.aig_build.specs.declared.lits.Lit.{Lit}
use Rattle.bit_words.proofs.ConvertValues.{AreThere-append}
use Rattle.bit_words.proofs.Multiplication.{AreThere-replicate}
use Rattle.bit_words.specs.Words.{AreThere, LitWord}
use Rattle.uf_abstraction.proofs.pointers.is_null.Goals as goal

pub carried-requires-clause-a_is_there : goal.carried-requires-clause-a_is_there
carried-requires-clause-a_is_there c =
    let object = c.deref.ensures.value ∙ ap (λ (w : LitWord). w.bits) c.object.view_is in
    let cell = c.deref-2.ensures.value ∙ ap (λ (w : LitWord). w.bits) c.cell.view_is in
    subst (AreThere c.args.circuit.now) (sym (c.deref-3.ensures.value ∙ c.in_ok-bits.ensures ∙ (λ i. object i ++ cell i)))
    (AreThere-append c.args.circuit.now _ _ c.requires.object_is_there c.requires.cell_is_there)

pub carried-requires-clause-b_is_there : goal.carried-requires-clause-b_is_there
carried-requires-clause-b_is_there c =
    subst (AreThere c.args.circuit.now) (sym (c.deref-4.ensures.value ∙ c.in_ok-zeros.ensures))
    (AreThere-replicate c.args.circuit.now _ _ (subst (λ (l : Lit). l.node < length c.args.circuit.now) (sym c.constant.ensures) c.requires.some))
