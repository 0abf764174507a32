use Rattle.std.proofs.Common.{◌≡◌, ap, sym, subst, length, ◌∙◌}
use Rattle.rvt_num.specs.Kinds.{width}
use Rattle.bit_words.specs.Built.{product_built}
use Rattle.bit_words.specs.Words.{LitWord}
use Rattle.bit_words.proofs.ProductValues.{word_product_is}
use Rattle.bit_words.proofs.words.word_product.Goals as goal

pub invariant_of-result : goal.invariant_of-result
invariant_of-result c = c.in_ok-bits.ensures.width ∙ ap length c.deref.ensures.value ∙ c.a.invariant

pub returns-clause-value : goal.returns-clause-value
returns-clause-value c = λ inputs.
    let left = c.deref.ensures.value ∙ ap (λ (w : LitWord). w.bits) c.a.view_is in
    let right = c.deref-2.ensures.value ∙ ap (λ (w : LitWord). w.bits) c.b.view_is in
    word_product_is _ _ inputs _ _ _ c.nodes-count.ensures.circuit c.requires.a_is_there c.requires.b_is_there
    (subst (λ (w : LitWord). length w.bits ≡ width w.kind) c.a.view_is c.a.invariant)
    (subst (λ (w : LitWord). length w.bits ≡ width w.kind) c.b.view_is c.b.invariant)
    c.requires.same_kind c.requires.promoted (ap (λ (w : LitWord). w.kind) c.a.view_is)
    ((λ i. product_built c.args.circuit.now (sym left i) (sym right i)) ∙ c.in_ok-bits.ensures.built)

pub returns-clause-built : goal.returns-clause-built
returns-clause-built c =
    let left = c.deref.ensures.value ∙ ap (λ (w : LitWord). w.bits) c.a.view_is in
    let right = c.deref-2.ensures.value ∙ ap (λ (w : LitWord). w.bits) c.b.view_is in
    let made = (λ i. product_built c.args.circuit.now (sym left i) (sym right i)) ∙ c.in_ok-bits.ensures.built in
    λ i. record { nodes = (made i).nodes; word = record { kind = (sym c.a.view_is i).kind; bits = (made i).bits } }
