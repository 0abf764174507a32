use Rattle.std.proofs.Common.{◌≡◌, ◌∙◌, ◌<◌, length, take, sym, ap, subst}
use Rattle.aig_build.specs.declared.lits.Lit.{Lit}
use Rattle.aig_build.proofs.Nodes.{Grows-keeps}
use Rattle.rvt_num.specs.Kinds.{width}
use Rattle.bit_words.specs.Words.{LitWord, AreThere, word_number}
use Rattle.bit_words.proofs.Multiplication.{AreThere-take}
use Rattle.bit_words.proofs.PlacedValues.{IsWord}
use Rattle.bit_words.proofs.RippleCarry.{AreThere-later}
use Rattle.bit_ops.specs.Built.{count_places, shift_built, too_far_built}
use Rattle.bit_ops.proofs.ShiftWords.{far_is, far_value, fill_there, shift_is}
use Rattle.bit_ops.proofs.shifts.word_shift.Goals as goal

pub shift-requires-clause-bits_are_there : goal.shift-requires-clause-bits_are_there
shift-requires-clause-bits_are_there c =
    subst (AreThere c.too_far.new.circuit) (sym (c.deref-2.ensures.value ∙ ap (λ (w : LitWord). w.bits) c.a.view_is)) (AreThere-later _ _ c.args.a.now.bits c.in_ok-far.ensures.grows c.requires.a_is_there)

pub shift-requires-clause-count_is_there : goal.shift-requires-clause-count_is_there
shift-requires-clause-count_is_there c =
    AreThere-take _ c.count_bits-low.result c.deref-3.result.now
    (subst (AreThere c.too_far.new.circuit) (sym (c.deref-3.ensures.value ∙ ap (λ (w : LitWord). w.bits) c.b.view_is)) (AreThere-later _ _ c.args.b.now.bits c.in_ok-far.ensures.grows c.requires.b_is_there))

pub shift-requires-clause-fill_is_there : goal.shift-requires-clause-fill_is_there
shift-requires-clause-fill_is_there c =
    let word : IsWord c.too_far.new.circuit c.args.a.now = record {
      there = AreThere-later _ _ c.args.a.now.bits c.in_ok-far.ensures.grows c.requires.a_is_there;
      wide = subst (λ (w : LitWord). length w.bits ≡ width w.kind) c.a.view_is c.a.invariant;
    } in
    subst (λ (x : Lit). x.node < length c.too_far.new.circuit) (sym c.free_bit-fill.ensures) (fill_there _ c.args.up c.args.a.now c.nodes-after.ensures.circuit word)

pub returns-clause-too_far : goal.returns-clause-too_far
returns-clause-too_far c = λ inputs.
    let bits = c.deref.ensures.value ∙ ap (λ (w : LitWord). w.bits) c.b.view_is in
    let low : c.count_bits-low.result ≡ count_places c.args.a.now.kind = c.count_bits-low.ensures.places ∙ ap (λ (w : LitWord). count_places w.kind) c.a.view_is in
    let built = (λ i. too_far_built c.args.circuit.now (sym low i) (sym bits i)) ∙ c.in_ok-far.ensures.built in
    Grows-keeps _ _ c.in_ok-bits.ensures.grows inputs c.in_ok-far.far c.in_ok-far.ensures.there
    ∙ far_value _ _ (count_places c.args.a.now.kind) c.in_ok-far.far c.args.b.now.bits c.nodes-before.ensures.circuit c.requires.b_is_there built inputs
    ∙ far_is c.args.circuit.now c.args.a.now c.args.b.now c.requires.a_promoted inputs

pub returns-clause-value : goal.returns-clause-value
returns-clause-value c = λ inputs near.
    let a_bits = c.deref-2.ensures.value ∙ ap (λ (w : LitWord). w.bits) c.a.view_is in
    let b_bits = c.deref-3.ensures.value ∙ ap (λ (w : LitWord). w.bits) c.b.view_is in
    let low : c.count_bits-low.result ≡ count_places c.args.a.now.kind = c.count_bits-low.ensures.places ∙ ap (λ (w : LitWord). count_places w.kind) c.a.view_is in
    let built =
    (λ i. shift_built c.too_far.new.circuit c.args.up (sym c.free_bit-fill.ensures i) (sym a_bits i) (take (sym low i) (sym b_bits i)) 1) ∙ c.in_ok-bits.ensures.built
    ∙ (λ i. record { nodes = c.shift.new.circuit; bits = c.in_ok-bits.bits.items; carry = c.free_bit-fill.ensures i }) in
    let a_word : IsWord c.args.circuit.now c.args.a.now = record { there = c.requires.a_is_there; wide = subst (λ (w : LitWord). length w.bits ≡ width w.kind) c.a.view_is c.a.invariant } in
    let b_word : IsWord c.args.circuit.now c.args.b.now = record { there = c.requires.b_is_there; wide = subst (λ (w : LitWord). length w.bits ≡ width w.kind) c.b.view_is c.b.invariant } in
    (λ i. word_number c.shift.new.circuit inputs (record { kind = (c.a.view_is i).kind; bits = c.in_ok-bits.bits.items }))
    ∙ shift_is c.args.circuit.now c.too_far.new.circuit c.shift.new.circuit c.args.up c.args.a.now c.args.b.now c.in_ok-bits.bits.items c.nodes-after.ensures.circuit c.in_ok-far.ensures.grows a_word b_word c.requires.a_promoted c.requires.b_promoted
    (c.in_ok-bits.ensures.wide ∙ ap length a_bits) built inputs near
