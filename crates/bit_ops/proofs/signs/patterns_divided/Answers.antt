use Rattle.std.proofs.Common.{◌≡◌, ◌∙◌, length, sym, ap, subst}
use Rattle.rvt_num.specs.Kinds.{width}
use Rattle.bit_words.specs.Words.{LitWord}
use Rattle.bit_words.proofs.PlacedValues.{IsWord}
use Rattle.bit_ops.specs.Built.{quotient_built}
use Rattle.bit_ops.proofs.SignValues.{patterns_are}
use Rattle.bit_ops.proofs.signs.patterns_divided.Goals as goal

pub returns : goal.returns
returns c =
    let left = c.deref.ensures.value ∙ ap (λ (w : LitWord). w.bits) c.a.view_is in
    let right = c.deref-2.ensures.value ∙ ap (λ (w : LitWord). w.bits) c.b.view_is in
    let made = (λ i. quotient_built c.args.circuit.now (sym left i) (sym right i)) ∙ c.in_ok-times.ensures.built in
    let a_word : IsWord c.args.circuit.now c.args.a.now = record { there = c.requires.a_is_there; wide = subst (λ (w : LitWord). length w.bits ≡ width w.kind) c.a.view_is c.a.invariant } in
    let b_word : IsWord c.args.circuit.now c.args.b.now = record { there = c.requires.b_is_there; wide = subst (λ (w : LitWord). length w.bits ≡ width w.kind) c.b.view_is c.b.invariant } in
    let values = patterns_are c.args.circuit.now c.quotient.new.circuit c.a.inside.kind c.args.a.now c.args.b.now c.in_ok-times.times.items c.in_ok-times.rest.items c.nodes-count.ensures.circuit a_word b_word (ap (λ (w : LitWord). w.kind) c.a.view_is) made in
    record {
      built = λ i. record {
        nodes = (made i).nodes;
        quotient = record { kind = (sym c.a.view_is i).kind; bits = (made i).quotient };
        remainder = record { kind = (sym c.a.view_is i).kind; bits = (made i).remainder };
      };
      quotient = λ inputs some. (values inputs some).0;
      remainder = λ inputs some. (values inputs some).1;
      quotient_there = c.in_ok-times.ensures.quotient_there;
      remainder_there = c.in_ok-times.ensures.remainder_there;
      grows = c.in_ok-times.ensures.grows;
    }
