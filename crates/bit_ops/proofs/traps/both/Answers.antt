use Rattle.std.proofs.Common.{◌∙◌, ◌&&◌, ◌<◌, length, sym, ap, subst, arith}
use Rattle.aig_build.specs.Built.{Made, and_built}
use Rattle.aig_build.proofs.Nodes.{Grows-keeps, Grows-length, Grows-trans}
use Rattle.rvt_num.specs.Operations.{int_eq}
use Rattle.bit_words.specs.Built.{equal_built}
use Rattle.bit_words.specs.Words.{AreThere, LitWord, word_number}
use Rattle.bit_words.proofs.RippleCarry.{AreThere-later}
use Rattle.bit_ops.specs.Built.{least_word, ones_word}
use Rattle.bit_ops.proofs.OutcomeValues.{AreThere-least, AreThere-ones, and_value, least_value, ones_value}
use Rattle.bit_ops.proofs.SignValues.{word_later}
use Rattle.bit_ops.proofs.traps.both.Goals as goal

pub equal-requires : goal.equal-requires
equal-requires c =
    let smallest = c.in_ok-smallest.ensures in
    record {
      a_is_there = c.requires.a_is_there;
      b_is_there = subst (λ (w : LitWord). AreThere c.args.circuit.now w.bits) (sym smallest) (AreThere-least _ c.a.inside.kind c.nodes-first.ensures.circuit);
      same_kind = sym (ap (λ (w : LitWord). w.kind) c.a.view_is) ∙ sym (ap (λ (w : LitWord). w.kind) smallest);
    }

pub equal-requires-2 : goal.equal-requires-2
equal-requires-2 c =
    let minus_one = c.in_ok-minus_one.ensures in
    record {
      a_is_there = AreThere-later _ _ c.args.b.now.bits c.in_ok-is_least.ensures.grows c.requires.b_is_there;
      b_is_there = subst (λ (w : LitWord). AreThere c.equal.new.circuit w.bits) (sym minus_one) (AreThere-ones _ c.b.inside.kind c.nodes-second.ensures.circuit);
      same_kind = sym (ap (λ (w : LitWord). w.kind) c.b.view_is) ∙ sym (ap (λ (w : LitWord). w.kind) minus_one);
    }

pub and-requires : goal.and-requires
and-requires c = record {
  a_is_there = let t = c.in_ok-is_least.ensures.there in omega (arith, Grows-length _ _ c.in_ok-is_minus_one.ensures.grows);
  b_is_there = c.in_ok-is_minus_one.ensures.there;
}

pub returns : goal.returns
returns c =
    let smallest = c.in_ok-smallest.ensures ∙ ap (λ (w : LitWord). least_word w.kind) c.a.view_is in
    let minus_one = c.in_ok-minus_one.ensures ∙ ap (λ (w : LitWord). ones_word w.kind) c.b.view_is in
    let first = (λ i. equal_built c.args.circuit.now c.args.a.now (sym smallest i)) ∙ c.in_ok-is_least.ensures.built in
    let second = (λ i. equal_built c.equal.new.circuit c.args.b.now (sym minus_one i)) ∙ c.in_ok-is_minus_one.ensures.built in
    let g1 = c.in_ok-is_least.ensures.grows in
    let g2 = c.in_ok-is_minus_one.ensures.grows in
    record {
      built =
          ap (λ (l : Made). let m = equal_built l.nodes c.args.b.now (ones_word c.args.b.now.kind) in and_built m.nodes l.lit m.lit) first
          ∙ ap (λ (m : Made). and_built m.nodes c.in_ok-is_least.is_least m.lit) second ∙ c.in_ok-lit.ensures.built;
      value = λ inputs.
          let first_later = let t = c.in_ok-is_least.ensures.there in Grows-keeps _ _ g2 inputs c.in_ok-is_least.is_least t in
          let l = first_later ∙ c.in_ok-is_least.ensures.value inputs
          ∙ ap (int_eq (word_number c.args.circuit.now inputs c.args.a.now).value) (ap (λ (w : LitWord). (word_number c.args.circuit.now inputs w).value) smallest ∙ least_value c.args.circuit.now inputs c.args.a.now.kind c.nodes-first.ensures.circuit c.requires.a_signed) in
          let m = c.in_ok-is_minus_one.ensures.value inputs
          ∙ (λ i. int_eq (word_later c.args.circuit.now c.equal.new.circuit inputs c.args.b.now g1 c.requires.b_is_there i).value ((ap (λ (w : LitWord). (word_number c.equal.new.circuit inputs w).value) minus_one ∙ ones_value c.equal.new.circuit inputs c.args.b.now.kind c.nodes-second.ensures.circuit c.requires.b_signed) i)) in
          let least_there : c.in_ok-is_least.is_least.node < length c.equal-2.new.circuit = (let t = c.in_ok-is_least.ensures.there in omega (arith, Grows-length _ _ g2)) in
          and_value c.equal-2.new.circuit c.and.new.circuit c.in_ok-is_least.is_least c.in_ok-is_minus_one.is_minus_one c.in_ok-lit.lit c.nodes-third.ensures.circuit least_there c.in_ok-is_minus_one.ensures.there c.in_ok-lit.ensures.built inputs
          ∙ (λ i. l i && m i);
      there = c.in_ok-lit.ensures.there;
      grows = Grows-trans _ _ _ g1 (Grows-trans _ _ _ g2 c.in_ok-lit.ensures.grows);
    }
