use Rattle.std.proofs.Common.{List, Bool, ◌≡◌, ◌∙◌, ◌<◌, ◌/◌, ◌%◌, length, unsigned_abs, sym, ap, subst}
use Rattle.aig_build.specs.declared.lits.Lit.{Lit}
use Rattle.aig_build.proofs.Nodes.{Grows-trans}
use Rattle.rvt_num.specs.declared.kinds.Kind.{Kind}
use Rattle.rvt_num.specs.Kinds.{promoted_kind}
use Rattle.rvt_num.specs.Number.{Number}
use Rattle.rvt_num.specs.Wrapping.{reading}
use Rattle.bit_words.specs.Built.{MadeWord, sign_bit}
use Rattle.bit_words.specs.Words.{word_number}
use Rattle.bit_words.proofs.PlacedValues.{IsWord}
use Rattle.bit_words.proofs.RippleCarry.{AreThere-later}
use Rattle.bit_ops.specs.Built.{MadeDivision, patterns_built, signed_built}
use Rattle.rvt_num.specs.Wrapping.{bits_of}
use Rattle.bit_ops.proofs.ShiftWords.{sign_there}
use Rattle.bit_ops.proofs.SignValues.{magnitude_bits, some_magnitude, word_later}
use Rattle.bit_ops.proofs.signs.magnitudes_divided.Goals as goal

pub signed_as-requires : goal.signed_as-requires
signed_as-requires c =
    let word : IsWord c.args.circuit.now c.args.a.now = record { there = c.requires.a_is_there; wide = c.sign-a_sign.ensures.wide } in
    record {
      negative_is_there = subst (λ (x : Lit). x.node < length c.args.circuit.now) (sym c.sign-a_sign.ensures.literal) (sign_there _ c.args.a.now c.nodes-first.ensures.circuit word);
      a_is_there = c.requires.a_is_there;
      promoted = c.requires.promoted;
    }

pub signed_as-requires-2 : goal.signed_as-requires-2
signed_as-requires-2 c =
    let there = AreThere-later _ _ c.args.b.now.bits c.in_ok-left.ensures.grows c.requires.b_is_there in
    let word : IsWord c.signed_as.new.circuit c.args.b.now = record { there = there; wide = c.sign-b_sign.ensures.wide } in
    record {
      negative_is_there = subst (λ (x : Lit). x.node < length c.signed_as.new.circuit) (sym c.sign-b_sign.ensures.literal) (sign_there _ c.args.b.now c.nodes-second.ensures.circuit word);
      a_is_there = there;
      promoted = subst (λ (k : Kind). promoted_kind k ≡ k) c.requires.same_kind c.requires.promoted;
    }

pub patterns_divided-requires : goal.patterns_divided-requires
patterns_divided-requires c = record {
  a_is_there = AreThere-later _ _ c.in_ok-left.left.bits c.in_ok-right.ensures.grows c.in_ok-left.ensures.there;
  b_is_there = c.in_ok-right.ensures.there;
  same_kind = c.in_ok-left.ensures.same_kind ∙ c.requires.same_kind ∙ sym c.in_ok-right.ensures.same_kind;
}

pub returns : goal.returns
returns c =
    let both = c.in_ok-both.ensures in
    let g = c.in_ok-left.ensures.grows in
    let g2 = c.in_ok-right.ensures.grows in
    let a_word : IsWord c.args.circuit.now c.args.a.now = record { there = c.requires.a_is_there; wide = c.sign-a_sign.ensures.wide } in
    let b_word : IsWord c.signed_as.new.circuit c.args.b.now = record { there = AreThere-later _ _ c.args.b.now.bits g c.requires.b_is_there; wide = c.sign-b_sign.ensures.wide } in
    let left = (λ i. signed_built c.args.circuit.now (sym c.sign-a_sign.ensures.literal i) c.args.a.now) ∙ c.in_ok-left.ensures.built in
    let right = (λ i. signed_built c.signed_as.new.circuit (sym c.sign-b_sign.ensures.literal i) c.args.b.now) ∙ c.in_ok-right.ensures.built in
    let x = λ (inputs : List Bool).
    ap bits_of (word_later c.signed_as.new.circuit c.signed_as-2.new.circuit inputs c.in_ok-left.left g2 c.in_ok-left.ensures.there)
    ∙ magnitude_bits c.args.circuit.now c.signed_as.new.circuit c.args.a.now c.in_ok-left.left c.sign-a_sign.result c.nodes-first.ensures.circuit a_word c.requires.promoted c.sign-a_sign.ensures.literal inputs (c.in_ok-left.ensures.value inputs) in
    let y = λ (inputs : List Bool).
    magnitude_bits c.signed_as.new.circuit c.signed_as-2.new.circuit c.args.b.now c.in_ok-right.right c.sign-b_sign.result c.nodes-second.ensures.circuit b_word (subst (λ (k : Kind). promoted_kind k ≡ k) c.requires.same_kind c.requires.promoted) c.sign-b_sign.ensures.literal inputs (c.in_ok-right.ensures.value inputs)
    ∙ ap (λ (n : Number). unsigned_abs n.value) (word_later c.args.circuit.now c.signed_as.new.circuit inputs c.args.b.now g c.requires.b_is_there) in
    let kind = c.in_ok-left.ensures.same_kind in
    record {
      built =
          ap (λ (m : MadeWord). let n = signed_built m.nodes (sign_bit c.args.b.now) c.args.b.now in patterns_built n.nodes m.word n.word) left
          ∙ ap (λ (n : MadeWord). patterns_built n.nodes c.in_ok-left.left n.word) right ∙ both.built;
      quotient = λ inputs some.
          both.quotient inputs (subst (λ k. 0 < k) (sym (y inputs)) (some_magnitude (word_number c.args.circuit.now inputs c.args.b.now).value some))
          ∙ (λ i. record { kind = kind i; value = reading (kind i) (x inputs i / y inputs i) });
      remainder = λ inputs some.
          both.remainder inputs (subst (λ k. 0 < k) (sym (y inputs)) (some_magnitude (word_number c.args.circuit.now inputs c.args.b.now).value some))
          ∙ (λ i. record { kind = kind i; value = reading (kind i) (x inputs i % y inputs i) });
      quotient_kind = sym (ap (λ (m : MadeDivision). m.quotient.kind) both.built) ∙ kind;
      remainder_kind = sym (ap (λ (m : MadeDivision). m.remainder.kind) both.built) ∙ kind;
      quotient_there = both.quotient_there;
      remainder_there = both.remainder_there;
      grows = Grows-trans _ _ _ g (Grows-trans _ _ _ g2 both.grows);
    }
