use Rattle.std.proofs.Common.{List, Bool, ◌∙◌, ◌<◌, length, sym, ap, subst, arith, pos}
use Rattle.std.specs.Prelude.{int_lt}
use Rattle.aig_build.specs.declared.lits.Lit.{Lit}
use Rattle.aig_build.specs.Built.{Made}
use Rattle.aig_build.specs.Circuits.{lit_value}
use Rattle.aig_build.proofs.Nodes.{Grows-trans, Grows-length, Grows-keeps}
use Rattle.rvt_num.specs.Number.{Number}
use Rattle.bit_words.specs.Built.{MadeWord, sign_bit, xor_built}
use Rattle.bit_words.proofs.Computing.{differ}
use Rattle.bit_words.proofs.PlacedValues.{IsWord}
use Rattle.bit_words.proofs.RippleCarry.{AreThere-later}
use Rattle.bit_ops.specs.Built.{MadeDivision, signed_built}
use Rattle.bit_ops.specs.Signs.{signed_number}
use Rattle.bit_ops.proofs.ShiftWords.{sign_there}
use Rattle.bit_ops.proofs.SignValues.{sign_is, word_later, word_quotient_is, word_remainder_is, xor_value}
use Rattle.bit_ops.proofs.signs.word_division.Goals as goal

pub xor-requires-clause-a_is_there : goal.xor-requires-clause-a_is_there
xor-requires-clause-a_is_there c =
    let word : IsWord c.magnitudes_divided.new.circuit c.args.a.now = record { there = AreThere-later _ _ c.args.a.now.bits c.in_ok-times.ensures.grows c.requires.a_is_there; wide = c.sign-a_sign.ensures.wide } in
    subst (λ (x : Lit). x.node < length c.magnitudes_divided.new.circuit) (sym c.sign-a_sign.ensures.literal) (sign_there _ c.args.a.now c.nodes-count.ensures.circuit word)

pub xor-requires-clause-b_is_there : goal.xor-requires-clause-b_is_there
xor-requires-clause-b_is_there c =
    let word : IsWord c.magnitudes_divided.new.circuit c.args.b.now = record { there = AreThere-later _ _ c.args.b.now.bits c.in_ok-times.ensures.grows c.requires.b_is_there; wide = c.sign-b_sign.ensures.wide } in
    subst (λ (x : Lit). x.node < length c.magnitudes_divided.new.circuit) (sym c.sign-b_sign.ensures.literal) (sign_there _ c.args.b.now c.nodes-count.ensures.circuit word)

pub returns-in_err-differ-clause-grows : goal.returns-in_err-differ-clause-grows
returns-in_err-differ-clause-grows c = Grows-trans _ _ _ c.in_ok-times.ensures.grows c.xor.ensures.grows

pub signed_as-requires-clause-a_is_there : goal.signed_as-requires-clause-a_is_there
signed_as-requires-clause-a_is_there c = AreThere-later _ _ c.in_ok-times.times.bits c.in_ok-differ.ensures.grows c.in_ok-times.ensures.quotient_there

pub returns-in_err-quotient-clause-grows : goal.returns-in_err-quotient-clause-grows
returns-in_err-quotient-clause-grows c = Grows-trans _ _ _ c.in_ok-times.ensures.grows (Grows-trans _ _ _ c.in_ok-differ.ensures.grows c.signed_as.ensures.grows)

pub signed_as-requires-2-clause-negative_is_there : goal.signed_as-requires-2-clause-negative_is_there
signed_as-requires-2-clause-negative_is_there c =
    let word : IsWord c.magnitudes_divided.new.circuit c.args.a.now = record { there = AreThere-later _ _ c.args.a.now.bits c.in_ok-times.ensures.grows c.requires.a_is_there; wide = c.sign-a_sign.ensures.wide } in
    let there = subst (λ (x : Lit). x.node < length c.magnitudes_divided.new.circuit) (sym c.sign-a_sign.ensures.literal) (sign_there _ c.args.a.now c.nodes-count.ensures.circuit word) in
    omega (arith, there, Grows-length _ _ c.in_ok-differ.ensures.grows, Grows-length _ _ c.in_ok-quotient.ensures.grows)

pub signed_as-requires-2-clause-a_is_there : goal.signed_as-requires-2-clause-a_is_there
signed_as-requires-2-clause-a_is_there c =
    AreThere-later _ _ c.in_ok-times.rest.bits (Grows-trans _ _ _ c.in_ok-differ.ensures.grows c.in_ok-quotient.ensures.grows) c.in_ok-times.ensures.remainder_there

pub returns-in_err-remainder-clause-grows : goal.returns-in_err-remainder-clause-grows
returns-in_err-remainder-clause-grows c =
    Grows-trans _ _ _ c.in_ok-times.ensures.grows (Grows-trans _ _ _ c.in_ok-differ.ensures.grows (Grows-trans _ _ _ c.in_ok-quotient.ensures.grows c.signed_as-2.ensures.grows))

pub returns : goal.returns
returns c =
    let g1 = c.in_ok-times.ensures.grows in
    let g2 = c.in_ok-differ.ensures.grows in
    let g3 = c.in_ok-quotient.ensures.grows in
    let g4 = c.in_ok-remainder.ensures.grows in
    let old = c.args.circuit.now in
    let mid = c.magnitudes_divided.new.circuit in
    let a_word : IsWord old c.args.a.now = record { there = c.requires.a_is_there; wide = c.sign-a_sign.ensures.wide } in
    let a_mid : IsWord mid c.args.a.now = record { there = AreThere-later _ _ c.args.a.now.bits g1 c.requires.a_is_there; wide = c.sign-a_sign.ensures.wide } in
    let b_mid : IsWord mid c.args.b.now = record { there = AreThere-later _ _ c.args.b.now.bits g1 c.requires.b_is_there; wide = c.sign-b_sign.ensures.wide } in
    let a_there = subst (λ (x : Lit). x.node < length mid) (sym c.sign-a_sign.ensures.literal) (sign_there mid c.args.a.now c.nodes-count.ensures.circuit a_mid) in
    let b_there = subst (λ (x : Lit). x.node < length mid) (sym c.sign-b_sign.ensures.literal) (sign_there mid c.args.b.now c.nodes-count.ensures.circuit b_mid) in
    let a_sign = λ (inputs : List Bool).
    ap (lit_value mid inputs) c.sign-a_sign.ensures.literal ∙ sign_is mid inputs c.args.a.now c.nodes-count.ensures.circuit a_mid ∙ ap (λ (n : Number). int_lt n.value (pos 0)) (word_later old mid inputs c.args.a.now g1 c.requires.a_is_there) in
    let b_sign = λ (inputs : List Bool).
    ap (lit_value mid inputs) c.sign-b_sign.ensures.literal ∙ sign_is mid inputs c.args.b.now c.nodes-count.ensures.circuit b_mid ∙ ap (λ (n : Number). int_lt n.value (pos 0)) (word_later old mid inputs c.args.b.now g1 c.requires.b_is_there) in
    let signs = λ (inputs : List Bool).
    xor_value mid c.xor.new.circuit c.sign-a_sign.result c.sign-b_sign.result c.in_ok-differ.differ c.nodes-count.ensures.circuit a_there b_there c.in_ok-differ.ensures.built inputs ∙ (λ i. differ (a_sign inputs i) (b_sign inputs i)) in
    let sign_later = λ (inputs : List Bool). Grows-keeps _ _ (Grows-trans _ _ _ g2 g3) inputs c.sign-a_sign.result a_there ∙ a_sign inputs in
    let xored = (λ i. xor_built mid (sym c.sign-a_sign.ensures.literal i) (sym c.sign-b_sign.ensures.literal i)) ∙ c.in_ok-differ.ensures.built in
    let last = (λ i. signed_built c.signed_as.new.circuit (sym c.sign-a_sign.ensures.literal i) c.in_ok-times.rest) ∙ c.in_ok-remainder.ensures.built in
    record {
      built =
          ap (λ (m : MadeDivision).
          let d = xor_built m.nodes (sign_bit c.args.a.now) (sign_bit c.args.b.now) in
          let q = signed_built d.nodes d.lit m.quotient in
          let r = signed_built q.nodes (sign_bit c.args.a.now) m.remainder in
          record { nodes = r.nodes; quotient = q.word; remainder = r.word }) c.in_ok-times.ensures.built
          ∙ ap (λ (d : Made).
          let q = signed_built d.nodes d.lit c.in_ok-times.times in
          let r = signed_built q.nodes (sign_bit c.args.a.now) c.in_ok-times.rest in
          record { nodes = r.nodes; quotient = q.word; remainder = r.word }) xored
          ∙ ap (λ (q : MadeWord). let r = signed_built q.nodes (sign_bit c.args.a.now) c.in_ok-times.rest in record { nodes = r.nodes; quotient = q.word; remainder = r.word }) c.in_ok-quotient.ensures.built
          ∙ ap (λ (r : MadeWord). record { nodes = r.nodes; quotient = c.in_ok-quotient.quotient; remainder = r.word }) last;
      quotient = λ inputs some.
          word_later _ _ inputs c.in_ok-quotient.quotient g4 c.in_ok-quotient.ensures.there
          ∙ c.in_ok-quotient.ensures.value inputs
          ∙ (λ i. signed_number (signs inputs i) ((word_later _ _ inputs c.in_ok-times.times g2 c.in_ok-times.ensures.quotient_there ∙ c.in_ok-times.ensures.quotient inputs some) i))
          ∙ word_quotient_is old inputs c.args.a.now c.args.b.now a_word c.requires.promoted c.requires.same_kind;
      remainder = λ inputs some.
          c.in_ok-remainder.ensures.value inputs
          ∙ (λ i. signed_number (sign_later inputs i) ((word_later _ _ inputs c.in_ok-times.rest (Grows-trans _ _ _ g2 g3) c.in_ok-times.ensures.remainder_there ∙ c.in_ok-times.ensures.remainder inputs some) i))
          ∙ word_remainder_is old inputs c.args.a.now c.args.b.now a_word c.requires.promoted c.requires.same_kind;
      quotient_there = AreThere-later _ _ c.in_ok-quotient.quotient.bits g4 c.in_ok-quotient.ensures.there;
      remainder_there = c.in_ok-remainder.ensures.there;
      grows = Grows-trans _ _ _ g1 (Grows-trans _ _ _ g2 (Grows-trans _ _ _ g3 g4));
    }
