use Rattle.std.proofs.Common.{◌∙◌, ◌<◌, false, cond, length, pos, sym, ap, subst, arith}
use Rattle.aig_build.specs.declared.lits.Lit.{Lit}
use Rattle.aig_build.specs.Built.{Made}
use Rattle.aig_build.specs.Circuits.{constant, lit_value}
use Rattle.aig_build.proofs.Nodes.{Grows-keeps, Grows-length, Grows-trans}
use Rattle.rvt_num.specs.declared.operations.BinOp.TheVariants.{Div, Rem}
use Rattle.rvt_num.specs.Number.{Number}
use Rattle.rvt_num.specs.Operations.{int_eq, number_of, quotient_overflows}
use Rattle.bit_words.specs.Words.{word_number}
use Rattle.bit_words.proofs.RippleCarry.{AreThere-later}
use Rattle.bit_ops.specs.Built.{MadeDivision, division_built, overflow_built}
use Rattle.bit_ops.proofs.OutcomeValues.{constant_there, division_outcome, false_later, side_there, side_value}
use Rattle.bit_ops.proofs.SignValues.{word_later}
use Rattle.bit_ops.proofs.operations.divided.Goals as goal

pub overflows-requires : goal.overflows-requires
overflows-requires c =
    let g = c.in_ok-divide.ensures.grows in
    record { a_is_there = AreThere-later _ _ c.args.a.now.bits g c.requires.a_is_there; b_is_there = AreThere-later _ _ c.args.b.now.bits g c.requires.b_is_there; same_kind = c.requires.same_kind }

pub word_division-requires : goal.word_division-requires
word_division-requires c =
    let g = Grows-trans _ _ _ c.in_ok-divide.ensures.grows c.in_ok-overflow.ensures.grows in
    record { a_is_there = AreThere-later _ _ c.args.a.now.bits g c.requires.a_is_there; b_is_there = AreThere-later _ _ c.args.b.now.bits g c.requires.b_is_there; same_kind = c.requires.same_kind; promoted = c.requires.promoted }

pub returns : goal.returns
returns c =
    let old = c.args.circuit.now in
    let new = c.word_division.new.circuit in
    let g1 = c.in_ok-divide.ensures.grows in
    let g2 = c.in_ok-overflow.ensures.grows in
    let g3 = c.in_ok-both.ensures.grows in
    let g12 = Grows-trans _ _ _ g1 g2 in
    let g23 = Grows-trans _ _ _ g2 g3 in
    let g = Grows-trans _ _ _ g1 g23 in
    let h = c.nodes-count.ensures.circuit in
    let both = c.in_ok-both.ensures in
    let divide_there = c.in_ok-divide.ensures.there in
    let overflow_there = c.in_ok-overflow.ensures.there in
    record {
      built =
          ap (λ (z : Made).
          let o = overflow_built z.nodes c.args.a.now c.args.b.now in
          let m = division_built o.nodes c.args.a.now c.args.b.now in
          record { nodes = m.nodes; word = cond c.args.whole m.quotient m.remainder; traps = record { divide = z.lit; quotient = o.lit; shift = constant false } }) c.in_ok-divide.ensures.built
          ∙ ap (λ (o : Made).
          let m = division_built o.nodes c.args.a.now c.args.b.now in
          record { nodes = m.nodes; word = cond c.args.whole m.quotient m.remainder; traps = record { divide = c.in_ok-divide.divide; quotient = o.lit; shift = constant false } }) c.in_ok-overflow.ensures.built
          ∙ ap (λ (m : MadeDivision). record { nodes = m.nodes; word = cond c.args.whole m.quotient m.remainder; traps = record { divide = c.in_ok-divide.divide; quotient = c.in_ok-overflow.overflow; shift = constant false } }) both.built
          ∙ (λ i. record { nodes = new; word = sym c.side.ensures i; traps = record { divide = c.in_ok-divide.divide; quotient = c.in_ok-overflow.overflow; shift = sym c.constant.ensures i } });
      value = λ inputs.
          let av = word_number old inputs c.args.a.now in
          let bv = word_number old inputs c.args.b.now in
          let a1 = word_later _ _ inputs c.args.a.now g1 c.requires.a_is_there in
          let b1 = word_later _ _ inputs c.args.b.now g1 c.requires.b_is_there in
          let a2 = word_later _ _ inputs c.args.a.now g12 c.requires.a_is_there in
          let b2 = word_later _ _ inputs c.args.b.now g12 c.requires.b_is_there in
          division_outcome c.args.whole new inputs (record { divide = c.in_ok-divide.divide; quotient = c.in_ok-overflow.overflow; shift = c.constant.result }) (word_number new inputs c.side.result) av bv
          (Grows-keeps _ _ g23 inputs c.in_ok-divide.divide divide_there ∙ c.in_ok-divide.ensures.value inputs)
          (Grows-keeps _ _ g3 inputs c.in_ok-overflow.overflow overflow_there ∙ c.in_ok-overflow.ensures.value inputs ∙ (λ i. quotient_overflows (a1 i) (b1 i)))
          (ap (lit_value new inputs) c.constant.ensures ∙ false_later old new inputs h g)
          (λ some.
          let some2 = ap (λ (n : Number). int_eq n.value (pos 0)) b2 ∙ some in
          side_value c.args.whole new inputs _ _ c.side.result av bv c.side.ensures
          (both.quotient inputs some2 ∙ (λ i. number_of Div (a2 i) (b2 i))) (both.remainder inputs some2 ∙ (λ i. number_of Rem (a2 i) (b2 i))));
      there = side_there c.args.whole new _ _ c.side.result c.side.ensures both.quotient_there both.remainder_there;
      traps_there = record {
        divide = omega (arith, divide_there, Grows-length _ _ g23);
        quotient = omega (arith, overflow_there, Grows-length _ _ g3);
        shift = subst (λ (x : Lit). x.node < length new) (sym c.constant.ensures) (constant_there old new h g);
      };
      grows = g;
    }
