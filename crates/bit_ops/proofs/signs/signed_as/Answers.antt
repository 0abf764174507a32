use Rattle.std.proofs.Common.{◌≡◌, ◌∙◌, ◌&&◌, true, cond, sym, ap, arith}
use Rattle.aig_build.specs.Circuits.{lit_value}
use Rattle.aig_build.proofs.Nodes.{Grows-keeps, Grows-length, Grows-trans}
use Rattle.rvt_num.specs.declared.operations.UnOp.TheVariants.{Minus}
use Rattle.rvt_num.specs.Kinds.{is_signed}
use Rattle.rvt_num.specs.Operations.{unary_of}
use Rattle.bit_words.specs.declared.cells.Cell.TheVariants.{Choice}
use Rattle.bit_words.specs.Built.{MadeWord, placed_built}
use Rattle.bit_words.specs.Words.{word_number}
use Rattle.bit_words.proofs.RippleCarry.{AreThere-later}
use Rattle.bit_ops.specs.Built.{opposite_built}
use Rattle.bit_ops.proofs.SignValues.{word_later}
use Rattle.bit_ops.proofs.signs.signed_as.Goals as goal

pub select-requires : goal.select-requires
select-requires c = record {
  which_is_there = let t = c.requires.negative_is_there in omega (arith, Grows-length _ _ c.in_ok-other.ensures.grows);
  a_is_there = c.in_ok-other.ensures.there;
  b_is_there = AreThere-later _ _ c.args.a.now.bits c.in_ok-other.ensures.grows c.requires.a_is_there;
  same_kind = sym (ap (λ (m : MadeWord). m.word.kind) c.in_ok-other.ensures.built);
}

pub returns : goal.returns
returns c =
    let e = c.has_sign.ensures in
    let f = c.if-not-has_sign.false in
    let t : is_signed c.args.a.now.kind ≡ true = grind arith in
    let g = c.in_ok-other.ensures.grows in
    let chosen = c.in_ok-word-2.ensures in
    record {
      built =
          ap (λ s. cond s (opposite_built c.args.circuit.now c.args.negative c.args.a.now) (record { nodes = c.args.circuit.now; word = c.args.a.now })) t
          ∙ ap (λ (m : MadeWord). placed_built m.nodes Choice c.args.negative m.word c.args.a.now) c.in_ok-other.ensures.built ∙ chosen.built;
      value = λ inputs.
          chosen.value inputs
          ∙ (λ i. cond (Grows-keeps _ _ g inputs c.args.negative c.requires.negative_is_there i) (c.in_ok-other.ensures.value inputs i) (word_later _ _ inputs c.args.a.now g c.requires.a_is_there i))
          ∙ ap (λ s. cond (s && lit_value c.args.circuit.now inputs c.args.negative) (unary_of Minus (word_number c.args.circuit.now inputs c.args.a.now)) (word_number c.args.circuit.now inputs c.args.a.now)) (sym t);
      same_kind = sym (ap (λ (m : MadeWord). m.word.kind) chosen.built) ∙ sym (ap (λ (m : MadeWord). m.word.kind) c.in_ok-other.ensures.built);
      there = chosen.there;
      grows = Grows-trans _ _ _ g chosen.grows;
    }
