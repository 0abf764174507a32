use Rattle.std.proofs.Common.{◌∙◌, sym, subst}
use Rattle.aig_build.proofs.Nodes.{Grows-refl}
use Rattle.bit_words.specs.Words.{LitWord, AreThere}
use Rattle.bit_words.proofs.ConvertValues.{AreThere-resized, convert_other, resized_is}
use Rattle.bit_words.proofs.PlacedValues.{IsWord}
use Rattle.bit_words.proofs.unaries.word_convert.Goals as goal

pub returns-in_ok-word-in_default : goal.returns-in_ok-word-in_default
returns-in_ok-word-in_default c =
    let word : IsWord c.args.circuit.now c.args.a.now = record { there = c.requires.a_is_there; wide = c.resize.ensures.wide } in
    let bits = c.in_ok-word-in_default.ensures.bits in
    record {
      built = convert_other _ _ _ c.in_default.not-Bool ∙ (λ i. record { nodes = c.args.circuit.now; word = sym bits i });
      value = resized_is _ _ c.args.a.now _ c.nodes-count.ensures.circuit word c.in_default.not-Bool bits;
      there = subst (λ (w : LitWord). AreThere c.args.circuit.now w.bits) (sym bits) (AreThere-resized _ _ c.args.a.now c.nodes-count.ensures.circuit word);
      grows = Grows-refl _;
    }
