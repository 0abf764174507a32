use Rattle.std.proofs.Common.{◌≡◌, ◌∙◌, sym, subst}
use Rattle.rvt_num.specs.declared.kinds.Kind.{Kind}
use Rattle.rvt_num.specs.Kinds.{promoted_kind}
use Rattle.bit_words.proofs.RippleCarry.{AreThere-later}
use Rattle.word_examples.proofs.tests.built.Goals as goal

pub word_op-requires : goal.word_op-requires
word_op-requires c =
    let a = c.in_ok-a.ensures.kind in
    let b = c.in_ok-b.ensures.kind in
    record {
      a_is_there = AreThere-later _ _ c.in_ok-a.a.bits c.in_ok-b.ensures.grows c.in_ok-a.ensures.there;
      b_is_there = c.in_ok-b.ensures.there;
      a_promoted = subst (λ (k : Kind). promoted_kind k ≡ k) (sym a) c.requires;
      b_promoted = subst (λ (k : Kind). promoted_kind k ≡ k) (sym b) c.requires;
      same_kind = λ _. a ∙ sym b;
    }
