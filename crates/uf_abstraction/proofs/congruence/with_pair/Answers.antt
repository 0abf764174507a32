use Rattle.std.proofs.Common.{◌∙◌, sym, subst}
use Rattle.bit_words.proofs.RippleCarry.{AreThere-later}
use Rattle.bit_words.specs.Words.{AreThere}
use Rattle.uf_abstraction.proofs.congruence.with_pair.Goals as goal

pub equal-requires-2-clause-first_is_there : goal.equal-requires-2-clause-first_is_there
equal-requires-2-clause-first_is_there c =
    subst (AreThere c.equal.new.circuit) (sym (c.deref-3.ensures.value ∙ c.in_ok-earlier_answer.ensures)) (AreThere-later _ _ _ c.in_ok-keys.ensures.grows c.requires.earlier_is_there.answer)

pub equal-requires-2-clause-second_is_there : goal.equal-requires-2-clause-second_is_there
equal-requires-2-clause-second_is_there c =
    subst (AreThere c.equal.new.circuit) (sym (c.deref-4.ensures.value ∙ c.in_ok-answer.ensures)) (AreThere-later _ _ _ c.in_ok-keys.ensures.grows c.requires.this_is_there.answer)
