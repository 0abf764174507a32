use Rattle.bit_words.proofs.PlacedValues.{choice_is}
use Rattle.bit_words.proofs.places.select.Goals as goal

pub returns-clause-value : goal.returns-clause-value
returns-clause-value c = λ inputs.
    choice_is _ _ c.args.which c.args.a.now c.args.b.now _ c.nodes-count.ensures.circuit c.requires.which_is_there
    (record { there = c.requires.a_is_there; wide = c.places.ensures.a_wide }) (record { there = c.requires.b_is_there; wide = c.places.ensures.b_wide })
    c.requires.same_kind c.in_ok-word.ensures.built inputs
