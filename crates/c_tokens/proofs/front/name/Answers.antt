use Rattle.std.proofs.Common.{ap, ◌∙◌, take}
use Rattle.c_tokens.specs.Classes.{name_class}
use Rattle.c_tokens.specs.Tables.{keyword_of}
use Rattle.c_tokens.proofs.FrontLemmas.{name_front, same_front}
use Rattle.c_tokens.proofs.front.name.Goals as goal

pub returns : goal.returns
returns c =
    let text = c.args.text.now in
    let length = c.name_length-length.ensures.count in
    let class = c.name_class-class.ensures ∙ ap name_class (c.keyword.ensures ∙ ap (λ n. keyword_of (take n text)) length) in
    same_front text _ _ _ _ class length (name_front text c.requires.some c.requires.letter)
