use Rattle.std.proofs.Common.{◌≡◌, ◌≤◌, ◌+◌, false, length, drop, sym, ap, subst, ◌∙◌, arith}
use Rattle.std.proofs.lemmas.List.{take_rest}
use Rattle.c_tokens.specs.declared.front.Front.{Front}
use Rattle.c_tokens.specs.declared.tokens.TokenClass.TheVariants as class
use Rattle.c_tokens.specs.Fronts.{IsFront}
use Rattle.c_tokens.specs.Quotes.{to_quote}
use Rattle.c_tokens.proofs.QuotedFronts.{character_found, no_closing_quote, no_character_there}
use Rattle.c_tokens.proofs.front.character.Goals as goal

pub returns-in_default-clause-none : goal.returns-in_default-clause-none
returns-in_default-clause-none c =
    no_closing_quote c.args.text.now c.requires.some c.requires.quote (sym (ap (to_quote 39 false) (take_rest c.args.text.now 1)) ∙ sym c.to_quote.ensures.found ∙ c.in_default.is)

pub returns-in-Some-one_character-clause-front : goal.returns-in-Some-one_character-clause-front
returns-in-Some-one_character-clause-front c =
    let text = c.args.text.now in
    let bounds = c.in-Some.ensures in
    let long = ap length (take_rest text 1) in
    subst (λ n. IsFront text (record { class = class.Character n; length = c.in-Some.length + 1 })) (sym c.char_number.ensures)
    (character_found text c.in-Some.length c.in-Some-one_character.value c.requires.some c.requires.quote
    (sym (ap (to_quote 39 false) (take_rest text 1)) ∙ sym c.to_quote.ensures.found ∙ c.in-Some.is) (omega (arith, long, bounds.within)) (sym c.one_character.ensures ∙ c.in-Some-one_character.is))

pub returns-in-None-clause-none : goal.returns-in-None-clause-none
returns-in-None-clause-none c =
    let text = c.args.text.now in
    let bounds = c.in-Some.ensures in
    let long = ap length (take_rest text 1) in
    no_character_there text c.in-Some.length c.requires.some c.requires.quote
    (sym (ap (to_quote 39 false) (take_rest text 1)) ∙ sym c.to_quote.ensures.found ∙ c.in-Some.is) (omega (arith, long, bounds.within)) (sym c.one_character.ensures ∙ c.in-None.is)
