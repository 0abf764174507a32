use Rattle.std.proofs.Common.{Some, None, List, ℕ, lit<, sym, ◌∙◌, ap}
use Rattle.std.proofs.lemmas.Str.Pattern.{split_parts}
use Rattle.command_words.specs.Spellings.{cut}
use Rattle.command_words.proofs.SpellingLemmas.{Cut, cut_none, cut_some}
use Rattle.command_words.proofs.lines.cut.Goals as goal

pub returns-in-Some-clause-name : goal.returns-in-Some-clause-name
returns-in-Some-clause-name c =
    let parts = split_parts 61 c.args.text.now (Some (c.in-Some.name, c.in-Some.value)) c.in-Some.ensures.cases (lit< tt) in
    sym (ap (λ (text : List ℕ). (cut text).0) parts.0 ∙ ap (λ (r : Cut). r.0) (cut_some c.in-Some.name.now c.in-Some.value.now parts.1))

pub returns-in-Some-clause-value : goal.returns-in-Some-clause-value
returns-in-Some-clause-value c =
    let parts = split_parts 61 c.args.text.now (Some (c.in-Some.name, c.in-Some.value)) c.in-Some.ensures.cases (lit< tt) in
    sym (ap (λ (text : List ℕ). (cut text).1) parts.0 ∙ ap (λ (r : Cut). r.1) (cut_some c.in-Some.name.now c.in-Some.value.now parts.1))

pub returns-in-None-clause-name : goal.returns-in-None-clause-name
returns-in-None-clause-name c = sym (ap (λ (r : Cut). r.0) (cut_none c.args.text.now (split_parts 61 c.args.text.now None c.in-None.ensures.cases (lit< tt))))

pub returns-in-None-clause-value : goal.returns-in-None-clause-value
returns-in-None-clause-value c = sym (ap (λ (r : Cut). r.1) (cut_none c.args.text.now (split_parts 61 c.args.text.now None c.in-None.ensures.cases (lit< tt))))
