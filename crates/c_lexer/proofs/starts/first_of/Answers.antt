use Rattle.std.proofs.Common.{sym, ◌∙◌, ap, subst, arith, None}
use Rattle.c_lexer.specs.Starts.{StandsFirst, space, line_comment, block_comment, open_comment}
use Rattle.c_lexer.proofs.StartLemmas.{block_two, line_comment_some, nothing_in_empty}
use Rattle.c_lexer.proofs.starts.first_of.Goals as goal

pub returns-in-Space-clause-stands : goal.returns-in-Space-clause-stands
returns-in-Space-clause-stands c =
    let n = nothing_in_empty in
    subst (λ first. StandsFirst c.args.text.now first.length first.class) (sym c.gap.ensures) (space (sym c.start_of.ensures ∙ c.in-Space.is))

pub returns-in-LineComment-clause-stands : goal.returns-in-LineComment-clause-stands
returns-in-LineComment-clause-stands c =
    subst (λ first. StandsFirst c.args.text.now first.length first.class) (sym (c.gap-in-LineComment.ensures ∙ ap (λ n. record { length = n; class = None }) c.line_length.ensures.count))
    (line_comment (sym c.start_of.ensures ∙ c.in-LineComment.is))

pub returns-in-LineComment-clause-some : goal.returns-in-LineComment-clause-some
returns-in-LineComment-clause-some c =
    let some = line_comment_some c.args.text.now (sym c.start_of.ensures ∙ c.in-LineComment.is) in
    omega (arith, some, c.line_length.ensures.count, ap (λ first. first.length) c.gap-in-LineComment.ensures)

pub returns-in-Some-clause-stands : goal.returns-in-Some-clause-stands
returns-in-Some-clause-stands c =
    subst (λ first. StandsFirst c.args.text.now first.length first.class) (sym c.gap-in-Some.ensures)
    (block_comment (sym c.start_of.ensures ∙ c.in-BlockComment.is) (sym c.in-Some.ensures.length))

pub returns-in-None-clause-wrong : goal.returns-in-None-clause-wrong
returns-in-None-clause-wrong c = open_comment (sym c.start_of.ensures ∙ c.in-BlockComment.is) (sym c.in-None.ensures.length)
