use Rattle.std.proofs.Common.{sym, ◌∙◌, ap, subst}
use Rattle.c_lexer.specs.Starts.{IsWrong, no_token, token, bad_token}
use Rattle.c_lexer.proofs.StartLemmas.{not_empty}
use Rattle.c_lexer.proofs.starts.token.Goals as goal

pub returns-in-Ok-clause-stands : goal.returns-in-Ok-clause-stands
returns-in-Ok-clause-stands c = token c.in-Ok.front c.requires.start c.in-Ok.ensures.front

pub returns-in-Err-clause-wrong : goal.returns-in-Err-clause-wrong
returns-in-Err-clause-wrong c =
    subst (λ wrong. IsWrong c.args.text.now wrong) (sym (c.no_token.ensures ∙ ap no_token c.in-Err.ensures.why))
    (bad_token (not_empty c.args.text.now c.requires.some) c.requires.start c.in-Err.ensures.none)
