use Rattle.std.proofs.Common.{[], subst}
use Rattle.c_lexer.specs.Texts.{StandsIn}
use Rattle.c_parser.specs.File as file
use Rattle.c_parser.specs.declared.fault.Cause.{Cause}
use Rattle.c_grammar.specs.declared.fault.Cause.TheVariants as cause
use Rattle.c_grammar.specs.Grammar.{rules}
use Rattle.c_grammar.specs.Terminals.{terminals_of}
use Rattle.c_grammar.proofs.Refusing.{all_at, unexpected_inside, deep_inside, refusal_of, end_for}
use Rattle.c_grammar.proofs.reader.refusal.Goals as goal

pub token_at-token-requires : goal.token_at-token-requires
token_at-token-requires c =
    let tokens = c.args.tokens.now in
    deep_inside c.args.bytes.now tokens c.args.at (subst (λ (why : Cause). file.IsRefusal rules (terminals_of c.args.bytes.now tokens) c.args.at why) c.in-TooDeep.is c.requires.refused)

pub text-requires : goal.text-requires
text-requires c = all_at (StandsIn c.args.bytes.now) c.args.tokens.now c.args.at c.token_at-token.result c.requires.within c.token_at-token.ensures

pub token_at-token-requires-in-Unexpected : goal.token_at-token-requires-in-Unexpected
token_at-token-requires-in-Unexpected c =
    let tokens = c.args.tokens.now in
    unexpected_inside c.args.bytes.now tokens c.args.at (subst (λ (why : Cause). file.IsRefusal rules (terminals_of c.args.bytes.now tokens) c.args.at why) c.in-Unexpected.is c.requires.refused)

pub text-requires-in-Unexpected : goal.text-requires-in-Unexpected
text-requires-in-Unexpected c = all_at (StandsIn c.args.bytes.now) c.args.tokens.now c.args.at c.token_at-token-in-Unexpected.result c.requires.within c.token_at-token-in-Unexpected.ensures

pub returns-in-UnexpectedEnd : goal.returns-in-UnexpectedEnd
returns-in-UnexpectedEnd c =
    let bytes = c.args.bytes.now in
    let tokens = c.args.tokens.now in
    refusal_of bytes tokens c.args.end c.args.end cause.UnexpectedEnd [] c.said.result c.said.ensures
    (end_for bytes tokens c.args.end c.args.at (subst (λ (why : Cause). file.IsRefusal rules (terminals_of bytes tokens) c.args.at why) c.in-UnexpectedEnd.is c.requires.refused))
