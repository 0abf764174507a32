use Rattle.std.proofs.Common.{List, length, ap, ◌∙◌}
use Rattle.c_parser.specs.declared.symbol.Token.{Token as Terminal}
use Rattle.c_grammar.specs.declared.grammar.Class.{Class}
use Rattle.c_grammar.proofs.Refusing.{as_many}
use Rattle.c_grammar.proofs.reader.steps.Goals as goal

pub returns-in-Ok-clause-taken : goal.returns-in-Ok-clause-taken
returns-in-Ok-clause-taken c =
    c.in-Ok.ensures.taken
    ∙ ap (λ (ts : List (Terminal Class)). length ts) (c.deref.ensures.value ∙ c.in_ok-terminals.ensures.terminals)
    ∙ as_many c.args.bytes.now c.args.tokens.now
