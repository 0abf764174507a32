use Rattle.std.proofs.Common.{subst}
use Rattle.c_grammar.specs.Refusals.{IsRefusal, IsRefusedFor, HasNoSteps}
use Rattle.c_source.specs.Source.{by_parser}
use Rattle.c_source.proofs.Refusing.{no_steps_none}
use Rattle.c_source.proofs.reader.unread.Goals as goal

pub returns-in-Refused-clause-refused : goal.returns-in-Refused-clause-refused
returns-in-Refused-clause-refused c =
    by_parser c.args.tokens.now c.in-Refused.cause c.requires.spelled
    (subst (λ e. IsRefusedFor c.args.bytes.now c.args.tokens.now e c.in-Refused.cause c.in-Refused.place c.in-Refused.word) c.requires.last
    (subst (IsRefusal c.args.bytes.now c.args.tokens.now c.args.«end») c.in-Refused.is c.requires.refused))
    c.parser_number.ensures

pub returns-in-Refused-clause-none : goal.returns-in-Refused-clause-none
returns-in-Refused-clause-none c =
    no_steps_none c.args.bytes.now c.args.tokens.now c.requires.only (subst (HasNoSteps c.args.bytes.now c.args.tokens.now) c.in-Refused.is c.requires.none)
