use Rattle.c_grammar.proofs.Numbered.{numbered}
use Rattle.c_grammar.proofs.laws.names_are_numbered.Goals as goal

pub returns : goal.returns
returns c = numbered c.args._bytes.now c.args._tokens.now
