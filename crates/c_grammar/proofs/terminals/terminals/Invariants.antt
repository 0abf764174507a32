use Rattle.std.proofs.Common.{◌≡◌, [], ◌++◌, length}
use Rattle.std.specs.Prelude.{All}
use Rattle.c_lexer.specs.Texts.{StandsIn}
use Rattle.c_grammar.specs.Terminals.{names_after, terminals_by}
use Rattle.c_grammar.proofs.terminals.terminals.Given as goal

abbrev pub invariant-tokens : goal.invariant-tokens
invariant-tokens l = record {
  within : All (StandsIn l.bytes) l.left;
  known : names_after l.names l.bytes l.left ≡ names_after [] l.bytes l.tokens;
  so_far : l.terminals.items ++ terminals_by (names_after [] l.bytes l.tokens) l.bytes l.left ≡ terminals_by (names_after [] l.bytes l.tokens) l.bytes l.tokens;
}

abbrev pub decreases-tokens : goal.decreases-tokens
decreases-tokens l = length l.left
