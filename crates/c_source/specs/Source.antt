-- Which bytes are a C file, and which tree it is; what a refusal of others says.
use Rattle.std.specs.Prelude.{◌≡◌, ℕ, ◌≤◌, List, [], Some, length}
use Rattle.c_lexer.specs.declared.tokens.Place.{Place}
use Rattle.c_syntax.specs.Syntax.{ExternalItem}
use Rattle.c_lexer.specs.declared.faults.Cause.{Cause as LexerCause}
use Rattle.c_lexer.specs.declared.faults.Cause.TheVariants as lexer
use Rattle.c_lexer.specs.declared.tokens.Token.{Token}
use Rattle.c_lexer.specs.Places.{place_after}
use Rattle.c_lexer.specs.Spells.{Spells, IsRefused, max_tokens}
use Rattle.c_parser.specs.declared.symbol.Step.{Step}
use Rattle.c_parser.specs.File.{IsOnly}
use Rattle.c_grammar.specs.declared.grammar.Action.{Action}
use Rattle.c_grammar.specs.declared.fault.Cause.{Cause as ParserCause}
use Rattle.c_grammar.specs.declared.fault.Cause.TheVariants as parser
use Rattle.c_grammar.specs.Grammar.{rules}
use Rattle.c_grammar.specs.Terminals.{terminals_of}
use Rattle.c_grammar.specs.Refusals.{IsRefusedFor}
use Rattle.file_actions.specs.Tree.{items_of}
use Rattle.c_source.specs.declared.refused.Refusal.{Refusal}
use Rattle.c_source.specs.declared.refused.Refused.{Refused}
use Rattle.c_source.specs.declared.refused.Refused.TheVariants as refused

-- The bytes spell tokens, which the grammar reads in one way alone, and the actions make these items of them.
pub record IsSource (bytes : List ℕ) (items : List ExternalItem) : Type 0 where
  pub tokens : List Token
  pub spelled : Spells bytes tokens
  pub few : length tokens ≤ max_tokens
  pub steps : List (Step Action)
  pub only : IsOnly rules (terminals_of bytes tokens) steps
  pub made : items_of bytes tokens steps ≡ Some items

-- the number of a cause
abbrev pub lexer_number : LexerCause → ℕ
lexer_number lexer.BadByte = 1
lexer_number lexer.CommentNotClosed = 2
lexer_number lexer.BadNumber = 3
lexer_number lexer.BadCharacter = 4
lexer_number lexer.BadDirective = 5
lexer_number lexer.BadDefine = 6
lexer_number lexer.TooManyTokens = 7

abbrev pub parser_number : ParserCause → ℕ
parser_number parser.Unexpected = 11
parser_number parser.UnexpectedEnd = 11
parser_number parser.TooDeep = 12
parser_number parser.NotInProfile = 13

-- The refusal says where the bytes stop being tokens, or at which token reading them as a file stops.
pub data IsRefusalOf (bytes : List ℕ) (refusal : Refusal) : Type 0 where
  by_lexer : (cause : LexerCause) → IsRefused bytes refusal.place cause → refusal.cause ≡ lexer_number cause → refusal.word ≡ [] → IsRefusalOf bytes refusal
  by_parser : (tokens : List Token) (cause : ParserCause) → Spells bytes tokens → IsRefusedFor bytes tokens (place_after bytes) cause refusal.place refusal.word
      → refusal.cause ≡ parser_number cause → IsRefusalOf bytes refusal

-- what a fault says: want of memory says nothing
abbrev pub IsFaultOf : List ℕ → Refused → Type 0
IsFaultOf bytes (refused.Source refusal) = IsRefusalOf bytes refusal
IsFaultOf bytes refused.Memory = Unit {0}

-- the bytes are no file
abbrev pub HasNoSource : List ℕ → Refused → Type 0
HasNoSource bytes (refused.Source refusal) = (items : List ExternalItem) → IsSource bytes items → ⊥
HasNoSource bytes refused.Memory = Unit {0}

-- the fault is want of memory, or says this
abbrev pub Says : Place → ℕ → List ℕ → Refused → Type 0
Says place cause word (refused.Source refusal) = (refusal.place ≡ place) × (refusal.cause ≡ cause) × (refusal.word ≡ word)
Says place cause word refused.Memory = Unit {0}
