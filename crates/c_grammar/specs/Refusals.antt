-- What a refusal says of the tokens of a file.
use Rattle.std.specs.Prelude.{◌≡◌, ℕ, Bool, true, false, if◌then◌else◌, List, [], Some, slice_get, length}
use Rattle.c_tokens.specs.declared.tokens.TokenClass.{TokenClass}
use Rattle.c_lexer.specs.declared.tokens.Place.{Place}
use Rattle.c_lexer.specs.declared.tokens.Token.{Token}
use Rattle.c_lexer.specs.Texts.{text_of}
use Rattle.c_parser.specs.File.{IsUnexpected, IsUnexpectedEnd, IsTooDeep, IsNoFile}
use Rattle.c_grammar.specs.declared.fault.Cause.{Cause}
use Rattle.c_grammar.specs.declared.fault.Cause.TheVariants as cause
use Rattle.c_grammar.specs.declared.fault.Fault.{Fault}
use Rattle.c_grammar.specs.declared.fault.Fault.TheVariants as fault
use Rattle.c_grammar.specs.Classes.{is_left_out}
use Rattle.c_grammar.specs.Grammar.{rules}
use Rattle.c_grammar.specs.Terminals.{terminals_of}

-- the cause where a token can't stand
abbrev pub unexpected_cause : TokenClass → Cause
unexpected_cause class = if is_left_out class then cause.NotInProfile else cause.Unexpected

-- the fault is want of memory, or says this
abbrev pub Says : Place → Cause → List ℕ → Fault → Type 0
Says place cause text (fault.Refused p c t) = (p ≡ place) × (c ≡ cause) × (t ≡ text)
Says place cause text fault.Memory = Unit {0}

module _ (bytes : List ℕ) (tokens : List Token) where
  -- this place and this text are those of the token at `at`
  pub record IsOf (token : Token) (at : ℕ) (place : Place) (text : List ℕ) : Type 0 where
    pub stands : slice_get tokens at ≡ Some token
    pub its_place : place ≡ token.place
    pub its_text : text ≡ text_of bytes token

  -- The first token up to which no file begins is at this place, and the profile leaves it out or not.
  pub record IsUnexpectedToken (left_out : Bool) (place : Place) (text : List ℕ) : Type 0 where
    pub at : ℕ
    pub token : Token
    pub of : IsOf token at place text
    pub first : IsUnexpected rules (terminals_of bytes tokens) at
    pub profile : is_left_out token.class ≡ left_out

  -- The first token that opens a level too many is at this place.
  pub record IsDeepToken (place : Place) (text : List ℕ) : Type 0 where
    pub at : ℕ
    pub token : Token
    pub of : IsOf token at place text
    pub first : IsTooDeep rules (terminals_of bytes tokens) at

  -- The tokens begin a file, and are none.
  pub record IsNoEnd (end place : Place) (text : List ℕ) : Type 0 where
    pub last : IsUnexpectedEnd rules (terminals_of bytes tokens) (length tokens)
    pub its_place : place ≡ end
    pub no_text : text ≡ []

  -- what a cause says of a place and a text, where the file ends at `end`
  abbrev pub IsRefusedFor : Place → Cause → Place → List ℕ → Type 0
  IsRefusedFor end cause.Unexpected place text = IsUnexpectedToken false place text
  IsRefusedFor end cause.NotInProfile place text = IsUnexpectedToken true place text
  IsRefusedFor end cause.TooDeep place text = IsDeepToken place text
  IsRefusedFor end cause.UnexpectedEnd place text = IsNoEnd end place text

  -- what a fault says: want of memory says nothing
  abbrev pub IsRefusal : Place → Fault → Type 0
  IsRefusal end (fault.Refused place cause text) = IsRefusedFor end cause place text
  IsRefusal end fault.Memory = Unit {0}

  -- a refusal says that the tokens are no file
  abbrev pub HasNoSteps : Fault → Type 0
  HasNoSteps (fault.Refused place cause text) = IsNoFile rules (terminals_of bytes tokens)
  HasNoSteps fault.Memory = Unit {0}
