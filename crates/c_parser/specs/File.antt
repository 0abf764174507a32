-- What a file's tokens are to its steps, and which token is refused.
use Rattle.std.specs.Prelude.{◌≡◌, ℕ, suc, List, [], ◌∷◌, ◌++◌, length}
use Rattle.c_parser.specs.declared.symbol.Symbol.TheVariants as symbol
use Rattle.c_parser.specs.declared.symbol.Token.{Token}
use Rattle.c_parser.specs.declared.symbol.Step.{Step}
use Rattle.c_parser.specs.declared.symbol.Step.TheVariants as step
use Rattle.c_parser.specs.declared.fault.Cause.{Cause}
use Rattle.c_parser.specs.declared.fault.Cause.TheVariants as cause
use Rattle.c_parser.specs.declared.fault.Fault.{Fault}
use Rattle.c_parser.specs.declared.fault.Fault.TheVariants as fault
use Rattle.c_parser.specs.State.{start, max_levels}
use Rattle.c_parser.specs.Rules.{Row, Rules}
use Rattle.c_parser.specs.Rows.{Begins, Reads}

-- how many tokens the steps take
abbrev pub taken : {A : Type 0} → List (Step A) → ℕ
taken [] = 0
taken (step.Token ∷ steps) = suc (taken steps)
taken (step.Make a ∷ steps) = taken steps

module _ {C L A : Type 0} (rules : Rules C L A) where
  abbrev pub the_file : Row C L A
  the_file = symbol.Line rules.start ∷ []

  -- The tokens are a file, within so many levels, and these are its steps.
  abbrev pub IsFile : ℕ → List (Token C) → List (Step A) → Type 0
  IsFile limit ts steps = Reads rules limit start the_file ts steps

  -- The tokens begin a file, within so many levels.
  abbrev pub BeginsFile : ℕ → List (Token C) → Type 0
  BeginsFile limit ts = Begins rules limit start the_file ts

  -- The only steps of the tokens, however many levels may be open.
  pub record IsOnly (tokens : List (Token C)) (steps : List (Step A)) : Type 0 where
    pub is : IsFile max_levels tokens steps
    pub only : (limit : ℕ) (other : List (Step A)) → IsFile limit tokens other → other ≡ steps

  -- The token at `at` is the first such that those before it begin a file and those up to it don't,
  -- however many levels may be open.
  pub record IsUnexpected (tokens : List (Token C)) (at : ℕ) : Type 0 where
    pub seen : List (Token C)
    pub next : Token C
    pub rest : List (Token C)
    pub whole : seen ++ next ∷ rest ≡ tokens
    pub place : length seen ≡ at
    pub before : BeginsFile max_levels seen
    pub never : (limit : ℕ) → BeginsFile limit (seen ++ next ∷ []) → ⊥

  -- The token at `at` opens a level too many: those up to it begin a file, but not within the levels.
  pub record IsTooDeep (tokens : List (Token C)) (at : ℕ) : Type 0 where
    pub seen : List (Token C)
    pub next : Token C
    pub rest : List (Token C)
    pub whole : seen ++ next ∷ rest ≡ tokens
    pub place : length seen ≡ at
    pub before : BeginsFile max_levels seen
    pub never : BeginsFile max_levels (seen ++ next ∷ []) → ⊥
    pub more : ℕ
    pub deeper : BeginsFile more (seen ++ next ∷ [])

  -- The tokens begin a file, and are none.
  pub record IsUnexpectedEnd (tokens : List (Token C)) (at : ℕ) : Type 0 where
    pub place : length tokens ≡ at
    pub before : BeginsFile max_levels tokens
    pub never : (limit : ℕ) (steps : List (Step A)) → IsFile limit tokens steps → ⊥

  -- what a refusal says
  abbrev pub IsRefusal : List (Token C) → ℕ → Cause → Type 0
  IsRefusal tokens at cause.Unexpected = IsUnexpected tokens at
  IsRefusal tokens at cause.UnexpectedEnd = IsUnexpectedEnd tokens at
  IsRefusal tokens at cause.TooDeep = IsTooDeep tokens at

  -- what a fault says: want of memory says nothing
  abbrev pub IsAnswered : List (Token C) → Fault → Type 0
  IsAnswered tokens fault.Memory = Unit {0}
  IsAnswered tokens (fault.Refused at cause) = IsRefusal tokens at cause

  -- The tokens are no file within the levels.
  abbrev pub IsNoFile : List (Token C) → Type 0
  IsNoFile tokens = (steps : List (Step A)) → IsFile max_levels tokens steps → ⊥

  -- a refusal says that the tokens are no file
  abbrev pub IsRefused : List (Token C) → Fault → Type 0
  IsRefused tokens fault.Memory = Unit {0}
  IsRefused tokens (fault.Refused at cause) = IsNoFile tokens
