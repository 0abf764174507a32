-- What a row of symbols reads, and what begins it.
use Rattle.std.specs.Prelude.{◌≡◌, ◌≢◌, ℕ, List, [], ◌∷◌, ◌++◌, Some}
use Rattle.c_parser.specs.declared.symbol.Effect.{Effect}
use Rattle.c_parser.specs.declared.symbol.Turn.{Turn}
use Rattle.c_parser.specs.declared.symbol.Symbol.TheVariants as symbol
use Rattle.c_parser.specs.declared.symbol.Token.{Token}
use Rattle.c_parser.specs.declared.symbol.Step.{Step}
use Rattle.c_parser.specs.declared.symbol.Step.TheVariants as step
use Rattle.c_parser.specs.declared.state.State.{State}
use Rattle.c_parser.specs.State.{class_at, after, turned}
use Rattle.c_parser.specs.Rules.{Row, Rules, OneOf}

-- The next token, if there is one, isn't of this class.
abbrev pub IsNot : {C L A : Type 0} → Rules C L A → State → C → List (Token C) → Type 0
IsNot rules s c [] = Unit {0}
IsNot rules s c (t ∷ ts) = class_at rules s t ≢ c

-- A list of tokens begins a row of symbols: it ends within the row, or it goes on as the row does.
-- `limit` is the number of levels that may be open.
pub data Begins {C L A : Type 0} (rules : Rules C L A) (limit : ℕ) : State → Row C L A → List (Token C) → Type 0 where
  nothing : {s : State} {row : Row C L A} → Begins rules limit s row []
  token : {s : State} {c : C} {e : Effect} {row : Row C L A} {t : Token C} {ts : List (Token C)} {next : State}
      → class_at rules s t ≡ c → after limit e s t ≡ Some next → Begins rules limit next row ts
      → Begins rules limit s (symbol.Token c e ∷ row) (t ∷ ts)
  line : {s : State} {l : L} {row : Row C L A} {ts : List (Token C)} (body : Row C L A)
      → OneOf body (rules.lines l) → Begins rules limit s (body ++ row) ts → Begins rules limit s (symbol.Line l ∷ row) ts
  make : {s : State} {a : A} {row : Row C L A} {ts : List (Token C)}
      → Begins rules limit s row ts → Begins rules limit s (symbol.Make a ∷ row) ts
  turns : {s : State} {x : Turn} {row : Row C L A} {ts : List (Token C)}
      → Begins rules limit (turned x s) row ts → Begins rules limit s (symbol.Turn x ∷ row) ts
  not_next : {s : State} {c : C} {row : Row C L A} {ts : List (Token C)}
      → IsNot rules s c ts → Begins rules limit s row ts → Begins rules limit s (symbol.NotNext c ∷ row) ts

-- A row reads a list of tokens by these steps: each token that it takes and each action that it meets, in order.
pub data Reads {C L A : Type 0} (rules : Rules C L A) (limit : ℕ) : State → Row C L A → List (Token C) → List (Step A) → Type 0 where
  nothing : {s : State} → Reads rules limit s [] [] []
  token : {s : State} {c : C} {e : Effect} {row : Row C L A} {t : Token C} {ts : List (Token C)} {steps : List (Step A)} {next : State}
      → class_at rules s t ≡ c → after limit e s t ≡ Some next → Reads rules limit next row ts steps
      → Reads rules limit s (symbol.Token c e ∷ row) (t ∷ ts) (step.Token ∷ steps)
  line : {s : State} {l : L} {row : Row C L A} {ts : List (Token C)} {steps : List (Step A)} (body : Row C L A)
      → OneOf body (rules.lines l) → Reads rules limit s (body ++ row) ts steps → Reads rules limit s (symbol.Line l ∷ row) ts steps
  make : {s : State} {a : A} {row : Row C L A} {ts : List (Token C)} {steps : List (Step A)}
      → Reads rules limit s row ts steps → Reads rules limit s (symbol.Make a ∷ row) ts (step.Make a ∷ steps)
  turns : {s : State} {x : Turn} {row : Row C L A} {ts : List (Token C)} {steps : List (Step A)}
      → Reads rules limit (turned x s) row ts steps → Reads rules limit s (symbol.Turn x ∷ row) ts steps
  not_next : {s : State} {c : C} {row : Row C L A} {ts : List (Token C)} {steps : List (Step A)}
      → IsNot rules s c ts → Reads rules limit s row ts steps → Reads rules limit s (symbol.NotNext c ∷ row) ts steps
