-- Where the machine stands, and what a step of it answers.
use Rattle.std.specs.Prelude.{◌≡◌, ℕ, ◌≤◌, true, List, [], ◌∷◌, ◌++◌, length, take, drop, Result, Ok, Err}
use Rattle.c_parser.specs.declared.symbol.Symbol.{Symbol}
use Rattle.c_parser.specs.declared.symbol.Symbol.TheVariants as symbol
use Rattle.c_parser.specs.declared.symbol.Token.{Token}
use Rattle.c_parser.specs.declared.symbol.Step.{Step}
use Rattle.c_parser.specs.declared.fault.Fault.{Fault}
use Rattle.c_parser.specs.declared.state.State.{State}
use Rattle.c_parser.specs.declared.machine.Machine.{Machine}
use Rattle.c_parser.specs.State.{max_levels}
use Rattle.c_parser.specs.Rules.{Row, Rules, is_of}
use Rattle.c_parser.specs.LookAhead.{Table, may_begin}
use Rattle.c_parser.specs.Rows.{Begins, Reads}
use Rattle.c_parser.specs.File.{IsFile, BeginsFile, IsAnswered}

module _ {C L A : Type 0} (rules : Rules C L A) (table : Table C L) where
  -- By the table, what may come after a line that stands in a row may come after the line.
  abbrev pub Follows : Row C L A → Type 0
  Follows [] = Unit {0}
  Follows (symbol.Line l ∷ row) = ((c : C) → may_begin rules table row c ≡ true → is_of rules c (table.follow l) ≡ true) × Follows row
  Follows (symbol.Token d e ∷ row) = Follows row
  Follows (symbol.Make a ∷ row) = Follows row
  Follows (symbol.Turn x ∷ row) = Follows row
  Follows (symbol.NotNext d ∷ row) = Follows row

  -- After these steps, reading the file is the same as reading the row from here on, and so is beginning it.
  pub record Stands (tokens : List (Token C)) (s : State) (row : Row C L A) (rest : List (Token C)) (done : List (Step A)) : Type 0 where
    pub seen : List (Token C)
    pub whole : seen ++ rest ≡ tokens
    pub follows : Follows row
    pub begins_from : (limit : ℕ) → max_levels ≤ limit → (n : ℕ) → Begins rules limit s row (take n rest) → BeginsFile rules limit (seen ++ take n rest)
    pub begins_to : (limit : ℕ) → max_levels ≤ limit → (n : ℕ) → BeginsFile rules limit (seen ++ take n rest) → Begins rules limit s row (take n rest)
    pub reads_from : (limit : ℕ) → max_levels ≤ limit → (steps : List (Step A)) → Reads rules limit s row rest steps → IsFile rules limit tokens (done ++ steps)
    pub reads_to : (limit : ℕ) → max_levels ≤ limit → (all : List (Step A)) → IsFile rules limit tokens all
        → (steps : List (Step A)) × (done ++ steps ≡ all) × Reads rules limit s row rest steps

  pub record StandsBy (tokens : List (Token C)) (row : Row C L A) (m : Machine C L A) : Type 0 where
    pub within : m.at ≤ length tokens
    pub stands : Stands tokens m.state row (drop m.at tokens) m.steps.items

  -- before this symbol, which was taken off the row
  abbrev pub StandsBefore : List (Token C) → Symbol C L A → Machine C L A → Type 0
  StandsBefore tokens symbol m = StandsBy tokens (symbol ∷ m.row) m

  abbrev pub StandsAt : List (Token C) → Machine C L A → Type 0
  StandsAt tokens m = StandsBy tokens m.row m

  -- what a step answers: a machine that stands too, or a refusal that is right
  abbrev pub Advances : List (Token C) → Result (Machine C L A) Fault → Type 0
  Advances tokens (Ok m) = StandsAt tokens m
  Advances tokens (Err e) = IsAnswered rules tokens e
