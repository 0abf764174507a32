-- When one token of look-ahead is enough, by a test that computes.
use Rattle.std.specs.Prelude.{◌≡◌, ℕ, zero, suc, Bool, true, false, not, ◌&&◌, ◌||◌, if◌then◌else◌, List, [], ◌∷◌, Option, Some, None}
use Rattle.c_parser.specs.declared.symbol.Turn.{Turn}
use Rattle.c_parser.specs.declared.symbol.Turn.TheVariants as turn
use Rattle.c_parser.specs.declared.symbol.Symbol.TheVariants as symbol
use Rattle.c_parser.specs.Rules.{Row, Rules, same, is_of}

-- For each line: the classes of tokens that may come first in it, whether it may read nothing, and the
-- classes that may come after it. With it a list of all classes, in the order of their numbers, and one of all lines.
pub record Table (C L : Type 0) : Type 0 where
  pub first : L → List C
  pub empty : L → Bool
  pub follow : L → List C
  pub classes : List C
  pub lines : List L
  pub line_number : L → ℕ

-- whether the turn leaves each token its class
abbrev pub keeps : Turn → Bool
keeps turn.Learn = false
keeps turn.Enter = true
keeps turn.Leave = true

abbrev pub nth : {A : Type 0} → List A → ℕ → Option A
nth [] n = None
nth (x ∷ xs) zero = Some x
nth (x ∷ xs) (suc n) = nth xs n

abbrev pub every : {A : Type 0} → (A → Bool) → List A → Bool
every p [] = true
every p (x ∷ xs) = p x && every p xs

abbrev pub implies : Bool → Bool → Bool
implies true b = b
implies false b = true

-- the first row that passes a test
abbrev pub first_row : {C L A : Type 0} → (Row C L A → Bool) → List (Row C L A) → Option (Row C L A)
first_row p [] = None
first_row p (row ∷ rows) = if p row then Some row else first_row p rows

module _ {C L A : Type 0} (rules : Rules C L A) (table : Table C L) where
  -- whether a token of the class may come first in the row
  abbrev pub may_begin : Row C L A → C → Bool
  may_begin [] c = false
  may_begin (symbol.Token d e ∷ row) c = same rules d c
  may_begin (symbol.Line l ∷ row) c = is_of rules c (table.first l) || (table.empty l && may_begin row c)
  may_begin (symbol.Make a ∷ row) c = may_begin row c
  may_begin (symbol.Turn x ∷ row) c = not (keeps x) || may_begin row c
  may_begin (symbol.NotNext d ∷ row) c = not (same rules d c) && may_begin row c

  -- whether the row may read nothing
  abbrev pub may_be_empty : Row C L A → Bool
  may_be_empty [] = true
  may_be_empty (symbol.Token d e ∷ row) = false
  may_be_empty (symbol.Line l ∷ row) = table.empty l && may_be_empty row
  may_be_empty (symbol.Make a ∷ row) = may_be_empty row
  may_be_empty (symbol.Turn x ∷ row) = may_be_empty row
  may_be_empty (symbol.NotNext d ∷ row) = may_be_empty row

  -- whether the row may read nothing where a token of the class is next
  abbrev pub may_pass : Row C L A → C → Bool
  may_pass [] c = true
  may_pass (symbol.Token d e ∷ row) c = false
  may_pass (symbol.Line l ∷ row) c = table.empty l && may_pass row c
  may_pass (symbol.Make a ∷ row) c = may_pass row c
  may_pass (symbol.Turn x ∷ row) c = may_pass row c
  may_pass (symbol.NotNext d ∷ row) c = not (same rules d c) && may_pass row c

  -- whether a token of the class may be the next one where the line reads this row
  abbrev pub may_go_on : L → Row C L A → C → Bool
  may_go_on l body c = may_begin body c || (may_pass body c && is_of rules c (table.follow l))

  -- at one class: what may come after the lines of a row of `l` may come after them by the table
  abbrev pub follows_at : L → C → Row C L A → Bool
  follows_at l c [] = true
  follows_at l c (symbol.Line m ∷ row) =
      implies (may_begin row c) (is_of rules c (table.follow m))
      && (implies (may_be_empty row) (implies (is_of rules c (table.follow l)) (is_of rules c (table.follow m))) && follows_at l c row)
  follows_at l c (symbol.Token d e ∷ row) = follows_at l c row
  follows_at l c (symbol.Make a ∷ row) = follows_at l c row
  follows_at l c (symbol.Turn x ∷ row) = follows_at l c row
  follows_at l c (symbol.NotNext d ∷ row) = follows_at l c row

  -- at one class: the table says enough of a row of `l`
  abbrev pub row_holds : L → C → Row C L A → Bool
  row_holds l c body = implies (may_begin body c) (is_of rules c (table.first l)) && (implies (may_be_empty body) (table.empty l) && follows_at l c body)

  abbrev pub one_at_most : (Row C L A → Bool) → List (Row C L A) → Bool
  one_at_most p [] = true
  one_at_most p (row ∷ rows) = implies (p row) (every (λ r. not (p r)) rows) && one_at_most p rows

  -- at one class: the table says enough of the line, and one alternative at most goes on
  abbrev pub line_holds : L → C → Bool
  line_holds l c =
      every (row_holds l c) (rules.lines l)
      && (one_at_most (λ row. may_go_on l row c) (rules.lines l) && one_at_most may_be_empty (rules.lines l))

  abbrev pub table_holds : Bool
  table_holds = every (λ l. every (line_holds l) table.classes) table.lines

  -- The table is right: the lists have all classes and all lines, and the test says yes.
  pub record IsRight : Type 0 where
    pub class_at : (c : C) → nth table.classes (rules.number c) ≡ Some c
    pub line_at : (l : L) → nth table.lines (table.line_number l) ≡ Some l
    pub holds : table_holds ≡ true
