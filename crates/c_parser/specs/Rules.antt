-- A grammar: its lines, each with its alternatives, and the classes of names.
use Rattle.std.specs.Prelude.{ℕ, Bool, false, ◌||◌, ◌==◌, List, [], ◌∷◌}
use Rattle.c_parser.specs.declared.symbol.Symbol.{Symbol}

abbrev pub Row : Type 0 → Type 0 → Type 0 → Type 0
Row C L A = List (Symbol C L A)

pub record Rules (C L A : Type 0) : Type 0 where
  -- the alternatives of each line
  pub lines : L → List (Row C L A)
  -- the line of a whole file
  pub start : L
  -- the number of a class, by which classes are told apart
  pub number : C → ℕ
  -- the class of names, and that of those that a typedef has declared
  pub name : C
  pub type_name : C

-- The row is one of these.
pub data OneOf {C L A : Type 0} (row : Row C L A) : List (Row C L A) → Type 0 where
  here : {rows : List (Row C L A)} → OneOf row (row ∷ rows)
  later : {other : Row C L A} {rows : List (Row C L A)} → OneOf row rows → OneOf row (other ∷ rows)

-- the same class
abbrev pub same : {C L A : Type 0} → Rules C L A → C → C → Bool
same rules c d = rules.number c == rules.number d

-- whether a class is one of these
abbrev pub is_of : {C L A : Type 0} → Rules C L A → C → List C → Bool
is_of rules c [] = false
is_of rules c (d ∷ ds) = same rules d c || is_of rules c ds
