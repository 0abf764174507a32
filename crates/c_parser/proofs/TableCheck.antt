-- What the test of the table gives.
use Rattle.std.proofs.Common.{◌≡◌, Bool, true, not, ◌&&◌, List, [], ◌∷◌, refl}
use Rattle.c_parser.specs.declared.symbol.Symbol.TheVariants as symbol
use Rattle.c_parser.specs.Rules.{Row, Rules, OneOf, here, later, is_of}
use Rattle.c_parser.specs.LookAhead.{Table, IsRight, every, implies, may_begin, may_be_empty, may_go_on, follows_at, row_holds, one_at_most, line_holds}
use Rattle.c_parser.proofs.Booleans.{and_true, implied, not_true, every_at}

module _ {C L A : Type 0} (rules : Rules C L A) (table : Table C L) where
  -- what may come after the lines of a row of the line `l` may come after them by the table
  abbrev pub FollowsIn : L → Row C L A → Type 0
  FollowsIn l [] = Unit {0}
  FollowsIn l (symbol.Line m ∷ row) =
      ((c : C) → may_begin rules table row c ≡ true → is_of rules c (table.follow m) ≡ true)
      × (may_be_empty rules table row ≡ true → (c : C) → is_of rules c (table.follow l) ≡ true → is_of rules c (table.follow m) ≡ true)
      × FollowsIn l row
  FollowsIn l (symbol.Token d e ∷ row) = FollowsIn l row
  FollowsIn l (symbol.Make a ∷ row) = FollowsIn l row
  FollowsIn l (symbol.Turn x ∷ row) = FollowsIn l row
  FollowsIn l (symbol.NotNext d ∷ row) = FollowsIn l row

  -- The table says enough of the lines.
  pub record Holds : Type 0 where
    pub first : (l : L) (body : Row C L A) → OneOf body (rules.lines l) → (c : C) → may_begin rules table body c ≡ true → is_of rules c (table.first l) ≡ true
    pub empty : (l : L) (body : Row C L A) → OneOf body (rules.lines l) → may_be_empty rules table body ≡ true → table.empty l ≡ true
    pub follows : (l : L) (body : Row C L A) → OneOf body (rules.lines l) → FollowsIn l body

  -- This row alone of the line's can be read where a token of the class is next.
  pub record Chosen (l : L) (c : C) (body : Row C L A) : Type 0 where
    pub one : OneOf body (rules.lines l)
    pub only : (other : Row C L A) → OneOf other (rules.lines l) → may_go_on rules table l other c ≡ true → other ≡ body

  -- The same where no token is left.
  pub record ChosenAtEnd (l : L) (body : Row C L A) : Type 0 where
    pub one : OneOf body (rules.lines l)
    pub only : (other : Row C L A) → OneOf other (rules.lines l) → may_be_empty rules table other ≡ true → other ≡ body

  every_row : (p : Row C L A → Bool) (rows : List (Row C L A)) (row : Row C L A) → every p rows ≡ true → OneOf row rows → p row ≡ true
  every_row p [] row h one = elim one [ ]
  every_row p (x ∷ rows) row h here = (and_true (p x) (every p rows) h).0
  every_row p (x ∷ rows) row h (later one) = every_row p rows row (and_true (p x) (every p rows) h).1 one

  -- of rows that pass a test there is one at most
  abbrev most : (Row C L A → Bool) → List (Row C L A) → Bool
  most p rows = one_at_most rules table p rows

  one_row : (p : Row C L A → Bool) (rows : List (Row C L A)) (a b : Row C L A) → one_at_most rules table p rows ≡ true
      → OneOf a rows → OneOf b rows → p a ≡ true → p b ≡ true → a ≡ b
  one_row p [] a b h one two pa pb = elim one [ ]
  one_row p (x ∷ rows) a b h here here pa pb = refl
  one_row p (x ∷ rows) a b h here (later two) pa pb =
      let rest = implied (p x) (every (λ r. not (p r)) rows) (and_true (implies (p x) (every (λ r. not (p r)) rows)) (most p rows) h).0 pa in
      absurd (not_true (p b) (every_row (λ r. not (p r)) rows b rest two) pb)
  one_row p (x ∷ rows) a b h (later one) here pa pb =
      let rest = implied (p x) (every (λ r. not (p r)) rows) (and_true (implies (p x) (every (λ r. not (p r)) rows)) (most p rows) h).0 pb in
      absurd (not_true (p a) (every_row (λ r. not (p r)) rows a rest one) pa)
  one_row p (x ∷ rows) a b h (later one) (later two) pa pb =
      one_row p rows a b (and_true (implies (p x) (every (λ r. not (p r)) rows)) (most p rows) h).1 one two pa pb

  module _ (right : IsRight rules table) where
    at : (l : L) (c : C) → line_holds rules table l c ≡ true
    at l c =
        every_at (line_holds rules table l) table.classes (rules.number c) c
        (every_at (λ m. every (line_holds rules table m) table.classes) table.lines (table.line_number l) l right.holds (right.line_at l))
        (right.class_at c)

    rows_hold : (l : L) (body : Row C L A) → OneOf body (rules.lines l) → (c : C) → row_holds rules table l c body ≡ true
    rows_hold l body one c = every_row (row_holds rules table l c) (rules.lines l) body (and_true (every (row_holds rules table l c) (rules.lines l)) _ (at l c)).0 one

    -- the two tests of one alternative at most
    one_goes_on : (l : L) (c : C) → most (λ row. may_go_on rules table l row c) (rules.lines l) ≡ true
    one_goes_on l c =
        (and_true (most (λ row. may_go_on rules table l row c) (rules.lines l)) (most (may_be_empty rules table) (rules.lines l))
        (and_true (every (row_holds rules table l c) (rules.lines l)) _ (at l c)).1).0

    one_is_empty : (l : L) (c : C) → most (may_be_empty rules table) (rules.lines l) ≡ true
    one_is_empty l c =
        (and_true (most (λ row. may_go_on rules table l row c) (rules.lines l)) (most (may_be_empty rules table) (rules.lines l))
        (and_true (every (row_holds rules table l c) (rules.lines l)) _ (at l c)).1).1

    -- the three parts of `row_holds`
    row_first : (l : L) (c : C) (body : Row C L A) → row_holds rules table l c body ≡ true → implies (may_begin rules table body c) (is_of rules c (table.first l)) ≡ true
    row_first l c body h = (and_true (implies (may_begin rules table body c) (is_of rules c (table.first l))) _ h).0

    row_empty : (l : L) (c : C) (body : Row C L A) → row_holds rules table l c body ≡ true → implies (may_be_empty rules table body) (table.empty l) ≡ true
    row_empty l c body h =
        (and_true (implies (may_be_empty rules table body) (table.empty l)) _ (and_true (implies (may_begin rules table body c) (is_of rules c (table.first l))) _ h).1).0

    row_follows : (l : L) (c : C) (body : Row C L A) → row_holds rules table l c body ≡ true → follows_at rules table l c body ≡ true
    row_follows l c body h =
        (and_true (implies (may_be_empty rules table body) (table.empty l)) _ (and_true (implies (may_begin rules table body c) (is_of rules c (table.first l))) _ h).1).1

    follows_in : (l : L) (row : Row C L A) → ((c : C) → follows_at rules table l c row ≡ true) → FollowsIn l row
    follows_in l [] h = tt
    follows_in l (symbol.Token d e ∷ row) h = follows_in l row h
    follows_in l (symbol.Make a ∷ row) h = follows_in l row h
    follows_in l (symbol.Turn x ∷ row) h = follows_in l row h
    follows_in l (symbol.NotNext d ∷ row) h = follows_in l row h
    follows_in l (symbol.Line m ∷ row) h =
        let first : (c : C) → implies (may_begin rules table row c) (is_of rules c (table.follow m)) ≡ true =
        λ c. (and_true (implies (may_begin rules table row c) (is_of rules c (table.follow m))) _ (h c)).0 in
        let others : (c : C) → (implies (may_be_empty rules table row) (implies (is_of rules c (table.follow l)) (is_of rules c (table.follow m))) && follows_at rules table l c row) ≡ true =
        λ c. (and_true (implies (may_begin rules table row c) (is_of rules c (table.follow m))) _ (h c)).1 in (
          (λ c begins. implied _ _ (first c) begins),
          (λ empties c follows.
              implied _ _ (implied _ _ (and_true (implies (may_be_empty rules table row) (implies (is_of rules c (table.follow l)) (is_of rules c (table.follow m)))) _ (others c)).0 empties) follows),
          follows_in l row (λ c. (and_true (implies (may_be_empty rules table row) (implies (is_of rules c (table.follow l)) (is_of rules c (table.follow m)))) _ (others c)).1),
        )

    pub holds : Holds
    holds = record {
      first = λ l body one c begins. implied _ _ (row_first l c body (rows_hold l body one c)) begins;
      empty = λ l body one empties. implied _ _ (row_empty l rules.name body (rows_hold l body one rules.name)) empties;
      follows = λ l body one. follows_in l body (λ c. row_follows l c body (rows_hold l body one c));
    }

    -- a row that can go on is the only one
    pub chosen : (l : L) (c : C) (body : Row C L A) → OneOf body (rules.lines l) → may_go_on rules table l body c ≡ true → Chosen l c body
    chosen l c body one goes = record {
      one = one;
      only = λ other two again. one_row (λ row. may_go_on rules table l row c) (rules.lines l) other body (one_goes_on l c) two one again goes;
    }

    pub chosen_at_end : (l : L) (body : Row C L A) → OneOf body (rules.lines l) → may_be_empty rules table body ≡ true → ChosenAtEnd l body
    chosen_at_end l body one goes = record {
      one = one;
      only = λ other two again. one_row (may_be_empty rules table) (rules.lines l) other body (one_is_empty l rules.name) two one again goes;
    }
