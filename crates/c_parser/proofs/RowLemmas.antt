-- One token of look-ahead is enough.
use Rattle.std.proofs.Common.{◌≡◌, ℕ, true, false, not, ◌&&◌, zero, suc, List, [], ◌∷◌, ◌++◌, refl, sym, ap, subst, length, take, ◌⊎◌, inl, inr}
use Rattle.c_parser.specs.declared.symbol.Turn.{Turn}
use Rattle.c_parser.specs.declared.symbol.Turn.TheVariants as turn
use Rattle.c_parser.specs.declared.symbol.Symbol.TheVariants as symbol
use Rattle.c_parser.specs.declared.symbol.Token.{Token}
use Rattle.c_parser.specs.declared.symbol.Step.{Step}
use Rattle.c_parser.specs.declared.state.State.{State}
use Rattle.c_parser.specs.Rules.{Row, Rules, OneOf, same, is_of}
use Rattle.c_parser.specs.LookAhead.{Table, IsRight, may_begin, may_be_empty, may_pass, may_go_on}
use Rattle.c_parser.specs.State.{class_at, left, turned}
use Rattle.c_parser.specs.Rows.{Begins, Reads, IsNot}
use Rattle.c_parser.specs.File.{taken}
use Rattle.c_parser.specs.Stands.{Follows}
use Rattle.c_parser.proofs.Booleans.{and_true, both, or_true, either_left, either_right}
use Rattle.c_parser.proofs.SameLemmas.{same_class, not_same}
use Rattle.c_parser.proofs.TableCheck.{FollowsIn, Chosen, ChosenAtEnd, holds}

module _ {C L A : Type 0} (rules : Rules C L A) where
  -- what begins a row may end earlier
  pub IsNot-take : (s : State) (c : C) (n : ℕ) (ts : List (Token C)) → IsNot rules s c ts → IsNot rules s c (take n ts)
  IsNot-take s c zero ts h = tt
  IsNot-take s c (suc n) [] h = tt
  IsNot-take s c (suc n) (t ∷ ts) h = h

  pub Begins-take : {limit : ℕ} {s : State} {row : Row C L A} {ts : List (Token C)} → Begins rules limit s row ts → (n : ℕ) → Begins rules limit s row (take n ts)
  Begins-take Begins.nothing zero = Begins.nothing
  Begins-take Begins.nothing (suc n) = Begins.nothing
  Begins-take (Begins.token is next rest) zero = Begins.nothing
  Begins-take (Begins.token is next rest) (suc n) = Begins.token is next (Begins-take rest n)
  Begins-take (Begins.line body one rest) n = Begins.line body one (Begins-take rest n)
  Begins-take (Begins.make rest) n = Begins.make (Begins-take rest n)
  Begins-take (Begins.turns rest) n = Begins.turns (Begins-take rest n)
  Begins-take (Begins.not_next {s = s} {c = c} {ts = ts} is_not rest) n = Begins.not_next (IsNot-take s c n ts is_not) (Begins-take rest n)

  pub Reads-begins : {limit : ℕ} {s : State} {row : Row C L A} {ts : List (Token C)} {steps : List (Step A)} → Reads rules limit s row ts steps → Begins rules limit s row ts
  Reads-begins Reads.nothing = Begins.nothing
  Reads-begins (Reads.token is next rest) = Begins.token is next (Reads-begins rest)
  Reads-begins (Reads.line body one rest) = Begins.line body one (Reads-begins rest)
  Reads-begins (Reads.make rest) = Begins.make (Reads-begins rest)
  Reads-begins (Reads.turns rest) = Begins.turns (Reads-begins rest)
  Reads-begins (Reads.not_next is_not rest) = Begins.not_next is_not (Reads-begins rest)

  pub Reads-taken : {limit : ℕ} {s : State} {row : Row C L A} {ts : List (Token C)} {steps : List (Step A)} → Reads rules limit s row ts steps → taken steps ≡ length ts
  Reads-taken Reads.nothing = refl
  Reads-taken (Reads.token is next rest) = ap suc (Reads-taken rest)
  Reads-taken (Reads.line body one rest) = Reads-taken rest
  Reads-taken (Reads.make rest) = Reads-taken rest
  Reads-taken (Reads.turns rest) = Reads-taken rest
  Reads-taken (Reads.not_next is_not rest) = Reads-taken rest

module _ {C L A : Type 0} (rules : Rules C L A) (table : Table C L) where
  pass_empty : (row : Row C L A) (c : C) → may_pass rules table row c ≡ true → may_be_empty rules table row ≡ true
  pass_empty [] c h = refl
  pass_empty (symbol.Token d e ∷ row) c h = h
  pass_empty (symbol.Make a ∷ row) c h = pass_empty row c h
  pass_empty (symbol.Turn x ∷ row) c h = pass_empty row c h
  pass_empty (symbol.NotNext d ∷ row) c h = pass_empty row c (and_true (not (same rules d c)) (may_pass rules table row c) h).1
  pass_empty (symbol.Line l ∷ row) c h =
      let parts = and_true (table.empty l) (may_pass rules table row c) h in both _ _ parts.0 (pass_empty row c parts.1)

  -- what begins two rows begins the first, or passes it and begins the second
  begin_append : (body row : Row C L A) (c : C) → may_begin rules table (body ++ row) c ≡ true
      → (may_begin rules table body c ≡ true) ⊎ ((may_pass rules table body c ≡ true) × (may_begin rules table row c ≡ true))
  begin_append [] row c h = inr (refl, h)
  begin_append (symbol.Token d e ∷ body) row c h = inl h
  begin_append (symbol.Make a ∷ body) row c h = begin_append body row c h
  begin_append (symbol.Turn turn.Learn ∷ body) row c h = inl refl
  begin_append (symbol.Turn turn.Enter ∷ body) row c h = begin_append body row c h
  begin_append (symbol.Turn turn.Leave ∷ body) row c h = begin_append body row c h
  begin_append (symbol.NotNext d ∷ body) row c h =
      let parts = and_true (not (same rules d c)) (may_begin rules table (body ++ row) c) h in
      elim (begin_append body row c parts.1) [ inl x ↦ inl (both _ _ parts.0 x) | inr x ↦ inr (both _ _ parts.0 x.0, x.1) ]
  begin_append (symbol.Line l ∷ body) row c h =
      elim (or_true (is_of rules c (table.first l)) (table.empty l && may_begin rules table (body ++ row) c) h) [
        | inl x ↦ inl (either_left _ _ x)
        | inr x ↦
            let parts = and_true (table.empty l) (may_begin rules table (body ++ row) c) x in
            elim (begin_append body row c parts.1) [
              | inl y ↦ inl (either_right (is_of rules c (table.first l)) (table.empty l && may_begin rules table body c) (both _ _ parts.0 y))
              | inr y ↦ inr (both _ _ parts.0 y.0, y.1)
            ]
      ]

  empty_append : (body row : Row C L A) → may_be_empty rules table (body ++ row) ≡ true → (may_be_empty rules table body ≡ true) × (may_be_empty rules table row ≡ true)
  empty_append [] row h = (refl, h)
  empty_append (symbol.Token d e ∷ body) row h = cc
  empty_append (symbol.Make a ∷ body) row h = empty_append body row h
  empty_append (symbol.Turn x ∷ body) row h = empty_append body row h
  empty_append (symbol.NotNext d ∷ body) row h = empty_append body row h
  empty_append (symbol.Line l ∷ body) row h =
      let parts = and_true (table.empty l) (may_be_empty rules table (body ++ row)) h in
      let rest = empty_append body row parts.1 in
      (both _ _ parts.0 rest.0, rest.1)

  -- what a token that begins a row may be
  abbrev FirstOk : State → Row C L A → List (Token C) → Type 0
  FirstOk s row [] = Unit {0}
  FirstOk s row (t ∷ ts) = may_begin rules table row (class_at rules s t) ≡ true

  abbrev EmptyOk : Row C L A → List (Token C) → Type 0
  EmptyOk row [] = may_be_empty rules table row ≡ true
  EmptyOk row (t ∷ ts) = Unit {0}

  module _ (right : IsRight rules table) where
    first_of_line : (s : State) (l : L) (body row : Row C L A) (ts : List (Token C)) → OneOf body (rules.lines l)
        → FirstOk s (body ++ row) ts → FirstOk s (symbol.Line l ∷ row) ts
    first_of_line s l body row [] one h = tt
    first_of_line s l body row (t ∷ ts) one h =
        let c = class_at rules s t in
        elim (begin_append body row c h) [
          | inl x ↦ either_left _ _ ((holds rules table right).first l body one c x)
          | inr x ↦ either_right (is_of rules c (table.first l)) (table.empty l && may_begin rules table row c)
              (both _ _ ((holds rules table right).empty l body one (pass_empty body c x.0)) x.1)
        ]

    first_of_turn : (s : State) (x : Turn) (row : Row C L A) (ts : List (Token C)) → FirstOk (turned x s) row ts → FirstOk s (symbol.Turn x ∷ row) ts
    unfolding turned class_at
    first_of_turn s x row [] h = tt
    first_of_turn s turn.Learn row (t ∷ ts) h = refl
    first_of_turn s turn.Enter row (t ∷ ts) h = h
    first_of_turn s turn.Leave row (t ∷ ts) h = leave s s.outer h
      where
        leave : (s : State) (outer : List ℕ) → may_begin rules table row (class_at rules (left s outer) t) ≡ true → may_begin rules table row (class_at rules s t) ≡ true
        leave s [] h = h
        leave s (level ∷ outer) h = h

    first_of_not_next : (s : State) (c : C) (row : Row C L A) (ts : List (Token C)) → IsNot rules s c ts → FirstOk s row ts → FirstOk s (symbol.NotNext c ∷ row) ts
    first_of_not_next s c row [] n h = tt
    first_of_not_next s c row (t ∷ ts) n h = both _ _ (not_same rules table right (class_at rules s t) c n) h

    first_of_make : (s : State) (a : A) (row : Row C L A) (ts : List (Token C)) → FirstOk s row ts → FirstOk s (symbol.Make a ∷ row) ts
    first_of_make s a row [] h = tt
    first_of_make s a row (t ∷ ts) h = h

    empty_line : (l : L) (body row : Row C L A) (ts : List (Token C)) → OneOf body (rules.lines l) → EmptyOk (body ++ row) ts → EmptyOk (symbol.Line l ∷ row) ts
    empty_line l body row [] one h = let parts = empty_append body row h in both _ _ ((holds rules table right).empty l body one parts.0) parts.1
    empty_line l body row (t ∷ ts) one h = tt

    empty_silent : (a b : Row C L A) (ts : List (Token C)) → (may_be_empty rules table a ≡ true → may_be_empty rules table b ≡ true) → EmptyOk a ts → EmptyOk b ts
    empty_silent a b [] leads h = leads h
    empty_silent a b (t ∷ ts) leads h = tt

    FollowsIn-append : (l : L) (body row : Row C L A) → Follows rules table (symbol.Line l ∷ row) → FollowsIn rules table l body → Follows rules table (body ++ row)
    FollowsIn-append l [] row follows inside = follows.1
    FollowsIn-append l (symbol.Token d e ∷ body) row follows inside = FollowsIn-append l body row follows inside
    FollowsIn-append l (symbol.Make a ∷ body) row follows inside = FollowsIn-append l body row follows inside
    FollowsIn-append l (symbol.Turn x ∷ body) row follows inside = FollowsIn-append l body row follows inside
    FollowsIn-append l (symbol.NotNext d ∷ body) row follows inside = FollowsIn-append l body row follows inside
    FollowsIn-append l (symbol.Line m ∷ body) row follows inside = (
      (λ c h. elim (begin_append body row c h) [ inl x ↦ inside.0 c x | inr x ↦ inside.1 (pass_empty body c x.0) c (follows.0 c x.1) ]),
      FollowsIn-append l body row follows inside.2,
    )

    pub Follows-chosen : (l : L) (body row : Row C L A) → Follows rules table (symbol.Line l ∷ row) → OneOf body (rules.lines l) → Follows rules table (body ++ row)
    Follows-chosen l body row follows one = FollowsIn-append l body row follows ((holds rules table right).follows l body one)

    module _ (limit : ℕ) where
      begins_first : {s : State} {row : Row C L A} {ts : List (Token C)} → Begins rules limit s row ts → FirstOk s row ts
      begins_first Begins.nothing = tt
      begins_first (Begins.token {s = s} {c = c} {t = t} is next rest) = same_class rules c (class_at rules s t) (sym is)
      begins_first (Begins.line {s = s} {l = l} {row = row} {ts = ts} body one rest) = first_of_line s l body row ts one (begins_first rest)
      begins_first (Begins.make {s = s} {a = a} {row = row} {ts = ts} rest) = first_of_make s a row ts (begins_first rest)
      begins_first (Begins.turns {s = s} {x = x} {row = row} {ts = ts} rest) = first_of_turn s x row ts (begins_first rest)
      begins_first (Begins.not_next {s = s} {c = c} {row = row} {ts = ts} is_not rest) = first_of_not_next s c row ts is_not (begins_first rest)

      goes_on : {s : State} {t : Token C} {ts : List (Token C)} (l : L) (body row : Row C L A) → Follows rules table (symbol.Line l ∷ row)
          → Begins rules limit s (body ++ row) (t ∷ ts) → may_go_on rules table l body (class_at rules s t) ≡ true
      goes_on {s} {t} {ts} l body row follows begins =
          let c = class_at rules s t in
          elim (begin_append body row c (begins_first begins)) [
            | inl x ↦ either_left _ _ x
            | inr x ↦ either_right (may_begin rules table body c) (may_pass rules table body c && is_of rules c (table.follow l)) (both _ _ x.0 (follows.0 c x.1))
          ]

      -- the row that one token of look-ahead chooses is the one by which the list begins the line
      pub Begins-chosen : {s : State} {l : L} {t : Token C} {ts : List (Token C)} {row : Row C L A} (body : Row C L A) → Follows rules table (symbol.Line l ∷ row)
          → Chosen rules table l (class_at rules s t) body → Begins rules limit s (symbol.Line l ∷ row) (t ∷ ts) → Begins rules limit s (body ++ row) (t ∷ ts)
      Begins-chosen {s} {l} {t} {ts} {row} body follows chosen (Begins.line other one rest) =
          let same_row : other ≡ body = chosen.only other one (goes_on l other row follows rest) in
          subst (λ (b : Row C L A). Begins rules limit s (b ++ row) (t ∷ ts)) same_row rest

      -- and where it chooses none, the list doesn't begin the line
      pub Begins-none : {s : State} {l : L} {t : Token C} {ts : List (Token C)} {row : Row C L A} → Follows rules table (symbol.Line l ∷ row)
          → ((other : Row C L A) → OneOf other (rules.lines l) → may_go_on rules table l other (class_at rules s t) ≡ false)
          → Begins rules limit s (symbol.Line l ∷ row) (t ∷ ts) → ⊥
      Begins-none {l = l} {row = row} follows none (Begins.line other one rest) = let here = goes_on l other row follows rest in let never = none other one in cc

      -- ---- the same of reading

      pub Reads-chosen : {s : State} {l : L} {t : Token C} {ts : List (Token C)} {row : Row C L A} {steps : List (Step A)} (body : Row C L A)
          → Follows rules table (symbol.Line l ∷ row) → Chosen rules table l (class_at rules s t) body
          → Reads rules limit s (symbol.Line l ∷ row) (t ∷ ts) steps → Reads rules limit s (body ++ row) (t ∷ ts) steps
      Reads-chosen {s} {l} {t} {ts} {row} {steps} body follows chosen (Reads.line other one rest) =
          let same_row : other ≡ body = chosen.only other one (goes_on l other row follows (Reads-begins rules rest)) in
          subst (λ (b : Row C L A). Reads rules limit s (b ++ row) (t ∷ ts) steps) same_row rest

      reads_empty : {s : State} {row : Row C L A} {ts : List (Token C)} {steps : List (Step A)} → Reads rules limit s row ts steps → EmptyOk row ts
      reads_empty Reads.nothing = refl
      reads_empty (Reads.token is next rest) = tt
      reads_empty (Reads.line {l = l} {row = row} {ts = ts} body one rest) = empty_line l body row ts one (reads_empty rest)
      reads_empty (Reads.make {a = a} {row = row} {ts = ts} rest) = empty_silent row (symbol.Make a ∷ row) ts (λ h. h) (reads_empty rest)
      reads_empty (Reads.turns {x = x} {row = row} {ts = ts} rest) = empty_silent row (symbol.Turn x ∷ row) ts (λ h. h) (reads_empty rest)
      reads_empty (Reads.not_next {c = c} {row = row} {ts = ts} is_not rest) = empty_silent row (symbol.NotNext c ∷ row) ts (λ h. h) (reads_empty rest)

      pub Reads-chosen_at_end : {s : State} {l : L} {row : Row C L A} {steps : List (Step A)} (body : Row C L A)
          → ChosenAtEnd rules table l body → Reads rules limit s (symbol.Line l ∷ row) [] steps → Reads rules limit s (body ++ row) [] steps
      Reads-chosen_at_end {s} {l} {row} {steps} body chosen (Reads.line other one rest) =
          let same_row : other ≡ body = chosen.only other one (empty_append other row (reads_empty rest)).0 in
          subst (λ (b : Row C L A). Reads rules limit s (b ++ row) [] steps) same_row rest

      pub Reads-none_at_end : {s : State} {l : L} {row : Row C L A} {steps : List (Step A)}
          → ((other : Row C L A) → OneOf other (rules.lines l) → may_be_empty rules table other ≡ false) → Reads rules limit s (symbol.Line l ∷ row) [] steps → ⊥
      Reads-none_at_end {row = row} none (Reads.line other one rest) =
          let here = (empty_append other row (reads_empty rest)).0 in let never = none other one in cc
