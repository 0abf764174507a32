-- Each step of the machine keeps where it stands, or shows a refusal.
use Rattle.std.proofs.Common.{◌≡◌, ◌≢◌, ℕ, zero, suc, ◌+◌, ◌≤◌, false, List, [], ◌∷◌, ◌++◌, length, take, Some, None, refl, sym, ◌∙◌, ap, subst, append_assoc, append-nil, arith, rules, lt-ltb}
use Rattle.std.proofs.lemmas.Bool.Decides.{nat_tests}
use Rattle.c_parser.specs.declared.symbol.Effect.{Effect}
use Rattle.c_parser.specs.declared.symbol.Effect.TheVariants as effect
use Rattle.c_parser.specs.declared.symbol.Turn.{Turn}
use Rattle.c_parser.specs.declared.symbol.Symbol.TheVariants as symbol
use Rattle.c_parser.specs.declared.symbol.Token.{Token}
use Rattle.c_parser.specs.declared.symbol.Step.{Step}
use Rattle.c_parser.specs.declared.symbol.Step.TheVariants as step
use Rattle.c_parser.specs.declared.state.State.{State}
use Rattle.c_parser.specs.Rules.{Row, Rules, OneOf}
use Rattle.c_parser.specs.LookAhead.{Table, IsRight, may_go_on, may_be_empty}
use Rattle.c_parser.specs.State.{class_at, after, turned, start, max_levels}
use Rattle.c_parser.specs.Rows.{Begins, Reads, IsNot}
use Rattle.c_parser.specs.File.{the_file, IsFile, BeginsFile, IsUnexpected, IsTooDeep, IsUnexpectedEnd, IsOnly}
use Rattle.c_parser.specs.Stands.{Stands}
use Rattle.c_parser.proofs.TableCheck.{Chosen, ChosenAtEnd}
use Rattle.c_parser.proofs.RowLemmas.{IsNot-take, Begins-chosen, Begins-none, Follows-chosen, Reads-chosen, Reads-chosen_at_end, Reads-none_at_end}

-- more levels may be open
pub after_more : {C : Type 0} (a b : ℕ) (e : Effect) (s : State) (t : Token C) (next : State) → a ≤ b → after a e s t ≡ Some next → after b e s t ≡ Some next
unfolding after
after_more a b effect.Nothing s t next h is = is
after_more a b effect.Declares s t next h is = is
after_more a b effect.Opens s t next h is = grind (arith, nat_tests)

module _ {C L A : Type 0} (rules : Rules C L A) where
  -- ---- what one symbol tells

  token_begins : {limit : ℕ} {s : State} {c : C} {e : Effect} {row : Row C L A} {t : Token C} {ts : List (Token C)} → Begins rules limit s (symbol.Token c e ∷ row) (t ∷ ts)
      → (class_at rules s t ≡ c) × (next : State) × (after limit e s t ≡ Some next) × Begins rules limit next row ts
  token_begins (Begins.token {next = next} is moves rest) = (is, next, moves, rest)

  make_begins : {limit : ℕ} {s : State} {a : A} {row : Row C L A} {ts : List (Token C)} → Begins rules limit s (symbol.Make a ∷ row) ts → Begins rules limit s row ts
  make_begins Begins.nothing = Begins.nothing
  make_begins (Begins.make rest) = rest

  turn_begins : {limit : ℕ} {s : State} {x : Turn} {row : Row C L A} {ts : List (Token C)} → Begins rules limit s (symbol.Turn x ∷ row) ts → Begins rules limit (turned x s) row ts
  turn_begins Begins.nothing = Begins.nothing
  turn_begins (Begins.turns rest) = rest

  not_next_begins : {limit : ℕ} {s : State} {c : C} {row : Row C L A} {ts : List (Token C)} → Begins rules limit s (symbol.NotNext c ∷ row) ts → Begins rules limit s row ts
  not_next_begins Begins.nothing = Begins.nothing
  not_next_begins (Begins.not_next is_not rest) = rest

  nothing_begins : {limit : ℕ} {s : State} {t : Token C} {ts : List (Token C)} → Begins rules limit s [] (t ∷ ts) → ⊥
  nothing_begins h = elim h [ ]

  not_next_is : {limit : ℕ} {s : State} {c : C} {row : Row C L A} {ts : List (Token C)} {t : Token C} → Begins rules limit s (symbol.NotNext c ∷ row) (t ∷ ts) → class_at rules s t ≢ c
  not_next_is (Begins.not_next is_not rest) = is_not

  token_reads : {limit : ℕ} {s : State} {c : C} {e : Effect} {row : Row C L A} {t : Token C} {ts : List (Token C)} {steps : List (Step A)}
      → Reads rules limit s (symbol.Token c e ∷ row) (t ∷ ts) steps
      → (class_at rules s t ≡ c) × (next : State) × (after limit e s t ≡ Some next) × (more : List (Step A)) × (step.Token ∷ more ≡ steps) × Reads rules limit next row ts more
  token_reads (Reads.token {steps = steps} {next = next} is moves rest) = (is, next, moves, steps, refl, rest)

  token_reads_none : {limit : ℕ} {s : State} {c : C} {e : Effect} {row : Row C L A} {steps : List (Step A)} → Reads rules limit s (symbol.Token c e ∷ row) [] steps → ⊥
  token_reads_none h = elim h [ ]

  make_reads : {limit : ℕ} {s : State} {a : A} {row : Row C L A} {ts : List (Token C)} {steps : List (Step A)} → Reads rules limit s (symbol.Make a ∷ row) ts steps
      → (more : List (Step A)) × (step.Make a ∷ more ≡ steps) × Reads rules limit s row ts more
  make_reads (Reads.make {steps = steps} rest) = (steps, refl, rest)

  turn_reads : {limit : ℕ} {s : State} {x : Turn} {row : Row C L A} {ts : List (Token C)} {steps : List (Step A)}
      → Reads rules limit s (symbol.Turn x ∷ row) ts steps → Reads rules limit (turned x s) row ts steps
  turn_reads (Reads.turns rest) = rest

  not_next_reads : {limit : ℕ} {s : State} {c : C} {row : Row C L A} {ts : List (Token C)} {steps : List (Step A)}
      → Reads rules limit s (symbol.NotNext c ∷ row) ts steps → Reads rules limit s row ts steps
  not_next_reads (Reads.not_next is_not rest) = rest

  nothing_reads : {limit : ℕ} {s : State} {ts : List (Token C)} {steps : List (Step A)} → Reads rules limit s [] ts steps → steps ≡ []
  nothing_reads Reads.nothing = refl

  Begins-more : {a : ℕ} {s : State} {row : Row C L A} {ts : List (Token C)} → Begins rules a s row ts → (b : ℕ) → a ≤ b → Begins rules b s row ts
  Begins-more Begins.nothing b h = Begins.nothing
  Begins-more {a} (Begins.token {s = s} {e = e} {t = t} {next = next} is moves rest) b h = Begins.token is (after_more a b e s t next h moves) (Begins-more rest b h)
  Begins-more (Begins.line body one rest) b h = Begins.line body one (Begins-more rest b h)
  Begins-more (Begins.make rest) b h = Begins.make (Begins-more rest b h)
  Begins-more (Begins.turns rest) b h = Begins.turns (Begins-more rest b h)
  Begins-more (Begins.not_next is_not rest) b h = Begins.not_next is_not (Begins-more rest b h)

  Reads-more : {a : ℕ} {s : State} {row : Row C L A} {ts : List (Token C)} {steps : List (Step A)} → Reads rules a s row ts steps → (b : ℕ) → a ≤ b → Reads rules b s row ts steps
  Reads-more Reads.nothing b h = Reads.nothing
  Reads-more {a} (Reads.token {s = s} {e = e} {t = t} {next = next} is moves rest) b h = Reads.token is (after_more a b e s t next h moves) (Reads-more rest b h)
  Reads-more (Reads.line body one rest) b h = Reads.line body one (Reads-more rest b h)
  Reads-more (Reads.make rest) b h = Reads.make (Reads-more rest b h)
  Reads-more (Reads.turns rest) b h = Reads.turns (Reads-more rest b h)
  Reads-more (Reads.not_next is_not rest) b h = Reads.not_next is_not (Reads-more rest b h)

-- ---- the steps

module _ {C L A : Type 0} (rules : Rules C L A) (table : Table C L) (right : IsRight rules table) (T : List (Token C)) (s : State) (done : List (Step A)) where
  module _ (row : Row C L A) where
    pub stands_token : (c : C) (e : Effect) (t : Token C) (rest : List (Token C)) (next : State) → Stands rules table T s (symbol.Token c e ∷ row) (t ∷ rest) done
        → class_at rules s t ≡ c → ((limit : ℕ) → max_levels ≤ limit → after limit e s t ≡ Some next) → Stands rules table T next row rest (done ++ step.Token ∷ [])
    stands_token c e t rest next st is moves =
        let moved : (n : ℕ) → (st.seen ++ t ∷ []) ++ take n rest ≡ st.seen ++ (t ∷ take n rest) = λ n. append_assoc st.seen (t ∷ []) (take n rest) in
        let told : (steps : List (Step A)) → (done ++ step.Token ∷ []) ++ steps ≡ done ++ (step.Token ∷ steps) = λ steps. append_assoc done (step.Token ∷ []) steps in
        record {
          seen = st.seen ++ t ∷ [];
          whole = append_assoc st.seen (t ∷ []) rest ∙ st.whole;
          follows = st.follows;
          begins_from = λ limit h n b.
              subst (λ (ts : List (Token C)). BeginsFile rules limit ts) (sym (moved n)) (st.begins_from limit h (suc n) (Begins.token is (moves limit h) b));
          begins_to = λ limit h n b.
              let back = token_begins rules (st.begins_to limit h (suc n) (subst (λ (ts : List (Token C)). BeginsFile rules limit ts) (moved n) b)) in
              let know = moves limit h in
              let was = back.2 in
              let same_state : back.1 ≡ next = cc in
              subst (λ (x : State). Begins rules limit x row (take n rest)) same_state back.3;
          reads_from = λ limit h steps r.
              subst (λ (all : List (Step A)). IsFile rules limit T all) (sym (told steps)) (st.reads_from limit h (step.Token ∷ steps) (Reads.token is (moves limit h) r));
          reads_to = λ limit h all f.
              let before = st.reads_to limit h all f in
              let back = token_reads rules before.2 in
              let know = moves limit h in
              let was = back.2 in
              let same_state : back.1 ≡ next = cc in (
                back.3,
                told back.3 ∙ ap (λ (steps : List (Step A)). done ++ steps) back.4 ∙ before.1,
                subst (λ (x : State). Reads rules limit x row rest back.3) same_state back.5,
              );
        }

    pub stands_line : (l : L) (body : Row C L A) (t : Token C) (rest : List (Token C)) → Stands rules table T s (symbol.Line l ∷ row) (t ∷ rest) done
        → Chosen rules table l (class_at rules s t) body → Stands rules table T s (body ++ row) (t ∷ rest) done
    stands_line l body t rest st chosen =
        record {
          seen = st.seen;
          whole = st.whole;
          follows = Follows-chosen rules table right l body row st.follows chosen.one;
          begins_from = λ limit h n b. st.begins_from limit h n (Begins.line body chosen.one b);
          begins_to = λ limit h n b. to limit n (st.begins_to limit h n b);
          reads_from = λ limit h steps r. st.reads_from limit h steps (Reads.line body chosen.one r);
          reads_to = λ limit h all f.
              let before = st.reads_to limit h all f in
              (before.0, before.1, Reads-chosen rules table right limit body st.follows chosen before.2);
        }
      where
        to : (limit n : ℕ) → Begins rules limit s (symbol.Line l ∷ row) (take n (t ∷ rest)) → Begins rules limit s (body ++ row) (take n (t ∷ rest))
        to limit zero b = Begins.nothing
        to limit (suc n) b = Begins-chosen rules table right limit body st.follows chosen b

    pub stands_line_at_end : (l : L) (body : Row C L A) → Stands rules table T s (symbol.Line l ∷ row) [] done
        → ChosenAtEnd rules table l body → Stands rules table T s (body ++ row) [] done
    stands_line_at_end l body st chosen =
        record {
          seen = st.seen;
          whole = st.whole;
          follows = Follows-chosen rules table right l body row st.follows chosen.one;
          begins_from = λ limit h n b. st.begins_from limit h n (Begins.line body chosen.one b);
          begins_to = λ limit h n b. to limit n;
          reads_from = λ limit h steps r. st.reads_from limit h steps (Reads.line body chosen.one r);
          reads_to = λ limit h all f.
              let before = st.reads_to limit h all f in
              (before.0, before.1, Reads-chosen_at_end rules table right limit body chosen before.2);
        }
      where
        to : (limit n : ℕ) → Begins rules limit s (body ++ row) (take n [])
        to limit zero = Begins.nothing
        to limit (suc n) = Begins.nothing

    pub stands_make : (a : A) (rest : List (Token C)) → Stands rules table T s (symbol.Make a ∷ row) rest done → Stands rules table T s row rest (done ++ step.Make a ∷ [])
    stands_make a rest st =
        let told : (steps : List (Step A)) → (done ++ step.Make a ∷ []) ++ steps ≡ done ++ (step.Make a ∷ steps) = λ steps. append_assoc done (step.Make a ∷ []) steps in
        record {
          seen = st.seen;
          whole = st.whole;
          follows = st.follows;
          begins_from = λ limit h n b. st.begins_from limit h n (Begins.make b);
          begins_to = λ limit h n b. make_begins rules (st.begins_to limit h n b);
          reads_from = λ limit h steps r.
              subst (λ (all : List (Step A)). IsFile rules limit T all) (sym (told steps)) (st.reads_from limit h (step.Make a ∷ steps) (Reads.make r));
          reads_to = λ limit h all f.
              let before = st.reads_to limit h all f in
              let back = make_reads rules before.2 in
              (back.0, told back.0 ∙ ap (λ (steps : List (Step A)). done ++ steps) back.1 ∙ before.1, back.2);
        }

    pub stands_turn : (x : Turn) (rest : List (Token C)) → Stands rules table T s (symbol.Turn x ∷ row) rest done → Stands rules table T (turned x s) row rest done
    stands_turn x rest st =
        record {
          seen = st.seen;
          whole = st.whole;
          follows = st.follows;
          begins_from = λ limit h n b. st.begins_from limit h n (Begins.turns b);
          begins_to = λ limit h n b. turn_begins rules (st.begins_to limit h n b);
          reads_from = λ limit h steps r. st.reads_from limit h steps (Reads.turns r);
          reads_to = λ limit h all f.
              let before = st.reads_to limit h all f in
              (before.0, before.1, turn_reads rules before.2);
        }

    pub stands_not_next : (c : C) (rest : List (Token C)) → Stands rules table T s (symbol.NotNext c ∷ row) rest done → IsNot rules s c rest → Stands rules table T s row rest done
    stands_not_next c rest st is =
        record {
          seen = st.seen;
          whole = st.whole;
          follows = st.follows;
          begins_from = λ limit h n b. st.begins_from limit h n (Begins.not_next (IsNot-take rules s c n rest is) b);
          begins_to = λ limit h n b. not_next_begins rules (st.begins_to limit h n b);
          reads_from = λ limit h steps r. st.reads_from limit h steps (Reads.not_next is r);
          reads_to = λ limit h all f.
              let before = st.reads_to limit h all f in
              (before.0, before.1, not_next_reads rules before.2);
        }

  -- ---- the refusals

  before : (row : Row C L A) (rest : List (Token C)) (st : Stands rules table T s row rest done) → BeginsFile rules max_levels st.seen
  before row rest st = subst (λ (ts : List (Token C)). BeginsFile rules max_levels ts) (append-nil st.seen) (st.begins_from max_levels (omega arith) zero Begins.nothing)

  pub unexpected : (row : Row C L A) (t : Token C) (rest : List (Token C)) (st : Stands rules table T s row (t ∷ rest) done)
      → ((limit : ℕ) → Begins rules limit s row (t ∷ []) → ⊥) → IsUnexpected rules T (length st.seen)
  unexpected row t rest st never =
      record {
        seen = st.seen;
        next = t;
        rest = rest;
        whole = st.whole;
        place = refl;
        before = before row (t ∷ rest) st;
        never = λ limit b. never (limit + max_levels) (st.begins_to (limit + max_levels) (omega arith) 1 (Begins-more rules b (limit + max_levels) (omega arith)));
      }

  pub unexpected_token : (row : Row C L A) (c : C) (e : Effect) (t : Token C) (rest : List (Token C)) (st : Stands rules table T s (symbol.Token c e ∷ row) (t ∷ rest) done)
      → class_at rules s t ≢ c → IsUnexpected rules T (length st.seen)
  unexpected_token row c e t rest st is_not = unexpected (symbol.Token c e ∷ row) t rest st (λ limit b. is_not (token_begins rules b).0)

  pub unexpected_line : (row : Row C L A) (l : L) (t : Token C) (rest : List (Token C)) (st : Stands rules table T s (symbol.Line l ∷ row) (t ∷ rest) done)
      → ((other : Row C L A) → OneOf other (rules.lines l) → may_go_on rules table l other (class_at rules s t) ≡ false) → IsUnexpected rules T (length st.seen)
  unexpected_line row l t rest st none =
      unexpected (symbol.Line l ∷ row) t rest st (λ limit b. Begins-none rules table right limit st.follows none b)

  pub unexpected_next : (row : Row C L A) (c : C) (t : Token C) (rest : List (Token C)) (st : Stands rules table T s (symbol.NotNext c ∷ row) (t ∷ rest) done)
      → class_at rules s t ≡ c → IsUnexpected rules T (length st.seen)
  unexpected_next row c t rest st is = unexpected (symbol.NotNext c ∷ row) t rest st (λ limit b. not_next_is rules b is)

  pub unexpected_rest : (t : Token C) (rest : List (Token C)) (st : Stands rules table T s [] (t ∷ rest) done) → IsUnexpected rules T (length st.seen)
  unexpected_rest t rest st = unexpected [] t rest st (λ limit b. nothing_begins rules b)

  -- where no token is left and the row wants more
  pub unexpected_end : (row : Row C L A) (st : Stands rules table T s row [] done) → ((limit : ℕ) (steps : List (Step A)) → Reads rules limit s row [] steps → ⊥)
      → IsUnexpectedEnd rules T (length T)
  unexpected_end row st never =
      let all_seen : st.seen ≡ T = sym (append-nil st.seen) ∙ st.whole in
      record {
        place = refl;
        before = subst (λ (ts : List (Token C)). BeginsFile rules max_levels ts) all_seen (before row [] st);
        never = λ limit all f.
            let back = st.reads_to (limit + max_levels) (omega arith) all (Reads-more rules f (limit + max_levels) (omega arith)) in
            never (limit + max_levels) back.0 back.2;
      }

  pub end_token : (row : Row C L A) (c : C) (e : Effect) (st : Stands rules table T s (symbol.Token c e ∷ row) [] done) → IsUnexpectedEnd rules T (length T)
  end_token row c e st = unexpected_end (symbol.Token c e ∷ row) st (λ limit steps r. token_reads_none rules r)

  pub end_line : (row : Row C L A) (l : L) (st : Stands rules table T s (symbol.Line l ∷ row) [] done)
      → ((other : Row C L A) → OneOf other (rules.lines l) → may_be_empty rules table other ≡ false) → IsUnexpectedEnd rules T (length T)
  end_line row l st none =
      unexpected_end (symbol.Line l ∷ row) st (λ limit steps r. Reads-none_at_end rules table right limit none r)

  opens_none : (limit : ℕ) (e : Effect) (t : Token C) → after limit e s t ≡ None → (more : ℕ) × (limit ≤ more) × (next : State) × (after more e s t ≡ Some next)
  unfolding after
  opens_none limit effect.Nothing t is = cc
  opens_none limit effect.Declares t is = cc
  opens_none limit effect.Opens t is =
      (s.level + suc limit, omega arith, record s { level = s.level + 1 }, rw (lt-ltb s.level (s.level + suc limit) (omega arith)) refl)

  pub too_deep : (row : Row C L A) (c : C) (e : Effect) (t : Token C) (rest : List (Token C)) (st : Stands rules table T s (symbol.Token c e ∷ row) (t ∷ rest) done)
      → class_at rules s t ≡ c → after max_levels e s t ≡ None → IsTooDeep rules T (length st.seen)
  too_deep row c e t rest st is none =
      let opens = opens_none max_levels e t none in
      record {
        seen = st.seen;
        next = t;
        rest = rest;
        whole = st.whole;
        place = refl;
        before = before (symbol.Token c e ∷ row) (t ∷ rest) st;
        never = λ b. let back = token_begins rules (st.begins_to max_levels (omega arith) 1 b) in let was = back.2 in cc;
        more = opens.0;
        deeper = st.begins_from opens.0 opens.1 1 (Begins.token is opens.3 Begins.nothing);
      }

  -- the whole file has been read
  pub finished : Stands rules table T s [] [] done → IsOnly rules T done
  finished st = record {
    is = subst (λ (all : List (Step A)). IsFile rules max_levels T all) (append-nil done) (st.reads_from max_levels (omega arith) [] Reads.nothing);
    only = λ limit other f.
        let back = st.reads_to (limit + max_levels) (omega arith) other (Reads-more rules f (limit + max_levels) (omega arith)) in
        sym back.1 ∙ ap (λ (steps : List (Step A)). done ++ steps) (nothing_reads rules back.2) ∙ append-nil done;
  }

-- the whole file is still to be read
pub stands_start : {C L A : Type 0} (rules : Rules C L A) (table : Table C L) (T : List (Token C)) → Stands rules table T start (the_file rules) T []
stands_start rules table T = record {
  seen = [];
  whole = refl;
  follows = ((λ c h. cc), tt);
  begins_from = λ limit h n b. b;
  begins_to = λ limit h n b. b;
  reads_from = λ limit h steps r. r;
  reads_to = λ limit h all f. (all, refl, f);
}
