-- The steps of the machine, at its fields.
use Rattle.std.proofs.Common.{◌≡◌, ◌≢◌, ℕ, zero, suc, ◌+◌, ◌<◌, ◌≤◌, Bool, true, false, List, [], ◌∷◌, ◌++◌, length, take, drop, get_or, Option, Some, None, Result, Ok, Err, IfErr, refl, sym, ◌∙◌, ap, subst, drop-cons, add-one, length-append, length-drop, arith}
use Rattle.std.proofs.Math.ListN.{drop_of_length-le}
use Rattle.c_parser.specs.declared.symbol.Effect.{Effect}
use Rattle.c_parser.specs.declared.symbol.Symbol.TheVariants as symbol
use Rattle.c_parser.specs.declared.symbol.Token.{Token}
use Rattle.c_parser.specs.declared.symbol.Step.{Step}
use Rattle.c_parser.specs.declared.symbol.Step.TheVariants as step
use Rattle.c_parser.specs.declared.fault.Cause.{Cause}
use Rattle.c_parser.specs.declared.fault.Cause.TheVariants as cause
use Rattle.c_parser.specs.declared.fault.Fault.{Fault}
use Rattle.c_parser.specs.declared.fault.Fault.TheVariants as fault
use Rattle.c_parser.specs.declared.state.State.{State}
use Rattle.c_parser.specs.declared.machine.Machine.{Machine}
use Rattle.c_parser.specs.Rules.{Row, Rules, same}
use Rattle.c_parser.specs.LookAhead.{Table, IsRight, first_row, may_go_on, may_be_empty}
use Rattle.c_parser.specs.State.{class_at, after, max_levels}
use Rattle.c_parser.specs.Rows.{IsNot}
use Rattle.c_parser.specs.File.{IsFile, BeginsFile, IsUnexpected, IsTooDeep, IsUnexpectedEnd, IsOnly, IsRefusal, IsAnswered, IsNoFile, IsRefused}
use Rattle.c_parser.specs.Stands.{Stands, StandsBy}
use Rattle.c_parser.proofs.SameLemmas.{same_class, same_true}
use Rattle.c_parser.proofs.TableCheck.{chosen, chosen_at_end}
use Rattle.c_parser.proofs.ChooseLemmas.{first_found, none_found}
use Rattle.c_parser.proofs.RowLemmas.{Begins-take, Reads-begins}
use Rattle.c_parser.proofs.Steps.{after_more, stands_token, stands_line, stands_line_at_end, stands_not_next, unexpected_token, unexpected_line, unexpected_next, unexpected_rest, end_token, end_line, too_deep, finished}

-- there is an element at each place
element_at : {X : Type 0} (xs : List X) (at : ℕ) → at < length xs → (x : X) × (get_or xs at x ≡ x)
element_at [] at h = absurd (omega arith)
element_at (x ∷ xs) zero h = (x, refl)
element_at (x ∷ xs) (suc n) h = element_at xs n (omega arith)

next_is : {X : Type 0} (T : List X) (at : ℕ) (t : X) → at < length T → get_or T at t ≡ t → drop at T ≡ t ∷ drop (at + 1) T
next_is T at t h is = rw add-one (drop-cons T at t h ∙ ap (λ x. x ∷ drop (suc at) T) is)

-- ---- a refused file is none

front_taken : {X : Type 0} (front : List X) (x : X) (back : List X) → take (suc (length front)) (front ++ x ∷ back) ≡ front ++ x ∷ []
front_taken [] x back = refl
front_taken (y ∷ ys) x back = ap (λ zs. y ∷ zs) (front_taken ys x back)

module _ {C L A : Type 0} (rules : Rules C L A) (T : List (Token C)) where
  begins_front : (seen rest : List (Token C)) (next : Token C) → seen ++ next ∷ rest ≡ T → (steps : List (Step A)) → IsFile rules max_levels T steps
      → BeginsFile rules max_levels (seen ++ next ∷ [])
  begins_front seen rest next whole steps f =
      subst (λ (ts : List (Token C)). BeginsFile rules max_levels ts) (ap (λ (ts : List (Token C)). take (suc (length seen)) ts) (sym whole) ∙ front_taken seen next rest)
      (Begins-take rules (Reads-begins rules f) (suc (length seen)))

  pub refused_is_none : (at : ℕ) (why : Cause) → IsRefusal rules T at why → IsNoFile rules T
  refused_is_none at cause.Unexpected u steps f = u.never max_levels (begins_front u.seen u.rest u.next u.whole steps f)
  refused_is_none at cause.TooDeep u steps f = u.never (begins_front u.seen u.rest u.next u.whole steps f)
  refused_is_none at cause.UnexpectedEnd u steps f = u.never max_levels steps f

  pub answered_is_none : (e : Fault) → IsAnswered rules T e → IsRefused rules T e
  answered_is_none fault.Memory h = tt
  answered_is_none (fault.Refused at why) h = refused_is_none at why h

  pub error_is_none : {X : Type 0} (r : Result X Fault) → IfErr r (λ e. IsAnswered rules T e) → IfErr r (λ e. IsRefused rules T e)
  error_is_none (Ok x) h = tt
  error_is_none (Err e) h = answered_is_none e h

-- ---- the steps

module _ {C L A : Type 0} (rules : Rules C L A) (table : Table C L) (T : List (Token C)) (m : Machine C L A) (row : Row C L A) where
  -- the same place, with what comes next in view
  before_token : (t : Token C) → m.at < length T → get_or T m.at t ≡ t → (st : StandsBy rules table T row m) → Stands rules table T m.state row (t ∷ drop (m.at + 1) T) m.steps.items
  before_token t h is st = subst (λ (rest : List (Token C)). Stands rules table T m.state row rest m.steps.items) (next_is T m.at t h is) st.stands

  at_end : length T ≤ m.at → (st : StandsBy rules table T row m) → Stands rules table T m.state row [] m.steps.items
  at_end h st = subst (λ (rest : List (Token C)). Stands rules table T m.state row rest m.steps.items) (drop_of_length-le T h) st.stands

  seen_before : (t : Token C) (st : Stands rules table T m.state row (t ∷ drop (m.at + 1) T) m.steps.items) → m.at < length T → length st.seen ≡ m.at
  seen_before t st h = omega (arith, ap length st.whole, length-append st.seen (t ∷ drop (m.at + 1) T), length-drop (m.at + 1) T)

-- ---- what a test on a class tells

module _ {C L A : Type 0} (rules : Rules C L A) (table : Table C L) (right : IsRight rules table) (c k : C) (b : Bool) (tested : b ≡ same rules k c) where
  is_class : b ≡ true → k ≡ c
  is_class yes_it_is = same_true rules table right k c (sym tested ∙ yes_it_is)

  is_other : b ≡ false → k ≢ c
  is_other not_it e = let wrong = same_class rules k c e in cc

module _ {C L A : Type 0} (rules : Rules C L A) (table : Table C L) (right : IsRight rules table) (T : List (Token C)) (m : Machine C L A) where
  -- the next token is t, and of the class k
  module _ (t : Token C) (h : m.at < length T) (is : t ≡ get_or T m.at t) (k : C) (known : k ≡ class_at rules m.state t) where
    here : (row : Row C L A) → StandsBy rules table T row m → Stands rules table T m.state row (t ∷ drop (m.at + 1) T) m.steps.items
    here row st = before_token rules table T m row t h (sym is) st

    -- back to the tokens from the machine's place on
    back : (row : Row C L A) → Stands rules table T m.state row (t ∷ drop (m.at + 1) T) m.steps.items → Stands rules table T m.state row (drop m.at T) m.steps.items
    back row st = subst (λ (rest : List (Token C)). Stands rules table T m.state row rest m.steps.items) (sym (next_is T m.at t h (sym is))) st

    pub token_moves : (c : C) (e : Effect) → StandsBy rules table T (symbol.Token c e ∷ m.row) m → (b : Bool) → b ≡ same rules k c → b ≡ true
        → (read : Option State) (next : State) → read ≡ after max_levels e m.state t → read ≡ Some next
        → Stands rules table T next m.row (drop (m.at + 1) T) (m.steps.items ++ step.Token ∷ [])
    token_moves c e st b tested is_it read next reads is_read =
        stands_token rules table right T m.state m.steps.items m.row c e t (drop (m.at + 1) T) next
        (here (symbol.Token c e ∷ m.row) st) (sym known ∙ is_class rules table right c k b tested is_it)
        (λ limit l. after_more max_levels limit e m.state t next l (sym reads ∙ is_read))

    pub token_unexpected : (c : C) (e : Effect) → StandsBy rules table T (symbol.Token c e ∷ m.row) m → (b : Bool) → b ≡ same rules k c → b ≡ false → IsUnexpected rules T m.at
    token_unexpected c e st b tested is_not =
        let now = here (symbol.Token c e ∷ m.row) st in
        subst (λ (at : ℕ). IsUnexpected rules T at) (seen_before rules table T m (symbol.Token c e ∷ m.row) t now h)
        (unexpected_token rules table right T m.state m.steps.items m.row c e t (drop (m.at + 1) T) now
        (λ same_class. is_other rules table right c k b tested is_not (known ∙ same_class)))

    pub token_too_deep : (c : C) (e : Effect) → StandsBy rules table T (symbol.Token c e ∷ m.row) m → (b : Bool) → b ≡ same rules k c → b ≡ true
        → (read : Option State) → read ≡ after max_levels e m.state t → read ≡ None → IsTooDeep rules T m.at
    token_too_deep c e st b tested is_it read reads is_none =
        let now = here (symbol.Token c e ∷ m.row) st in
        subst (λ (at : ℕ). IsTooDeep rules T at) (seen_before rules table T m (symbol.Token c e ∷ m.row) t now h)
        (too_deep rules table right T m.state m.steps.items m.row c e t (drop (m.at + 1) T) now
        (sym known ∙ is_class rules table right c k b tested is_it) (sym reads ∙ is_none))

    -- what goes on with the class goes on with that of the token
    at_class : (l : L) (found : Option (Row C L A)) → found ≡ first_row (λ row. may_go_on rules table l row k) (rules.lines l)
        → first_row (λ row. may_go_on rules table l row (class_at rules m.state t)) (rules.lines l) ≡ found
    at_class l found is_found = subst (λ (c : C). first_row (λ row. may_go_on rules table l row c) (rules.lines l) ≡ found) known (sym is_found)

    pub line_moves : (l : L) (body : Row C L A) → StandsBy rules table T (symbol.Line l ∷ m.row) m
        → Some body ≡ first_row (λ row. may_go_on rules table l row k) (rules.lines l) → Stands rules table T m.state (body ++ m.row) (drop m.at T) m.steps.items
    line_moves l body st is_found =
        let found = first_found (λ row. may_go_on rules table l row (class_at rules m.state t)) (rules.lines l) body (at_class l (Some body) is_found) in
        back (body ++ m.row)
        (stands_line rules table right T m.state m.steps.items m.row l body t (drop (m.at + 1) T) (here (symbol.Line l ∷ m.row) st)
        (chosen rules table right l (class_at rules m.state t) body found.0 found.1))

    pub line_unexpected : (l : L) → StandsBy rules table T (symbol.Line l ∷ m.row) m
        → None ≡ first_row (λ row. may_go_on rules table l row k) (rules.lines l) → IsUnexpected rules T m.at
    line_unexpected l st is_none =
        let now = here (symbol.Line l ∷ m.row) st in
        subst (λ (at : ℕ). IsUnexpected rules T at) (seen_before rules table T m (symbol.Line l ∷ m.row) t now h)
        (unexpected_line rules table right T m.state m.steps.items m.row l t (drop (m.at + 1) T) now
        (none_found (λ row. may_go_on rules table l row (class_at rules m.state t)) (rules.lines l) (at_class l None is_none)))

    pub next_unexpected : (c : C) → StandsBy rules table T (symbol.NotNext c ∷ m.row) m → (b : Bool) → b ≡ same rules k c → b ≡ true → IsUnexpected rules T m.at
    next_unexpected c st b tested is_it =
        let now = here (symbol.NotNext c ∷ m.row) st in
        subst (λ (at : ℕ). IsUnexpected rules T at) (seen_before rules table T m (symbol.NotNext c ∷ m.row) t now h)
        (unexpected_next rules table right T m.state m.steps.items m.row c t (drop (m.at + 1) T) now (sym known ∙ is_class rules table right c k b tested is_it))

    pub next_passes : (c : C) → StandsBy rules table T (symbol.NotNext c ∷ m.row) m → (b : Bool) → b ≡ same rules k c → b ≡ false
        → Stands rules table T m.state m.row (drop m.at T) m.steps.items
    next_passes c st b tested is_not =
        stands_not_next rules table right T m.state m.steps.items m.row c (drop m.at T) st.stands
        (subst (λ (rest : List (Token C)). IsNot rules m.state c rest) (sym (next_is T m.at t h (sym is)))
        (λ same_class. is_other rules table right c k b tested is_not (known ∙ same_class)))

  -- a token after the end
  pub rest_unexpected : m.at < length T → StandsBy rules table T [] m → IsUnexpected rules T m.at
  rest_unexpected h st =
      let next = element_at T m.at h in
      let here = before_token rules table T m [] next.0 h next.1 st in
      subst (λ (at : ℕ). IsUnexpected rules T at) (seen_before rules table T m [] next.0 here h)
      (unexpected_rest rules table right T m.state m.steps.items next.0 (drop (m.at + 1) T) here)

  module _ (h : length T ≤ m.at) where
    pub token_end : (c : C) (e : Effect) → StandsBy rules table T (symbol.Token c e ∷ m.row) m → IsUnexpectedEnd rules T (length T)
    token_end c e st = end_token rules table right T m.state m.steps.items m.row c e (at_end rules table T m (symbol.Token c e ∷ m.row) h st)

    pub line_end : (l : L) → StandsBy rules table T (symbol.Line l ∷ m.row) m → None ≡ first_row (λ row. may_be_empty rules table row) (rules.lines l)
        → IsUnexpectedEnd rules T (length T)
    line_end l st none =
        end_line rules table right T m.state m.steps.items m.row l (at_end rules table T m (symbol.Line l ∷ m.row) h st)
        (none_found (λ row. may_be_empty rules table row) (rules.lines l) (sym none))

    pub line_end_moves : (l : L) (body : Row C L A) → StandsBy rules table T (symbol.Line l ∷ m.row) m
        → Some body ≡ first_row (λ row. may_be_empty rules table row) (rules.lines l) → Stands rules table T m.state (body ++ m.row) (drop m.at T) m.steps.items
    line_end_moves l body st first =
        let found = first_found (λ row. may_be_empty rules table row) (rules.lines l) body (sym first) in
        subst (λ (rest : List (Token C)). Stands rules table T m.state (body ++ m.row) rest m.steps.items) (sym (drop_of_length-le T h))
        (stands_line_at_end rules table right T m.state m.steps.items m.row l body (at_end rules table T m (symbol.Line l ∷ m.row) h st)
        (chosen_at_end rules table right l body found.0 found.1))

    pub next_passes_end : (c : C) → StandsBy rules table T (symbol.NotNext c ∷ m.row) m → Stands rules table T m.state m.row (drop m.at T) m.steps.items
    next_passes_end c st =
        stands_not_next rules table right T m.state m.steps.items m.row c (drop m.at T) st.stands
        (subst (λ (rest : List (Token C)). IsNot rules m.state c rest) (sym (drop_of_length-le T h)) tt)

    pub all_read : StandsBy rules table T [] m → IsOnly rules T m.steps.items
    all_read st = finished rules table right T m.state m.steps.items (at_end rules table T m [] h st)
