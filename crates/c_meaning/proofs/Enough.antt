-- The bound by which calls and turns are counted out decides nothing: only the steps left do, where it is no lower than they are.
use Rattle.std.proofs.Common.{◌≡◌, ℕ, zero, suc, ◌<◌, ◌≤◌, List, Bool, true, false, if◌then◌else◌, Option, refl, sym, ap, ◌∙◌, subst, arith}
use Rattle.rvt_num.specs.Number.{Number}
use Rattle.rvt_num.specs.declared.values.Value.{Value}
use Rattle.rvt_tree.specs.declared.programs.Program.{Program}
use Rattle.c_meaning.specs.Outcomes.{State, state, Outcome, Done, Returning, Trapped, Cut, Deep, Doing, Manner, Normally, Broke, Continued, give, go_on, and_then, cut}
use Rattle.rvt_tree.specs.Syntax.{Expression, Action, Statement}
use Rattle.c_meaning.specs.Statements.{after_round, after_body, test_of, meaning, acts}
use Rattle.c_meaning.specs.Runs.{called, turn, spend, turns, nested, calls, running, stepping}
use Rattle.c_meaning.proofs.Tracks.{Order, Grown, IsGood, Matched, Tracks, Follow, further, tracks_then, tracks_turn, tracks_deep}
use Rattle.c_meaning.proofs.Follows.{tracks_called, tracks_test, tracks_meaning, tracks_acts, tracks_after_body}

-- the two sides have the same number of steps left, which is at most n
abbrev pub level : ℕ → Order ℕ ℕ
level n =
    record {
      Grows = λ x y. y ≤ x;
      same = λ x. omega arith;
      onward = λ x y z g h. omega (arith, g, h);
      Good = λ x. Unit {0};
      earlier = λ x y g good. tt;
      Like = λ x y. (y ≡ x) × (x ≤ n);
      Exact = Unit {0};
      all_good = λ exact x. tt;
    }

-- no more steps are left after than before
abbrev pub Spends : {A : Type 0} → Doing ℕ A → Type 0
Spends m = (locals : List (List Value)) (store : List Value) (x : ℕ) → Grown (level 0) x (m (state locals store x))

-- what follows is asked only where at most x steps are left
go_on_same : {A B : Type 0} (x : ℕ) (r : Outcome ℕ A) (next next' : A → Doing ℕ B) → Grown (level 0) x r → ((a : A) (locals : List (List Value)) (store : List Value) (y : ℕ) → y ≤ x → next a (state locals store y) ≡ next' a (state locals store y)) → go_on next r ≡ go_on next' r
go_on_same x (Done a s) next next' grown h = h a s.locals s.store s.kept grown
go_on_same x (Returning n store z) next next' grown h = refl
go_on_same x (Trapped why z) next next' grown h = refl
go_on_same x Cut next next' grown h = refl
go_on_same x Deep next next' grown h = refl

after_round_same : (x : ℕ) (again again' : Doing ℕ Manner) → ((locals : List (List Value)) (store : List Value) (y : ℕ) → y ≤ x → again (state locals store y) ≡ again' (state locals store y)) → (manner : Manner) (locals : List (List Value)) (store : List Value) (y : ℕ) → y ≤ x → after_round again manner (state locals store y) ≡ after_round again' manner (state locals store y)
after_round_same x again again' h Normally locals store y le = h locals store y le
after_round_same x again again' h Broke locals store y le = refl
after_round_same x again again' h Continued locals store y le = h locals store y le

if_same : {A : Type 0} (b : Bool) (m m' n : Doing ℕ A) (s : State ℕ) → (m s ≡ m' s) → (if b then m else n) s ≡ (if b then m' else n) s
if_same true m m' n s h = h
if_same false m m' n s h = refl

module _ (first : Bool) (test : Doing ℕ Bool) (round : Doing ℕ Manner) (t : Spends test) (u : Spends round) where
  -- the test with its step, and the next turn if it holds
  again_same : (again again' : Doing ℕ Manner) (locals : List (List Value)) (store : List Value) (x : ℕ) →
      ((l : List (List Value)) (s : List Value) (y : ℕ) → y < x → again (state l s y) ≡ again' (state l s y)) →
      and_then (spend test) (λ b. if b then again else give Normally) (state locals store x) ≡ and_then (spend test) (λ b. if b then again' else give Normally) (state locals store x)
  again_same again again' locals store zero h = refl
  again_same again again' locals store (suc x) h =
      go_on_same x (test (state locals store x)) (λ b. if b then again else give Normally) (λ b. if b then again' else give Normally) (t locals store x)
      (λ b l s y le. if_same b again again' (give Normally) (state l s y) (h l s y (omega (arith, le))))

  round_same : (again again' : Doing ℕ Manner) (locals : List (List Value)) (store : List Value) (x : ℕ) →
      ((l : List (List Value)) (s : List Value) (y : ℕ) → y ≤ x → again (state l s y) ≡ again' (state l s y)) →
      and_then round (after_round again) (state locals store x) ≡ and_then round (after_round again') (state locals store x)
  round_same again again' locals store x h =
      go_on_same x (round (state locals store x)) (after_round again) (after_round again') (u locals store x)
      (λ manner l s y le. after_round_same x again again' h manner l s y le)

turn_same : (first : Bool) (test : Doing ℕ Bool) (round again again' : Doing ℕ Manner) → Spends test → Spends round → (locals : List (List Value)) (store : List Value) (x : ℕ) →
    ((l : List (List Value)) (s : List Value) (y : ℕ) → y < x → again (state l s y) ≡ again' (state l s y)) →
    turn first (spend test) round again (state locals store x) ≡ turn first (spend test) round again' (state locals store x)
turn_same false test round again again' t u locals store x h =
    again_same false test round t u (and_then round (after_round again)) (and_then round (after_round again')) locals store x
    (λ l s y less. round_same false test round t u again again' l s y (λ l2 s2 z le. h l2 s2 z (omega (arith, le, less))))
turn_same true test round again again' t u locals store x h =
    round_same true test round t u (and_then (spend test) (λ b. if b then again else give Normally)) (and_then (spend test) (λ b. if b then again' else give Normally)) locals store x
    (λ l s y le. again_same true test round t u again again' l s y (λ l2 s2 z less. h l2 s2 z (omega (arith, le, less))))

-- more turns than steps are left are enough
pub turns_enough : (n n' : ℕ) (first : Bool) (test : Doing ℕ Bool) (round : Doing ℕ Manner) → Spends test → Spends round → (locals : List (List Value)) (store : List Value) (x : ℕ) → x < n → x < n' → turns n first test round (state locals store x) ≡ turns n' first test round (state locals store x)
turns_enough zero n' first test round t u locals store x less less' = absurd (let no : ⊥ = omega (arith, less) in no)
turns_enough (suc n) zero first test round t u locals store x less less' = absurd (let no : ⊥ = omega (arith, less') in no)
turns_enough (suc n) (suc n') first test round t u locals store x less less' =
    turn_same first test round (turns n first test round) (turns n' first test round) t u locals store x
    (λ l s y below. turns_enough n n' first test round t u l s y (omega (arith, less, below)) (omega (arith, less', below)))

-- ---- calls

raised : {A : Type 0} (n k : ℕ) → n ≤ k → (r r' : Outcome ℕ A) → Matched (level n) r r' → Matched (level k) r r'
raised n k le (Done a s) r' m = (m.0, m.1, (m.2.0, omega (arith, le, m.2.1)))
raised n k le (Returning n' store z) r' m = (m.0, m.1, (m.2.0, omega (arith, le, m.2.1)))
raised n k le (Trapped why z) r' m = (m.0, m.1, (m.2.0, omega (arith, le, m.2.1)))
raised n k le Cut r' m = m
raised n k le Deep r' m = m

spend_grows : {A : Type 0} (next : Doing ℕ A) → Spends next → Spends (spend next)
spend_grows next t locals store zero = tt
spend_grows next t locals store (suc x) = further (level 0) (suc x) x (next (state locals store x)) (omega arith) (t locals store x)

spend_follows : {A : Type 0} (n k : ℕ) → n ≤ k → k ≤ suc n → (next next' : Doing ℕ A) → Tracks (level n) next next' → (locals : List (List Value)) (store : List Value) (x y : ℕ) → y ≡ x → x ≤ k → IsGood (level k) (spend next (state locals store x)) → Matched (level k) (spend next (state locals store x)) (spend next' (state locals store y))
spend_follows n k le ge next next' t locals store zero y e within good = λ exact. ap (λ z. spend next' (state locals store z)) e
spend_follows n k le ge next next' t locals store (suc x) y e within good =
    subst (λ z. Matched (level k) (next (state locals store x)) (spend next' (state locals store z))) (sym e)
    (raised n k le (next (state locals store x)) (next' (state locals store x)) (t.follows locals store x x (refl, omega (arith, ge, within)) good))

tracks_spend : {A : Type 0} (n k : ℕ) → n ≤ k → k ≤ suc n → (next next' : Doing ℕ A) → Tracks (level n) next next' → Tracks (level k) (spend next) (spend next')
tracks_spend n k le ge next next' t =
    record { grows = spend_grows next t.grows; follows = λ locals store x y like good. spend_follows n k le ge next next' t locals store x y like.0 like.1 good }

tracks_cut : {A : Type 0} (n : ℕ) → Tracks (level n) {A = A} cut cut
tracks_cut n = record { grows = λ locals store x. tt; follows = λ locals store x y like good. λ exact. refl }

tracks_turns : (n m : ℕ) (first : Bool) (test test' : Doing ℕ Bool) (round round' : Doing ℕ Manner) → Tracks (level n) test test' → Tracks (level n) round round' → Tracks (level n) (turns m first test round) (turns m first test' round')
tracks_turns n zero first test test' round round' t u = tracks_cut n
tracks_turns n (suc m) first test test' round round' t u =
    tracks_turn (level n) first _ _ _ _ _ _ (tracks_spend n n (omega arith) (omega arith) test test' t) u (tracks_turns n m first test test' round round' t u)

-- a part that does the same as another where at most n steps are left
instead : {A : Type 0} (n : ℕ) (m1 m m' : Doing ℕ A) → Tracks (level n) m m' → Spends m1 → ((locals : List (List Value)) (store : List Value) (x : ℕ) → x ≤ n → m1 (state locals store x) ≡ m (state locals store x)) → Tracks (level n) m1 m'
instead n m1 m m' t grows h =
    record {
      grows = grows;
      follows = λ locals store x y like.
          let P : Outcome ℕ _ → Type 0 = λ r. IsGood (level n) r → Matched (level n) r (m' (state locals store y)) in
          subst P (sym (h locals store x like.1)) (t.follows locals store x y like);
    }

mirrored : {A : Type 0} (n x : ℕ) (r : Outcome ℕ A) → Grown (level 0) x r → x ≤ n → Matched (level n) r r
mirrored n x (Done a s) grown le = (s.kept, refl, (refl, omega (arith, grown, le)))
mirrored n x (Returning n' store z) grown le = (z, refl, (refl, omega (arith, grown, le)))
mirrored n x (Trapped why z) grown le = (z, refl, (refl, omega (arith, grown, le)))
mirrored n x Cut grown le = λ exact. refl
mirrored n x Deep grown le = λ exact. refl

-- a part tracks itself
itself : {A : Type 0} (n : ℕ) (m : Doing ℕ A) → Spends m → Tracks (level n) m m
itself n m t =
    record {
      grows = t;
      follows = λ locals store x y like good.
          subst (λ z. Matched (level n) (m (state locals store x)) (m (state locals store z))) (sym like.0) (mirrored n x (m (state locals store x)) (t locals store x) like.1);
    }

pub all_good : {A : Type 0} (n : ℕ) (r : Outcome ℕ A) → IsGood (level n) r
all_good n (Done a s) = tt
all_good n (Returning n' store z) = tt
all_good n (Trapped why z) = tt
all_good n Cut = tt
all_good n Deep = tt

pub one_outcome : {A : Type 0} (n : ℕ) (r r' : Outcome ℕ A) → Matched (level n) r r' → r' ≡ r
one_outcome n (Done a s) r' m = m.1 ∙ ap (λ y. Done a (state s.locals s.store y)) m.2.0
one_outcome n (Returning n' store z) r' m = m.1 ∙ ap (Returning n' store) m.2.0
one_outcome n (Trapped why z) r' m = m.1 ∙ ap (Trapped why) m.2.0
one_outcome n Cut r' m = m tt
one_outcome n Deep r' m = m tt

module _ (program : Program) where
  tracks_nested : {A : Type 0} (n d : ℕ) (body body' : ℕ → Doing ℕ A) → ((e : ℕ) → Tracks (level n) (body e) (body' e)) → Tracks (level n) (nested d body) (nested d body')
  tracks_nested n zero body body' t = tracks_deep (level n)
  tracks_nested n (suc d) body body' t = t d

  cut_at_none : {A : Type 0} (next : Doing ℕ A) (locals : List (List Value)) (store : List Value) (x y : ℕ) → y ≡ x → x ≤ 0 → spend next (state locals store y) ≡ Cut
  cut_at_none next locals store x y e le = let none : y ≡ 0 = omega (arith, e, le) in ap (λ z. spend next (state locals store z)) none

  pub tracks_calls : (n n' d : ℕ) → n ≤ n' → (function : ℕ) (arguments : List Value) → Tracks (level n) (calls program n d function arguments) (calls program n' d function arguments)
  tracks_calls zero zero d le function arguments = tracks_cut 0
  tracks_calls zero (suc n') d le function arguments =
      record { grows = λ locals store x. tt; follows = λ locals store x y like good. λ exact. cut_at_none _ locals store x y like.0 like.1 }
  tracks_calls (suc n) zero d le function arguments = absurd (let no : ⊥ = omega (arith, le) in no)
  tracks_calls (suc n) (suc n') d le function arguments =
      tracks_spend n (suc n) (omega arith) (omega arith) _ _ (tracks_nested n d _ _ (λ e.
      tracks_called (level n) program _ _
      (record {
        call = tracks_calls n n' e (omega (arith, le));
        loop = λ number first test test' round round' t u.
            instead n (turns (suc n) first test round) (turns (suc n') first test round) (turns (suc n') first test' round')
            (tracks_turns n (suc n') first test test' round round' t u)
            (tracks_turns n (suc n) first test test' round round' t u).grows
            (λ locals store x within. turns_enough (suc n) (suc n') first test round t.grows u.grows locals store x (omega (arith, within)) (omega (arith, within, le)));
      })
      function arguments))

  -- with at most n steps left, calls that are counted out by n or by more do the same
  pub calls_enough : (n n' d : ℕ) → n ≤ n' → (function : ℕ) (arguments : List Value) (locals : List (List Value)) (store : List Value) (x : ℕ) → x ≤ n → calls program n' d function arguments (state locals store x) ≡ calls program n d function arguments (state locals store x)
  calls_enough n n' d le function arguments locals store x within =
      let t = tracks_calls n n' d le function arguments in
      one_outcome n _ _ (t.follows locals store x x (refl, within) (all_good n _))

  pub own_calls : (n d function : ℕ) (arguments : List Value) (locals : List (List Value)) (store : List Value) (x : ℕ) → x ≤ n → calls program n d function arguments (state locals store x) ≡ calls program x d function arguments (state locals store x)
  own_calls n d function arguments locals store x le = calls_enough x n d le function arguments locals store x (omega arith)

  -- answers that are counted out by n, or by more
  pub running_level : (n n' d : ℕ) → n ≤ n' → Follow (level n) (running program n d) (running program n' d)
  running_level n n' d le =
      record {
        call = tracks_calls n n' d le;
        loop = λ number first test test' round round' t u.
            instead n (turns (suc n) first test round) (turns (suc n') first test round) (turns (suc n') first test' round')
            (tracks_turns n (suc n') first test test' round round' t u)
            (tracks_turns n (suc n) first test test' round round' t u).grows
            (λ locals store x within. turns_enough (suc n) (suc n') first test round t.grows u.grows locals store x (omega (arith, within)) (omega (arith, within, le)));
      }

  -- answers that are counted out by n, and by the steps that are left
  pub running_stepping : (n d : ℕ) → Follow (level n) (running program n d) (stepping program d)
  running_stepping n d =
      record {
        call = λ function arguments.
            record {
              grows = (tracks_calls n n d (omega arith) function arguments).grows;
              follows = λ locals store x y like.
                  let P : ℕ → Type 0 = λ z. IsGood (level n) (calls program n d function arguments (state locals store x)) → Matched (level n) (calls program n d function arguments (state locals store x)) (calls program z d function arguments (state locals store z)) in
                  let Q : Outcome ℕ (Option Number) → Type 0 = λ r. IsGood (level n) (calls program n d function arguments (state locals store x)) → Matched (level n) (calls program n d function arguments (state locals store x)) r in
                  subst P (sym like.0) (subst Q (own_calls n d function arguments locals store x like.1) ((tracks_calls n n d (omega arith) function arguments).follows locals store x x (refl, like.1)));
            };
        loop = λ number first test test' round round' t u.
            record {
              grows = (tracks_turns n (suc n) first test test' round round' t u).grows;
              follows = λ locals store x y like.
                  let P : ℕ → Type 0 = λ z. IsGood (level n) (turns (suc n) first test round (state locals store x)) → Matched (level n) (turns (suc n) first test round (state locals store x)) (turns (suc z) first test' round' (state locals store z)) in
                  let Q : Outcome ℕ Manner → Type 0 = λ r. IsGood (level n) r → Matched (level n) r (turns (suc x) first test' round' (state locals store x)) in
                  subst P (sym like.0) (subst Q (sym (turns_enough (suc n) (suc x) first test round t.grows u.grows locals store x (omega (arith, like.1)) (omega arith)))
                  ((tracks_turns n (suc x) first test test' round round' t u).follows locals store x x (refl, like.1)));
            };
      }

  -- a call that has its step, and is not too deep, does what the body does with the steps that are left
  pub call_unfolds : (x d function : ℕ) (arguments : List Value) (locals : List (List Value)) (store : List Value) → (stepping program (suc d)).call function arguments (state locals store (suc x)) ≡ called program (stepping program d) function arguments (state locals store x)
  call_unfolds x d function arguments locals store =
      let t = tracks_called (level x) program (running program x d) (stepping program d) (running_stepping x d) function arguments in
      sym (one_outcome x _ _ (t.follows locals store x x (refl, omega arith) (all_good x _)))

-- a loop does one turn, and then itself
pub loop_unfolds : (program : Program) (d number : ℕ) (first : Bool) (test : Doing ℕ Bool) (round : Doing ℕ Manner) (locals : List (List Value)) (store : List Value) (x : ℕ) → Spends test → Spends round → (stepping program d).loop number first test round (state locals store x) ≡ turn first (spend test) round ((stepping program d).loop number first test round) (state locals store x)
loop_unfolds program d number first test round locals store x t u =
    turn_same first test round (turns x first test round) ((stepping program d).loop number first test round) t u locals store x
    (λ l s y less. turns_enough x (suc y) first test round t u l s y less (omega arith))

-- ---- the parts of loop statements

-- what does the same as a part that is counted out leaves no more steps than there were
spends_alike : {A : Type 0} (m : ℕ → Doing ℕ A) (m' : Doing ℕ A) → ((n : ℕ) → Tracks (level n) (m n) m') → Spends m'
spends_alike m m' t locals store x =
    let e = one_outcome x (m x (state locals store x)) (m' (state locals store x)) ((t x).follows locals store x x (refl, omega arith) (all_good x _)) in
    subst (λ r. Grown (level 0) x r) (sym e) ((t x).grows locals store x)

module _ (program : Program) (d : ℕ) where
  pub test_spends : (test : Option Expression) → Spends (test_of program (stepping program d) test)
  test_spends test = spends_alike (λ n. test_of program (running program n d) test) _ (λ n. tracks_test (level n) program _ _ (running_stepping program n d) test)

  pub body_spends : (body : Statement) → Spends (meaning program (stepping program d) body)
  body_spends body = spends_alike (λ n. meaning program (running program n d) body) _ (λ n. tracks_meaning (level n) program _ _ (running_stepping program n d) body)

  pub round_spends : (body : Statement) (last : List Action) → Spends (and_then (meaning program (stepping program d) body) (after_body (acts program (stepping program d) last)))
  round_spends body last =
      spends_alike (λ n. and_then (meaning program (running program n d) body) (after_body (acts program (running program n d) last))) _ (λ n.
      tracks_then (level n) _ _ _ _ (tracks_meaning (level n) program _ _ (running_stepping program n d) body)
      (tracks_after_body (level n) program _ _ (running_stepping program n d) _ _ (tracks_acts (level n) program _ _ (running_stepping program n d) last)))
