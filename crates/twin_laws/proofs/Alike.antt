-- Two parts that do the same in states in which every cell holds a value of a sort, and that leave such states.
use Rattle.std.proofs.Common.{◌≡◌, ℕ, zero, suc, List, [], ◌∷◌, ◌++◌, get_or, Bool, true, false, if◌then◌else◌, All, Option, Some, None, Result, Ok, Err, unwrap_or, refl, ap, ◌∙◌}
use Rattle.std.proofs.lemmas.List.Elements.{All-head, All-tail}
use Rattle.rvt_num.specs.declared.values.Trap.{Trap}
use Rattle.rvt_num.specs.declared.values.Value.{Value}
use Rattle.c_meaning.specs.Outcomes.{State, Outcome, Done, Returning, Trapped, Cut, Deep, Doing, Manner, Normally, Broke, Continued, give, go_on, and_then, unless_trapped}
use Rattle.c_meaning.specs.Statements.{normally_then, after_round, after_body, after_group, or_else}
use Rattle.c_meaning.specs.Runs.{turn, step_at, spend, turns}

-- ---- lists

abbrev pub Each : {X : Type 0} → (X → Type 0) → List X → Type 0
Each P [] = Unit {0}
Each P (x ∷ xs) = P x × Each P xs

pub each_of : {X : Type 0} (P : X → Type 0) (xs : List X) → All P xs → Each P xs
each_of P [] h = tt
each_of P (x ∷ xs) h = (All-head P x xs h, each_of P xs (All-tail P x xs h))

pub first_part : {X : Type 0} (P : X → Type 0) (xs ys : List X) → Each P (xs ++ ys) → Each P xs
first_part P [] ys h = tt
first_part P (x ∷ xs) ys h = (h.0, first_part P xs ys h.1)

pub last_part : {X : Type 0} (P : X → Type 0) (xs ys : List X) → Each P (xs ++ ys) → Each P ys
last_part P [] ys h = h
last_part P (x ∷ xs) ys h = last_part P xs ys h.1

pub one_of : {X : Type 0} (P : X → Type 0) (xs : List X) (i : ℕ) (other : X) → P other → All P xs → P (get_or xs i other)
one_of P [] i other h all = h
one_of P (x ∷ xs) zero other h all = All-head P x xs all
one_of P (x ∷ xs) (suc i) other h all = one_of P xs i other h (All-tail P x xs all)

-- ---- parts

abbrev pub Anything : {A : Type 0} → A → Type 0
Anything a = Unit {0}

abbrev pub WhereOk : {A : Type 0} → (A → Type 0) → Result A Trap → Type 0
WhereOk Gives (Ok a) = Gives a
WhereOk Gives (Err why) = Unit {0}

module _ (Is : Value → Type 0) where
  pub record IsHeld {X : Type 0} (s : State X) : Type 0 where
    pub locals : All (All Is) s.locals
    pub store : All Is s.store

  abbrev pub Leaves : {X A : Type 0} → (A → Type 0) → Outcome X A → Type 0
  Leaves Gives (Done a s) = Gives a × IsHeld s
  Leaves Gives (Returning n store x) = All Is store
  Leaves Gives (Trapped why x) = Unit {0}
  Leaves Gives Cut = Unit {0}
  Leaves Gives Deep = Unit {0}

  -- both do the same and give a value of which this holds
  pub record Alike {X A : Type 0} (Gives : A → Type 0) (m m' : Doing X A) : Type 0 where
    pub same : (s : State X) → IsHeld s → m s ≡ m' s
    pub leaves : (s : State X) → IsHeld s → Leaves Gives (m s)

  pub give_alike : {X A : Type 0} (Gives : A → Type 0) (a a' : A) → a ≡ a' → Gives a → Alike {X = X} Gives (give a) (give a')
  give_alike Gives a a' e g = record { same = λ s h. ap (λ v. Done v s) e; leaves = λ s h. (g, h) }

  or_trap : {X A : Type 0} (Gives : A → Type 0) (r : Result A Trap) (s : State X) → IsHeld s → WhereOk Gives r → Leaves Gives (unless_trapped r s)
  or_trap Gives (Ok a) s h g = (g, h)
  or_trap Gives (Err why) s h g = tt

  pub unless_alike : {X A : Type 0} (Gives : A → Type 0) (r r' : Result A Trap) → r ≡ r' → WhereOk Gives r → Alike {X = X} Gives (unless_trapped r) (unless_trapped r')
  unless_alike Gives r r' e g = record { same = λ s h. ap (λ q. unless_trapped q s) e; leaves = λ s h. or_trap Gives r s h g }

  module _ {X A B : Type 0} (Gives : A → Type 0) (Gives' : B → Type 0) (next next' : A → Doing X B) (alike : (a : A) → Gives a → Alike Gives' (next a) (next' a)) where
    goes_on_same : (r : Outcome X A) → Leaves Gives r → go_on next r ≡ go_on next' r
    goes_on_same (Done a s) h = (alike a h.0).same s h.1
    goes_on_same (Returning n store x) h = refl
    goes_on_same (Trapped why x) h = refl
    goes_on_same Cut h = refl
    goes_on_same Deep h = refl

    goes_on_leaves : (r : Outcome X A) → Leaves Gives r → Leaves Gives' (go_on next r)
    goes_on_leaves (Done a s) h = (alike a h.0).leaves s h.1
    goes_on_leaves (Returning n store x) h = h
    goes_on_leaves (Trapped why x) h = tt
    goes_on_leaves Cut h = tt
    goes_on_leaves Deep h = tt

  pub then_alike : {X A B : Type 0} (Gives : A → Type 0) (Gives' : B → Type 0) (m m' : Doing X A) (next next' : A → Doing X B) →
      Alike Gives m m' → ((a : A) → Gives a → Alike Gives' (next a) (next' a)) → Alike Gives' (and_then m next) (and_then m' next')
  then_alike Gives Gives' m m' next next' t u = record {
    same = λ s h. goes_on_same Gives Gives' next next' u (m s) (t.leaves s h) ∙ ap (go_on next') (t.same s h);
    leaves = λ s h. goes_on_leaves Gives Gives' next next' u (m s) (t.leaves s h);
  }

  pub if_alike : {X A : Type 0} (Gives : A → Type 0) (b : Bool) (m n m' n' : Doing X A) → Alike Gives m m' → Alike Gives n n' → Alike Gives (if b then m else n) (if b then m' else n')
  if_alike Gives true m n m' n' t u = t
  if_alike Gives false m n m' n' t u = u

  -- ---- how statements go on

  pub normally_alike : {X : Type 0} (next next' : Doing X Manner) → Alike Anything next next' → (manner : Manner) → Alike Anything (normally_then next manner) (normally_then next' manner)
  normally_alike next next' t Normally = t
  normally_alike next next' t Broke = give_alike Anything _ _ refl tt
  normally_alike next next' t Continued = give_alike Anything _ _ refl tt

  pub body_alike : {X : Type 0} (last last' : Doing X (Unit {0})) → Alike Anything last last' → (manner : Manner) → Alike Anything (after_body last manner) (after_body last' manner)
  body_alike last last' t Normally = then_alike Anything Anything _ _ _ _ t (λ _ _. give_alike Anything _ _ refl tt)
  body_alike last last' t Broke = give_alike Anything _ _ refl tt
  body_alike last last' t Continued = then_alike Anything Anything _ _ _ _ t (λ _ _. give_alike Anything _ _ refl tt)

  pub group_alike : {X : Type 0} (manner : Manner) → Alike {X = X} Anything (after_group manner) (after_group manner)
  group_alike Normally = give_alike Anything _ _ refl tt
  group_alike Broke = give_alike Anything _ _ refl tt
  group_alike Continued = give_alike Anything _ _ refl tt

  round_alike : {X : Type 0} (again again' : Doing X Manner) → Alike Anything again again' → (manner : Manner) → Alike Anything (after_round again manner) (after_round again' manner)
  round_alike again again' t Normally = t
  round_alike again again' t Broke = give_alike Anything _ _ refl tt
  round_alike again again' t Continued = t

  -- a part that may be missing, on both sides or on neither
  abbrev pub AlikeOption : {X : Type 0} → Option (Doing X Manner) → Option (Doing X Manner) → Type 0
  AlikeOption None None = Unit {0}
  AlikeOption None (Some m') = ⊥
  AlikeOption (Some m) None = ⊥
  AlikeOption (Some m) (Some m') = Alike Anything m m'

  pub either_alike : {X : Type 0} (r s r' s' : Option (Doing X Manner)) → AlikeOption r r' → AlikeOption s s' → AlikeOption (or_else r s) (or_else r' s')
  either_alike (Some m) s (Some m') s' t u = t
  either_alike (Some m) s None s' t u = absurd t
  either_alike None s (Some m') s' t u = absurd t
  either_alike None s None s' t u = u

  pub found_alike : {X : Type 0} (r r' : Option (Doing X Manner)) → AlikeOption r r' → Alike Anything (unwrap_or r (give Normally)) (unwrap_or r' (give Normally))
  found_alike (Some m) (Some m') t = t
  found_alike (Some m) None t = absurd t
  found_alike None (Some m') t = absurd t
  found_alike None None t = give_alike Anything _ _ refl tt

  pub picked_alike : {X : Type 0} (b : Bool) (m m' : Doing X Manner) (r r' : Option (Doing X Manner)) → Alike Anything m m' → AlikeOption r r' → AlikeOption (if b then Some m else r) (if b then Some m' else r')
  picked_alike true m m' r r' t u = t
  picked_alike false m m' r r' t u = u

  -- ---- loops in a run

  stepped : {A : Type 0} (Gives : A → Type 0) (left : ℕ) (m m' : Doing ℕ A) → Alike Gives m m' → Alike Gives (step_at left m) (step_at left m')
  stepped Gives zero m m' t = record { same = λ s h. refl; leaves = λ s h. tt }
  stepped Gives (suc left) m m' t = record {
    same = λ s h. t.same _ (record { locals = h.locals; store = h.store });
    leaves = λ s h. t.leaves _ (record { locals = h.locals; store = h.store });
  }

  pub spend_alike : {A : Type 0} (Gives : A → Type 0) (m m' : Doing ℕ A) → Alike Gives m m' → Alike Gives (spend m) (spend m')
  spend_alike Gives m m' t = record {
    same = λ s h. (stepped Gives s.kept m m' t).same s h;
    leaves = λ s h. (stepped Gives s.kept m m' t).leaves s h;
  }

  pub turn_alike : {X : Type 0} (first : Bool) (test test' : Doing X Bool) (round round' again again' : Doing X Manner) →
      Alike Anything test test' → Alike Anything round round' → Alike Anything again again' → Alike Anything (turn first test round again) (turn first test' round' again')
  turn_alike false test test' round round' again again' t u v =
      then_alike Anything Anything _ _ _ _ t (λ b _.
      if_alike Anything b _ _ _ _ (then_alike Anything Anything _ _ _ _ u (λ manner _. round_alike again again' v manner)) (give_alike Anything _ _ refl tt))
  turn_alike true test test' round round' again again' t u v =
      then_alike Anything Anything _ _ _ _ u (λ manner _.
      round_alike _ _ (then_alike Anything Anything _ _ _ _ t (λ b _. if_alike Anything b _ _ _ _ v (give_alike Anything _ _ refl tt))) manner)

  pub turns_alike : (n : ℕ) (first : Bool) (test test' : Doing ℕ Bool) (round round' : Doing ℕ Manner) →
      Alike Anything test test' → Alike Anything round round' → Alike Anything (turns n first test round) (turns n first test' round')
  turns_alike zero first test test' round round' t u = record { same = λ s h. refl; leaves = λ s h. tt }
  turns_alike (suc n) first test test' round round' t u =
      turn_alike first _ _ _ _ _ _ (spend_alike Anything test test' t) u (turns_alike n first test test' round round' t u)
