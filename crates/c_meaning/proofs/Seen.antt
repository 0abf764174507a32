-- Where a second kind of answers gives what each call and each loop statement did, a body does the same under it.
use Rattle.std.proofs.Common.{◌≡◌, ℕ, List, [], ◌∷◌, ◌++◌, refl, sym, ap, ◌∙◌, subst, append_assoc}
use Rattle.std.proofs.lemmas.List.{append-nil}
use Rattle.rvt_num.specs.declared.values.Value.{Value}
use Rattle.rvt_tree.specs.declared.programs.Program.{Program}
use Rattle.c_meaning.specs.Outcomes.{state, Outcome, Done, Returning, Trapped, Cut, Deep, Answers, cut}
use Rattle.c_meaning.specs.Runs.{called}
use Rattle.c_meaning.specs.Logs.{Met, MetCall, MetLoop, MetEnd, WithValue, WithReturn, WithTrap, Logged, with_log, without_log, met_in, unlogged, logging, HasEnd, Happened, AllHappened, Given, AllGiven, EndsAs}
use Rattle.c_meaning.proofs.Tracks.{Order, Grown, IsGood, Matched, Follow}
use Rattle.c_meaning.proofs.Follows.{tracks_called}
use Rattle.c_meaning.proofs.Unlogged.{called_unlogged}

module _ {X Y : Type 0} (answers : Answers X) (second : Answers Y) (view : List (Met X) → Y) where
  pub given_front : (before ms more : List (Met X)) → AllGiven second view before (ms ++ more) → AllGiven second view before ms
  given_front before [] more h = tt
  given_front before (m ∷ ms) more h = (h.0, given_front (before ++ m ∷ []) ms more h.1)

  given_last : (before ms : List (Met X)) (m : Met X) → AllGiven second view before (ms ++ m ∷ []) → Given second view (before ++ ms) m
  given_last before [] m h = subst (λ l. Given second view l m) (sym (append-nil before)) h.0
  given_last before (n ∷ ms) m h = subst (λ l. Given second view l m) (append_assoc before (n ∷ []) ms) (given_last (before ++ n ∷ []) ms m h.1)

  happened_both : (ms more : List (Met X)) → AllHappened answers ms → AllHappened answers more → AllHappened answers (ms ++ more)
  happened_both [] more h k = k
  happened_both (m ∷ ms) more h k = (h.0, happened_both ms more h.1 k)

  abbrev pub Longer : Logged X → Logged X → Type 0
  Longer x y = (more : List (Met X)) × (y.met ≡ x.met ++ more) × AllHappened answers more

  pub longer_onward : (x y z : Logged X) → Longer x y → Longer y z → Longer x z
  longer_onward x y z g h =
      (g.0 ++ h.0, h.1 ∙ ap (λ l. l ++ h.0) g.1 ∙ append_assoc x.met g.0 h.0, happened_both g.0 h.0 g.2 h.2)

  -- logs grow by what happened; ends are compared where all that was met is given by the second answers; and these keep the view of it
  abbrev pub seen : Order (Logged X) Y
  seen =
      record {
        Grows = Longer;
        same = λ x. ([], sym (append-nil x.met), tt);
        onward = longer_onward;
        Good = λ x. AllGiven second view [] x.met;
        earlier = λ x y g good. given_front [] x.met g.0 (subst (AllGiven second view []) g.1 good);
        Like = λ x y. y ≡ view x.met;
        Exact = ⊥;
        all_good = λ exact x. absurd exact;
      }

  -- one call or loop statement, with this outcome under the first answers
  logged_grows : {A : Type 0} (x : Logged X) (met : MetEnd A → X → Met X) (r : Outcome X A) → ((end : MetEnd A) (y : X) → HasEnd r end y → Happened answers (met end y)) → Grown seen x (with_log x.met met r)
  logged_grows x met (Done a s) h = (met (WithValue a s.locals s.store) s.kept ∷ [], refl, (h (WithValue a s.locals s.store) s.kept refl, tt))
  logged_grows x met (Returning n store z) h = (met (WithReturn n store) z ∷ [], refl, (h (WithReturn n store) z refl, tt))
  logged_grows x met (Trapped why z) h = (met (WithTrap why) z ∷ [], refl, (h (WithTrap why) z refl, tt))
  logged_grows x met Cut h = tt
  logged_grows x met Deep h = tt

  logged_follows : {A : Type 0} (x : Logged X) (met : MetEnd A → X → Met X) (r : Outcome X A) (r' : Outcome Y A) →
      ((end : MetEnd A) (y : X) → Given second view x.met (met end y) → HasEnd r' end (view (x.met ++ met end y ∷ []))) →
      IsGood seen (with_log x.met met r) → Matched seen (with_log x.met met r) r'
  logged_follows x met (Done a s) r' h good =
      let end : MetEnd _ = WithValue a s.locals s.store in
      (view (x.met ++ met end s.kept ∷ []), h end s.kept (given_last [] x.met (met end s.kept) good), refl)
  logged_follows x met (Returning n store z) r' h good =
      let end : MetEnd _ = WithReturn n store in
      (view (x.met ++ met end z ∷ []), h end z (given_last [] x.met (met end z) good), refl)
  logged_follows x met (Trapped why z) r' h good =
      let end : MetEnd _ = WithTrap why in
      (view (x.met ++ met end z ∷ []), h end z (given_last [] x.met (met end z) good), refl)
  logged_follows x met Cut r' h good = λ exact. absurd exact
  logged_follows x met Deep r' h good = λ exact. absurd exact

  pub follow_seen : Follow seen (logging answers) second
  follow_seen =
      record {
        call = λ function arguments.
            record {
              grows = λ locals store x.
                  logged_grows x (MetCall function arguments locals store x.own) (answers.call function arguments (state locals store x.own)) (λ end y h. h);
              follows = λ locals store x y like.
                  subst (λ z. IsGood seen (with_log x.met (MetCall function arguments locals store x.own) (answers.call function arguments (state locals store x.own))) → Matched seen (with_log x.met (MetCall function arguments locals store x.own) (answers.call function arguments (state locals store x.own))) (second.call function arguments (state locals store z))) (sym like)
                  (logged_follows x (MetCall function arguments locals store x.own) (answers.call function arguments (state locals store x.own)) (second.call function arguments (state locals store (view x.met))) (λ end y given. given));
            };
        loop = λ number first test test' round round' t u.
            record {
              grows = λ locals store x.
                  logged_grows x (MetLoop number locals store x.own) (answers.loop number first (unlogged test) (unlogged round) (state locals store x.own)) (λ end y h. (first, unlogged test, unlogged round, h));
              follows = λ locals store x y like.
                  subst (λ z. IsGood seen (with_log x.met (MetLoop number locals store x.own) (answers.loop number first (unlogged test) (unlogged round) (state locals store x.own))) → Matched seen (with_log x.met (MetLoop number locals store x.own) (answers.loop number first (unlogged test) (unlogged round) (state locals store x.own))) (second.loop number first test' round' (state locals store z))) (sym like)
                  (logged_follows x (MetLoop number locals store x.own) (answers.loop number first (unlogged test) (unlogged round) (state locals store x.own)) (second.loop number first test' round' (state locals store (view x.met))) (λ end y given. given first test' round'));
            };
      }

  pub seen_end : {A : Type 0} (r : Outcome (Logged X) A) (r' : Outcome Y A) → (IsGood seen r → Matched seen r r') → AllGiven second view [] (met_in r) → EndsAs (without_log r) (view (met_in r)) r'
  seen_end (Done a s) r' h given = let m = h given in m.1 ∙ ap (λ y. Done a (state s.locals s.store y)) m.2
  seen_end (Returning n store x) r' h given = let m = h given in m.1 ∙ ap (Returning n store) m.2
  seen_end (Trapped why x) r' h given = let m = h given in m.1 ∙ ap (Trapped why) m.2
  seen_end Cut r' h given = tt
  seen_end Deep r' h given = tt

  pub all_happened : {A : Type 0} (own : X) (r : Outcome (Logged X) A) → Grown seen (record { own = own; met = [] }) r → AllHappened answers (met_in r)
  all_happened own (Done a s) grown = subst (AllHappened answers) (sym grown.1) grown.2
  all_happened own (Returning n store x) grown = subst (AllHappened answers) (sym grown.1) grown.2
  all_happened own (Trapped why x) grown = subst (AllHappened answers) (sym grown.1) grown.2
  all_happened own Cut grown = tt
  all_happened own Deep grown = tt

  -- what a body did under the first answers is what it does under any that give the ends of the calls and loop statements that it met
  pub body_seen : (program : Program) (function : ℕ) (arguments : List Value) (locals : List (List Value)) (store : List Value) (x : X) →
      let r = called program (logging answers) function arguments (state locals store (record { own = x; met = [] })) in
      AllGiven second view [] (met_in r) → EndsAs (called program answers function arguments (state locals store x)) (view (met_in r)) (called program second function arguments (state locals store (view [])))
  body_seen program function arguments locals store x given =
      let start : Logged X = record { own = x; met = [] } in
      let r = called program (logging answers) function arguments (state locals store start) in
      let r' = called program second function arguments (state locals store (view [])) in
      let t = tracks_called seen program (logging answers) second follow_seen function arguments in
      subst (λ q. EndsAs q (view (met_in r)) r') (called_unlogged answers program function arguments locals store start)
      (seen_end r r' (t.follows locals store start (view []) refl) given)

-- answers that do not matter
abbrev pub no_answers : {Y : Type 0} → Answers Y
no_answers = record { call = λ function arguments. cut; loop = λ number first test round. cut }

-- and each of these the first answers gave
pub body_happened : {X : Type 0} (answers : Answers X) (program : Program) (function : ℕ) (arguments : List Value) (locals : List (List Value)) (store : List Value) (x : X) →
    AllHappened answers (met_in (called program (logging answers) function arguments (state locals store (record { own = x; met = [] }))))
body_happened {X} answers program function arguments locals store x =
    let view : List (Met X) → List (Met X) = λ met. met in
    let start : Logged X = record { own = x; met = [] } in
    all_happened answers no_answers view x _
    ((tracks_called (seen answers no_answers view) program (logging answers) no_answers (follow_seen answers no_answers view) function arguments).grows locals store start)
