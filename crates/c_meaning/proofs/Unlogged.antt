-- A log changes nothing of what is logged.
use Rattle.std.proofs.Common.{◌≡◌, ℕ, List, [], Bool, refl, sym, ap, ◌∙◌, subst}
use mathlib.Core.Path.{fun_ext}
use Rattle.rvt_num.specs.declared.values.Value.{Value}
use Rattle.rvt_tree.specs.declared.programs.Program.{Program}
use Rattle.c_meaning.specs.Outcomes.{state, Outcome, Done, Returning, Trapped, Cut, Deep, Doing, Answers, Manner}
use Rattle.c_meaning.specs.Runs.{called}
use Rattle.c_meaning.specs.Logs.{Met, MetCall, MetLoop, MetEnd, Logged, with_log, without_log, unlogged, logging}
use Rattle.c_meaning.proofs.Tracks.{Order, Grown, IsGood, Matched, Tracks, Follow}
use Rattle.c_meaning.proofs.Follows.{tracks_called}

-- the second side keeps what the first keeps besides its log
abbrev pub forgets : (X : Type 0) → Order (Logged X) X
forgets X =
    record {
      Grows = λ x y. Unit {0};
      same = λ x. tt;
      onward = λ x y z g h. tt;
      Good = λ x. Unit {0};
      earlier = λ x y g good. tt;
      Like = λ x y. y ≡ x.own;
      Exact = Unit {0};
      all_good = λ exact x. tt;
    }

module _ {X : Type 0} (answers : Answers X) where
  pub any_growth : {A : Type 0} (x : Logged X) (r : Outcome (Logged X) A) → Grown (forgets X) x r
  any_growth x (Done a s) = tt
  any_growth x (Returning n store z) = tt
  any_growth x (Trapped why z) = tt
  any_growth x Cut = tt
  any_growth x Deep = tt

  pub any_good : {A : Type 0} (r : Outcome (Logged X) A) → IsGood (forgets X) r
  any_good (Done a s) = tt
  any_good (Returning n store z) = tt
  any_good (Trapped why z) = tt
  any_good Cut = tt
  any_good Deep = tt

  logged_matched : {A : Type 0} (log : List (Met X)) (met : MetEnd A → X → Met X) (r : Outcome X A) → Matched (forgets X) (with_log log met r) r
  logged_matched log met (Done a s) = (s.kept, refl, refl)
  logged_matched log met (Returning n store x) = (x, refl, refl)
  logged_matched log met (Trapped why x) = (x, refl, refl)
  logged_matched log met Cut = λ exact. refl
  logged_matched log met Deep = λ exact. refl

  pub unlogged_outcome : {A : Type 0} (r : Outcome (Logged X) A) (r' : Outcome X A) → Matched (forgets X) r r' → without_log r ≡ r'
  unlogged_outcome (Done a s) r' m = ap (λ x. Done a (state s.locals s.store x)) (sym m.2) ∙ sym m.1
  unlogged_outcome (Returning n store x) r' m = ap (Returning n store) (sym m.2) ∙ sym m.1
  unlogged_outcome (Trapped why x) r' m = ap (Trapped why) (sym m.2) ∙ sym m.1
  unlogged_outcome Cut r' m = sym (m tt)
  unlogged_outcome Deep r' m = sym (m tt)

  unlogged_part : {A : Type 0} (m : Doing (Logged X) A) (m' : Doing X A) → Tracks (forgets X) m m' → unlogged m ≡ m'
  unlogged_part m m' t =
      fun_ext (λ s. unlogged_outcome (m (state s.locals s.store (record { own = s.kept; met = [] }))) (m' s)
      (t.follows s.locals s.store (record { own = s.kept; met = [] }) s.kept refl (any_good _)))

  pub follow_logging : Follow (forgets X) (logging answers) answers
  follow_logging =
      record {
        call = λ function arguments.
            record {
              grows = λ locals store x. any_growth x _;
              follows = λ locals store x y like good.
                  let r = answers.call function arguments in
                  let log = with_log x.met (MetCall function arguments locals store x.own) (r (state locals store x.own)) in
                  subst (λ z. Matched (forgets X) log (r (state locals store z))) (sym like)
                  (logged_matched x.met (MetCall function arguments locals store x.own) (r (state locals store x.own)));
            };
        loop = λ number first test test' round round' t u.
            record {
              grows = λ locals store x. any_growth x _;
              follows = λ locals store x y like good.
                  let logged : Doing X Bool → Doing X Manner → Outcome (Logged X) Manner = λ a b. with_log x.met (MetLoop number locals store x.own) (answers.loop number first a b (state locals store x.own)) in
                  let plain : X → Outcome X Manner = λ z. answers.loop number first test' round' (state locals store z) in
                  let here = logged_matched x.met (MetLoop number locals store x.own) (plain x.own) in
                  let there = subst (λ z. Matched (forgets X) (logged test' round') (plain z)) (sym like) here in
                  let with_test = subst (λ a. Matched (forgets X) (logged a round') (plain y)) (sym (unlogged_part test test' t)) there in
                  subst (λ b. Matched (forgets X) (logged (unlogged test) b) (plain y)) (sym (unlogged_part round round' u)) with_test;
            };
      }

  -- a body with a log, and without
  pub called_unlogged : (program : Program) (function : ℕ) (arguments : List Value) (locals : List (List Value)) (store : List Value) (x : Logged X) → without_log (called program (logging answers) function arguments (state locals store x)) ≡ called program answers function arguments (state locals store x.own)
  called_unlogged program function arguments locals store x =
      unlogged_outcome _ _ ((tracks_called (forgets X) program (logging answers) answers follow_logging function arguments).follows locals store x x.own refl (any_good _))
