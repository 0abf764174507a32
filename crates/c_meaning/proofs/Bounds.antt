-- More steps and more nested calls keep an end.
use Rattle.std.proofs.Common.{◌≡◌, ℕ, zero, suc, ◌+◌, ◌-◌, ◌≤◌, List, [], Bool, Option, refl, sym, ap, ◌∙◌, subst, arith}
use Rattle.rvt_num.specs.Number.{Number}
use Rattle.rvt_num.specs.declared.values.Value.{Value}
use Rattle.rvt_tree.specs.declared.programs.Program.{Program}
use Rattle.c_meaning.specs.Outcomes.{state, Outcome, Done, Returning, Trapped, Cut, Deep, Doing, Manner, cut, deep}
use Rattle.c_meaning.specs.Runs.{spend, turns, nested, calls, run, stop_of_call, End, ByTrap, ByReturn, Stop, Ended, IsCut, IsDeep}
use Rattle.c_meaning.proofs.Tracks.{Order, Grown, IsGood, Matched, Tracks, further, tracks_turn}
use Rattle.c_meaning.proofs.Follows.{tracks_called}

-- the second side has j more steps left
abbrev pub more : ℕ → Order ℕ ℕ
more j =
    record {
      Grows = λ x y. y ≤ x;
      same = λ x. omega arith;
      onward = λ x y z g h. omega (arith, g, h);
      Good = λ x. Unit {0};
      earlier = λ x y g good. tt;
      Like = λ x y. y ≡ x + j;
      Exact = ⊥;
      all_good = λ exact x. absurd exact;
    }

module _ (j : ℕ) where
  tracks_cut : {A : Type 0} (m' : Doing ℕ A) → Tracks (more j) cut m'
  tracks_cut m' = record { grows = λ locals store x. tt; follows = λ locals store x y like good. λ exact. absurd exact }

  tracks_too_deep : {A : Type 0} (m' : Doing ℕ A) → Tracks (more j) deep m'
  tracks_too_deep m' = record { grows = λ locals store x. tt; follows = λ locals store x y like good. λ exact. absurd exact }

  spend_grows : {A : Type 0} (next next' : Doing ℕ A) → Tracks (more j) next next' → (locals : List (List Value)) (store : List Value) (x : ℕ) → Grown (more j) x (spend next (state locals store x))
  spend_grows next next' t locals store zero = tt
  spend_grows next next' t locals store (suc x) = further (more j) (suc x) x (next (state locals store x)) (omega arith) (t.grows locals store x)

  spend_follows : {A : Type 0} (next next' : Doing ℕ A) → Tracks (more j) next next' → (locals : List (List Value)) (store : List Value) (x y : ℕ) → y ≡ x + j → IsGood (more j) (spend next (state locals store x)) → Matched (more j) (spend next (state locals store x)) (spend next' (state locals store y))
  spend_follows next next' t locals store zero y like good = λ exact. absurd exact
  spend_follows next next' t locals store (suc x) y like good =
      let e : y ≡ suc (x + j) = omega (arith, like) in
      subst (λ z. Matched (more j) (next (state locals store x)) (spend next' (state locals store z))) (sym e) (t.follows locals store x (x + j) refl good)

  tracks_spend : {A : Type 0} (next next' : Doing ℕ A) → Tracks (more j) next next' → Tracks (more j) (spend next) (spend next')
  tracks_spend next next' t = record { grows = spend_grows next next' t; follows = spend_follows next next' t }

  pub tracks_turns : (n n' : ℕ) → n ≤ n' → (first : Bool) (test test' : Doing ℕ Bool) (round round' : Doing ℕ Manner) → Tracks (more j) test test' → Tracks (more j) round round' → Tracks (more j) (turns n first test round) (turns n' first test' round')
  tracks_turns zero n' le first test test' round round' t u = tracks_cut _
  tracks_turns (suc n) zero le first test test' round round' t u = absurd (let h : suc n ≤ 0 = le in let no : ⊥ = omega (arith, h) in no)
  tracks_turns (suc n) (suc n') le first test test' round round' t u =
      tracks_turn (more j) first _ _ _ _ _ _ (tracks_spend test test' t) u (tracks_turns n n' (omega (arith, le)) first test test' round round' t u)

  module _ (program : Program) where
    tracks_nested : {A : Type 0} (d d' : ℕ) → d ≤ d' → (body body' : ℕ → Doing ℕ A) → ((e e' : ℕ) → e ≤ e' → Tracks (more j) (body e) (body' e')) → Tracks (more j) (nested d body) (nested d' body')
    tracks_nested zero d' le body body' t = tracks_too_deep _
    tracks_nested (suc d) zero le body body' t = absurd (let h : suc d ≤ 0 = le in let no : ⊥ = omega (arith, h) in no)
    tracks_nested (suc d) (suc d') le body body' t = t d d' (omega (arith, le))

    pub tracks_calls : (n n' d d' : ℕ) → n ≤ n' → d ≤ d' → (function : ℕ) (arguments : List Value) → Tracks (more j) (calls program n d function arguments) (calls program n' d' function arguments)
    tracks_calls zero n' d d' le le' function arguments = tracks_cut _
    tracks_calls (suc n) zero d d' le le' function arguments = absurd (let h : suc n ≤ 0 = le in let no : ⊥ = omega (arith, h) in no)
    tracks_calls (suc n) (suc n') d d' le le' function arguments =
        tracks_spend _ _ (tracks_nested d d' le' _ _ (λ e e' less.
        tracks_called (more j) program _ _
        (record {
          call = tracks_calls n n' e e' (omega (arith, le)) less;
          loop = λ number. tracks_turns (suc n) (suc n') le;
        })
        function arguments))

-- ---- the law on runs

-- a run that ended, and the outcome that the same call has with more steps and more nested calls
ended_more : (n j steps : ℕ) (end : End) (r r' : Outcome ℕ (Option Number)) → Grown (more j) n r → (IsGood (more j) r → Matched (more j) r r') → stop_of_call n r ≡ Ended end steps → stop_of_call (n + j) r' ≡ Ended end steps
ended_more n j steps end (Done result s) r' grown h e =
    let m = h tt in
    ap (stop_of_call (n + j)) m.1 ∙ ap (λ k. Ended (ByReturn result s.store) k) (let q : n + j - m.0 ≡ n - s.kept = omega (arith, m.2, grown) in q) ∙ e
ended_more n j steps end (Returning result store z) r' grown h e =
    let m = h tt in
    ap (stop_of_call (n + j)) m.1 ∙ ap (λ k. Ended (ByReturn result store) k) (let q : n + j - m.0 ≡ n - z = omega (arith, m.2, grown) in q) ∙ e
ended_more n j steps end (Trapped why z) r' grown h e =
    let m = h tt in
    ap (stop_of_call (n + j)) m.1 ∙ ap (λ k. Ended (ByTrap why) k) (let q : n + j - m.0 ≡ n - z = omega (arith, m.2, grown) in q) ∙ e
ended_more n j steps end Cut r' grown h e = cc
ended_more n j steps end Deep r' grown h e = cc

-- more steps and more nested calls keep an end, and how many steps it took
pub more_keeps_end : (program : Program) (function : ℕ) (arguments store : List Value) (n j d d' : ℕ) (end : End) (steps : ℕ) → d ≤ d' → run program function arguments store n d ≡ Ended end steps → run program function arguments store (n + j) d' ≡ Ended end steps
more_keeps_end program function arguments store n j d d' end steps le e =
    let t = tracks_calls j program n (n + j) d d' (omega arith) le function arguments in
    ended_more n j steps end _ _ (t.grows [] store n) (t.follows [] store n (n + j) refl) e

abbrev pub steps_in : Stop → ℕ
steps_in (Ended end steps) = steps
steps_in IsCut = 0
steps_in IsDeep = 0

abbrev pub end_in : End → Stop → End
end_in other (Ended end steps) = end
end_in other IsCut = other
end_in other IsDeep = other

-- two ends are one
pub one_end : (program : Program) (function : ℕ) (arguments store : List Value) (n d n' d' : ℕ) (end end' : End) (steps steps' : ℕ) → run program function arguments store n d ≡ Ended end steps → run program function arguments store n' d' ≡ Ended end' steps' → (end ≡ end') × (steps ≡ steps')
one_end program function arguments store n d n' d' end end' steps steps' e e' =
    let more1 = more_keeps_end program function arguments store n n' d (d + d') end steps (omega arith) e in
    let more2 = more_keeps_end program function arguments store n' n d' (d + d') end' steps' (omega arith) e' in
    let same : n + n' ≡ n' + n = omega arith in
    let both = sym more1 ∙ ap (λ k. run program function arguments store k (d + d')) same ∙ more2 in
    (ap (end_in end) both, ap steps_in both)
