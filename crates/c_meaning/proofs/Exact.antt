-- An end is reached with exactly the steps that it takes, and with no fewer.
use Rattle.std.proofs.Common.{◌≡◌, ℕ, zero, suc, ◌+◌, ◌-◌, ◌<◌, ◌≤◌, List, [], Bool, Option, refl, sym, ap, ap₂, ◌∙◌, subst, arith}
use Rattle.rvt_num.specs.Number.{Number}
use Rattle.rvt_num.specs.declared.values.Value.{Value}
use Rattle.rvt_tree.specs.declared.programs.Program.{Program}
use Rattle.c_meaning.specs.Outcomes.{state, Outcome, Done, Returning, Trapped, Cut, Deep, Doing, Manner, cut}
use Rattle.c_meaning.specs.Runs.{spend, turns, nested, calls, running, stop_of_call, End, Ended, IsCut, IsDeep}
use Rattle.c_meaning.specs.Loops.{loop_of, loop_locals, stop_of_loop, looped}
use Rattle.c_meaning.specs.Promises.{Part, AFunction, ALoop, Start, flat, run_part}
use Rattle.c_meaning.proofs.Tracks.{Order, Grown, IsGood, Matched, Tracks, Follow, further, settle, tracks_turn, tracks_deep}
use Rattle.c_meaning.proofs.Follows.{tracks_called}
use Rattle.c_meaning.proofs.Bounds.{more_keeps_end, steps_in, end_in}
use Rattle.c_meaning.proofs.Enough.{level, own_calls, running_level, one_outcome, all_good}
use Rattle.c_meaning.proofs.LoopLaws.{tracks_looped, loop_more_keeps_end}

-- the second side has j fewer steps left; ends are compared that leave at least j on the first
abbrev fewer : ℕ → Order ℕ ℕ
fewer j =
    record {
      Grows = λ x y. y ≤ x;
      same = λ x. omega arith;
      onward = λ x y z g h. omega (arith, g, h);
      Good = λ x. j ≤ x;
      earlier = λ x y g good. omega (arith, g, good);
      Like = λ x y. x ≡ y + j;
      Exact = ⊥;
      all_good = λ exact x. absurd exact;
    }

module _ (j : ℕ) where
  spend_grows : {A : Type 0} (next next' : Doing ℕ A) → Tracks (fewer j) next next' → (locals : List (List Value)) (store : List Value) (x : ℕ) → Grown (fewer j) x (spend next (state locals store x))
  spend_grows next next' t locals store zero = tt
  spend_grows next next' t locals store (suc x) = further (fewer j) (suc x) x (next (state locals store x)) (omega arith) (t.grows locals store x)

  spend_follows : {A : Type 0} (next next' : Doing ℕ A) → Tracks (fewer j) next next' → (locals : List (List Value)) (store : List Value) (x y : ℕ) → x ≡ y + j → IsGood (fewer j) (spend next (state locals store x)) → Matched (fewer j) (spend next (state locals store x)) (spend next' (state locals store y))
  spend_follows next next' t locals store zero y like good = λ exact. absurd exact
  spend_follows next next' t locals store (suc x) y like good =
      settle (fewer j) x (next (state locals store x)) (spend next' (state locals store y)) (t.grows locals store x) (λ before same.
      let left : j ≤ x = before in
      let e : y ≡ suc (x - j) = omega (arith, like, left) in
      let f : x ≡ (x - j) + j = omega (arith, left) in
      subst (λ z. Matched (fewer j) (next (state locals store x)) (spend next' (state locals store z))) (sym e) (t.follows locals store x (x - j) f same))
      good

  tracks_spend : {A : Type 0} (next next' : Doing ℕ A) → Tracks (fewer j) next next' → Tracks (fewer j) (spend next) (spend next')
  tracks_spend next next' t = record { grows = spend_grows next next' t; follows = spend_follows next next' t }

  tracks_cut : {A : Type 0} → Tracks (fewer j) {A = A} cut cut
  tracks_cut = record { grows = λ locals store x. tt; follows = λ locals store x y like good. λ exact. absurd exact }

  tracks_turns : (n : ℕ) (first : Bool) (test test' : Doing ℕ Bool) (round round' : Doing ℕ Manner) → Tracks (fewer j) test test' → Tracks (fewer j) round round' → Tracks (fewer j) (turns n first test round) (turns n first test' round')
  tracks_turns zero first test test' round round' t u = tracks_cut
  tracks_turns (suc n) first test test' round round' t u =
      tracks_turn (fewer j) first _ _ _ _ _ _ (tracks_spend test test' t) u (tracks_turns n first test test' round round' t u)

  tracks_nested : {A : Type 0} (d : ℕ) (body body' : ℕ → Doing ℕ A) → ((e : ℕ) → Tracks (fewer j) (body e) (body' e)) → Tracks (fewer j) (nested d body) (nested d body')
  tracks_nested zero body body' t = tracks_deep (fewer j)
  tracks_nested (suc d) body body' t = t d

  tracks_calls : (program : Program) (n d function : ℕ) (arguments : List Value) → Tracks (fewer j) (calls program n d function arguments) (calls program n d function arguments)
  tracks_calls program zero d function arguments = tracks_cut
  tracks_calls program (suc n) d function arguments =
      tracks_spend _ _ (tracks_nested d _ _ (λ e.
      tracks_called (fewer j) program _ _ (record { call = tracks_calls program n e; loop = λ number. tracks_turns (suc n) }) function arguments))

  running_fewer : (program : Program) (n d : ℕ) → Follow (fewer j) (running program n d) (running program n d)
  running_fewer program n d = record { call = tracks_calls program n d; loop = λ number. tracks_turns (suc n) }

-- ---- with the steps that an end takes

call_exact : (n steps : ℕ) (end : End) (r : Outcome ℕ (Option Number)) (r' : ℕ → Outcome ℕ (Option Number)) → Grown (fewer 0) n r →
    ((j y : ℕ) → n ≡ y + j → IsGood (fewer j) r → Matched (fewer j) r (r' y)) → stop_of_call n r ≡ Ended end steps → (steps ≤ n) × (stop_of_call steps (r' steps) ≡ Ended end steps)
call_exact n steps end (Done result s) r' grown h e =
    let spent : n - s.kept ≡ steps = ap steps_in e in
    let m = h s.kept steps (omega (arith, grown, spent)) (omega arith) in
    (omega (arith, spent), ap (stop_of_call steps) m.1 ∙ ap₂ Ended (ap (end_in end) e) (let q : steps - m.0 ≡ steps = omega (arith, m.2) in q))
call_exact n steps end (Returning result store z) r' grown h e =
    let spent : n - z ≡ steps = ap steps_in e in
    let m = h z steps (omega (arith, grown, spent)) (omega arith) in
    (omega (arith, spent), ap (stop_of_call steps) m.1 ∙ ap₂ Ended (ap (end_in end) e) (let q : steps - m.0 ≡ steps = omega (arith, m.2) in q))
call_exact n steps end (Trapped why z) r' grown h e =
    let spent : n - z ≡ steps = ap steps_in e in
    let m = h z steps (omega (arith, grown, spent)) (omega arith) in
    (omega (arith, spent), ap (stop_of_call steps) m.1 ∙ ap₂ Ended (ap (end_in end) e) (let q : steps - m.0 ≡ steps = omega (arith, m.2) in q))
call_exact n steps end Cut r' grown h e = absurd (let no : IsCut ≡ Ended end steps = e in cc)
call_exact n steps end Deep r' grown h e = absurd (let no : IsDeep ≡ Ended end steps = e in cc)

loop_exact : (n steps : ℕ) (interface : List ℕ) (end : End) (r : Outcome ℕ Manner) (r' : ℕ → Outcome ℕ Manner) → Grown (fewer 0) n r →
    ((j y : ℕ) → n ≡ y + j → IsGood (fewer j) r → Matched (fewer j) r (r' y)) → stop_of_loop n interface r ≡ Ended end steps → (steps ≤ n) × (stop_of_loop steps interface (r' steps) ≡ Ended end steps)
loop_exact n steps interface end (Done manner s) r' grown h e =
    let spent : n - s.kept ≡ steps = ap steps_in e in
    let m = h s.kept steps (omega (arith, grown, spent)) (omega arith) in
    (omega (arith, spent), ap (stop_of_loop steps interface) m.1 ∙ ap₂ Ended (ap (end_in end) e) (let q : steps - m.0 ≡ steps = omega (arith, m.2) in q))
loop_exact n steps interface end (Returning result store z) r' grown h e =
    let spent : n - z ≡ steps = ap steps_in e in
    let m = h z steps (omega (arith, grown, spent)) (omega arith) in
    (omega (arith, spent), ap (stop_of_loop steps interface) m.1 ∙ ap₂ Ended (ap (end_in end) e) (let q : steps - m.0 ≡ steps = omega (arith, m.2) in q))
loop_exact n steps interface end (Trapped why z) r' grown h e =
    let spent : n - z ≡ steps = ap steps_in e in
    let m = h z steps (omega (arith, grown, spent)) (omega arith) in
    (omega (arith, spent), ap (stop_of_loop steps interface) m.1 ∙ ap₂ Ended (ap (end_in end) e) (let q : steps - m.0 ≡ steps = omega (arith, m.2) in q))
loop_exact n steps interface end Cut r' grown h e = absurd (let no : IsCut ≡ Ended end steps = e in cc)
loop_exact n steps interface end Deep r' grown h e = absurd (let no : IsDeep ≡ Ended end steps = e in cc)

-- the number of steps is one that suffices
exactly : (program : Program) (part : Part) (start : Start) (n d : ℕ) (end : End) (steps : ℕ) →
    run_part program part start n d ≡ Ended end steps → (steps ≤ n) × (run_part program part start steps d ≡ Ended end steps)
exactly program (AFunction function) start n d end steps e =
    let arguments = flat start.given in
    let exact = call_exact n steps end _ (λ y. calls program n d function arguments (state [] start.store y)) ((tracks_calls 0 program n d function arguments).grows [] start.store n)
    (λ j y like. (tracks_calls j program n d function arguments).follows [] start.store n y like) e in
    (exact.0, ap (stop_of_call steps) (sym (own_calls program n d function arguments [] start.store steps exact.0)) ∙ exact.1)
exactly program (ALoop function number interface) start n d end steps e =
    let locals = loop_locals program function interface start.given in
    let tracks = λ (j : ℕ). tracks_looped (fewer j) program (running program n d) (running program n d) (running_fewer j program n d) function number in
    let exact = loop_exact n steps interface end _ (λ y. looped (running program n d) number (loop_of program (running program n d) function number) (state locals start.store y))
    ((tracks 0).grows locals start.store n) (λ j y like. (tracks j).follows locals start.store n y like) e in
    let same = tracks_looped (level steps) program (running program steps d) (running program n d) (running_level program steps n d exact.0) function number in
    (exact.0, ap (stop_of_loop steps interface) (sym (one_outcome steps _ _ (same.follows locals start.store steps steps (refl, omega arith) (all_good steps _)))) ∙ exact.1)

-- ---- the laws for functions and loops

pub more_keeps : (program : Program) (part : Part) (start : Start) (n more d d' : ℕ) (end : End) (steps : ℕ) → d ≤ d' →
    run_part program part start n d ≡ Ended end steps → run_part program part start (n + more) d' ≡ Ended end steps
more_keeps program (AFunction function) start n more d d' end steps le e = more_keeps_end program function (flat start.given) start.store n more d d' end steps le e
more_keeps program (ALoop function number interface) start n more d d' end steps le e =
    loop_more_keeps_end program function number interface start.given start.store n more d d' end steps le e

pub one : (program : Program) (part : Part) (start : Start) (n d n' d' : ℕ) (end end' : End) (steps steps' : ℕ) →
    run_part program part start n d ≡ Ended end steps → run_part program part start n' d' ≡ Ended end' steps' → (end ≡ end') × (steps ≡ steps')
one program part start n d n' d' end end' steps steps' e e' =
    let more1 = more_keeps program part start n n' d (d + d') end steps (omega arith) e in
    let more2 = more_keeps program part start n' n d' (d + d') end' steps' (omega arith) e' in
    let same : n + n' ≡ n' + n = omega arith in
    let both = sym more1 ∙ ap (λ k. run_part program part start k (d + d')) same ∙ more2 in
    (ap (end_in end) both, ap steps_in both)

-- no other number of steps is said, and none that is lower suffices
pub steps_exact : (program : Program) (part : Part) (start : Start) (n d : ℕ) (end : End) (steps : ℕ) → run_part program part start n d ≡ Ended end steps →
    (steps ≤ n) × (run_part program part start steps d ≡ Ended end steps) ×
    ((m d' : ℕ) (end' : End) (steps' : ℕ) → m < steps → run_part program part start m d' ≡ Ended end' steps' → ⊥)
steps_exact program part start n d end steps e =
    let exact = exactly program part start n d end steps e in (
      exact.0,
      exact.1,
      λ m d' end' steps' less e'.
          let within = (exactly program part start m d' end' steps' e').0 in
          let same = (one program part start n d m d' end end' steps steps' e e').1 in
          omega (arith, within, same, less),
    )
