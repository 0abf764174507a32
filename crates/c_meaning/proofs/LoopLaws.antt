-- The laws of runs for loops as units.
use Rattle.std.proofs.Common.{◌≡◌, ℕ, zero, suc, ◌+◌, ◌-◌, ◌≤◌, List, [], Bool, true, false, if◌then◌else◌, Option, Some, None, refl, sym, ap, ◌∙◌, subst, arith, nat_eq, slice_get}
use Rattle.rvt_num.specs.declared.values.Value.{Value}
use Rattle.rvt_tree.specs.Syntax.{Statement, compound, null_statement, action, declaration, declaration_with, break_statement, continue_statement, return_statement, return_value, if_statement, if_else, while_loop, do_loop, for_loop, switch, Statements, no_statements, statement, Groups, no_groups, labelled}
use Rattle.rvt_tree.specs.Views.{stmt_view}
use Rattle.rvt_tree.specs.declared.statements.Stmt.{Stmt}
use Rattle.rvt_tree.specs.declared.programs.Program.{Program}
use Rattle.rvt_tree.specs.declared.programs.Function.{Function}
use Rattle.c_meaning.specs.Outcomes.{state, Outcome, Done, Returning, Trapped, Cut, Deep, Doing, Answers, Manner}
use Rattle.c_meaning.specs.Statements.{or_else}
use Rattle.c_meaning.specs.Runs.{turn, spend, running, End, ByTrap, ByReturn, ByEnd, Ended}
use Rattle.c_meaning.specs.Loops.{Loop, loop_in, loop_in_block, loop_in_groups, loop_in_body, loop_in_function, loop_of, loop_locals, locals_at, stop_of_loop, looped, turned, turned_in_run, run_loop}
use Rattle.c_meaning.specs.Logs.{Met, Logged, logging, without_log, met_in, spend_logged, turned_logged, AllHappened, AllGiven, EndsAs}
use Rattle.c_meaning.proofs.Tracks.{Order, Grown, IsGood, Matched, Tracks, Follow, tracks_give, tracks_then, tracks_turn}
use Rattle.c_meaning.proofs.Follows.{tracks_condition, tracks_test, tracks_meaning, tracks_acts, tracks_after_body}
use Rattle.c_meaning.proofs.Bounds.{more, tracks_turns, tracks_calls}
use Rattle.c_meaning.proofs.Unlogged.{forgets, follow_logging, unlogged_outcome, any_growth, any_good}
use Rattle.c_meaning.proofs.Seen.{no_answers, seen, follow_seen, seen_end, all_happened}

module _ {X Y : Type 0} (o : Order X Y) (program : Program) (answers : Answers X) (answers' : Answers Y) (f : Follow o answers answers') where
  -- loops that are found on both sides or on neither
  abbrev pub TracksLoop : Option (Loop X) → Option (Loop Y) → Type 0
  TracksLoop None None = Unit {0}
  TracksLoop None (Some l') = ⊥
  TracksLoop (Some l) None = ⊥
  TracksLoop (Some l) (Some l') = (l.round_first ≡ l'.round_first) × Tracks o l.test l'.test × Tracks o l.round l'.round

  loop_if : (b : Bool) (l : Loop X) (l' : Loop Y) (r : Option (Loop X)) (r' : Option (Loop Y)) → TracksLoop (Some l) (Some l') → TracksLoop r r' → TracksLoop (if b then Some l else r) (if b then Some l' else r')
  loop_if true l l' r r' t u = t
  loop_if false l l' r r' t u = u

  loop_or : (r s : Option (Loop X)) (r' s' : Option (Loop Y)) → TracksLoop r r' → TracksLoop s s' → TracksLoop (or_else r s) (or_else r' s')
  loop_or (Some l) s (Some l') s' t u = t
  loop_or (Some l) s None s' t u = absurd t
  loop_or None s (Some l') s' t u = absurd t
  loop_or None s None s' t u = u

  mutual
    tracks_loop_in : (wanted : ℕ) (s : Statement) → TracksLoop (loop_in program answers wanted s) (loop_in program answers' wanted s)
    tracks_loop_in wanted (compound body) = tracks_loop_in_block wanted body
    tracks_loop_in wanted null_statement = tt
    tracks_loop_in wanted (action a) = tt
    tracks_loop_in wanted (declaration variable) = tt
    tracks_loop_in wanted (declaration_with variable init) = tt
    tracks_loop_in wanted break_statement = tt
    tracks_loop_in wanted continue_statement = tt
    tracks_loop_in wanted return_statement = tt
    tracks_loop_in wanted (return_value e) = tt
    tracks_loop_in wanted (if_statement test first) = tracks_loop_in wanted first
    tracks_loop_in wanted (if_else test first second) = loop_or _ _ _ _ (tracks_loop_in wanted first) (tracks_loop_in wanted second)
    tracks_loop_in wanted (while_loop number test body) =
        loop_if (nat_eq number wanted) _ _ _ _ (refl, tracks_condition o program answers answers' f test, tracks_meaning o program answers answers' f body) (tracks_loop_in wanted body)
    tracks_loop_in wanted (do_loop number body test) =
        loop_if (nat_eq number wanted) _ _ _ _ (refl, tracks_condition o program answers answers' f test, tracks_meaning o program answers answers' f body) (tracks_loop_in wanted body)
    tracks_loop_in wanted (for_loop number first test last body) =
        loop_if (nat_eq number wanted) _ _ _ _ (
          refl,
          tracks_test o program answers answers' f test,
          tracks_then o _ _ _ _ (tracks_meaning o program answers answers' f body) (tracks_after_body o program answers answers' f _ _ (tracks_acts o program answers answers' f last)),
        )
        (tracks_loop_in wanted body)
    tracks_loop_in wanted (switch e groups) = tracks_loop_in_groups wanted groups

    tracks_loop_in_block : (wanted : ℕ) (s : Statements) → TracksLoop (loop_in_block program answers wanted s) (loop_in_block program answers' wanted s)
    tracks_loop_in_block wanted no_statements = tt
    tracks_loop_in_block wanted (statement s rest) = loop_or _ _ _ _ (tracks_loop_in wanted s) (tracks_loop_in_block wanted rest)

    tracks_loop_in_groups : (wanted : ℕ) (g : Groups) → TracksLoop (loop_in_groups program answers wanted g) (loop_in_groups program answers' wanted g)
    tracks_loop_in_groups wanted no_groups = tt
    tracks_loop_in_groups wanted (labelled labels body rest) = loop_or _ _ _ _ (tracks_loop_in_block wanted body) (tracks_loop_in_groups wanted rest)

  tracks_loop_in_body : (wanted : ℕ) (body : Option Stmt) → TracksLoop (loop_in_body program answers wanted body) (loop_in_body program answers' wanted body)
  tracks_loop_in_body wanted None = tt
  tracks_loop_in_body wanted (Some body) = tracks_loop_in wanted (stmt_view body)

  tracks_loop_in_function : (wanted : ℕ) (function : Option Function) → TracksLoop (loop_in_function program answers wanted function) (loop_in_function program answers' wanted function)
  tracks_loop_in_function wanted None = tt
  tracks_loop_in_function wanted (Some function) = tracks_loop_in_body wanted function.body

  pub tracks_loop_of : (function wanted : ℕ) → TracksLoop (loop_of program answers function wanted) (loop_of program answers' function wanted)
  tracks_loop_of function wanted = tracks_loop_in_function wanted (slice_get program.functions function)

  tracks_looped_at : (number : ℕ) (l : Option (Loop X)) (l' : Option (Loop Y)) → TracksLoop l l' → Tracks o (looped answers number l) (looped answers' number l')
  tracks_looped_at number None None t = tracks_give o _
  tracks_looped_at number None (Some l') t = absurd t
  tracks_looped_at number (Some l) None t = absurd t
  tracks_looped_at number (Some l) (Some l') t =
      subst (λ b. Tracks o (answers.loop number l.round_first l.test l.round) (answers'.loop number b l'.test l'.round)) t.0 (f.loop number l.round_first _ _ _ _ t.1 t.2)

  -- a loop statement as a unit
  pub tracks_looped : (function number : ℕ) → Tracks o (looped answers number (loop_of program answers function number)) (looped answers' number (loop_of program answers' function number))
  tracks_looped function number = tracks_looped_at number _ _ (tracks_loop_of function number)

-- ---- more steps keep an end

ended_more : (n j steps : ℕ) (interface : List ℕ) (end : End) (r r' : Outcome ℕ Manner) → Grown (more j) n r → (IsGood (more j) r → Matched (more j) r r') → stop_of_loop n interface r ≡ Ended end steps → stop_of_loop (n + j) interface r' ≡ Ended end steps
ended_more n j steps interface end (Done manner s) r' grown h e =
    let m = h tt in
    ap (stop_of_loop (n + j) interface) m.1 ∙ ap (λ k. Ended (ByEnd (locals_at interface s.locals) s.store) k) (let q : n + j - m.0 ≡ n - s.kept = omega (arith, m.2, grown) in q) ∙ e
ended_more n j steps interface end (Returning result store z) r' grown h e =
    let m = h tt in
    ap (stop_of_loop (n + j) interface) m.1 ∙ ap (λ k. Ended (ByReturn result store) k) (let q : n + j - m.0 ≡ n - z = omega (arith, m.2, grown) in q) ∙ e
ended_more n j steps interface end (Trapped why z) r' grown h e =
    let m = h tt in
    ap (stop_of_loop (n + j) interface) m.1 ∙ ap (λ k. Ended (ByTrap why) k) (let q : n + j - m.0 ≡ n - z = omega (arith, m.2, grown) in q) ∙ e
ended_more n j steps interface end Cut r' grown h e = cc
ended_more n j steps interface end Deep r' grown h e = cc

pub running_more : (program : Program) (n j d d' : ℕ) → d ≤ d' → Follow (more j) (running program n d) (running program (n + j) d')
running_more program n j d d' le =
    record {
      call = tracks_calls j program n (n + j) d d' (omega arith) le;
      loop = λ number. tracks_turns j (suc n) (suc (n + j)) (omega arith);
    }

pub loop_more_keeps_end : (program : Program) (function number : ℕ) (interface : List ℕ) (given : List (List Value)) (store : List Value) (n j d d' : ℕ) (end : End) (steps : ℕ) → d ≤ d' →
    run_loop program function number interface given store n d ≡ Ended end steps → run_loop program function number interface given store (n + j) d' ≡ Ended end steps
loop_more_keeps_end program function number interface given store n j d d' end steps le e =
    let t = tracks_looped (more j) program (running program n d) (running program (n + j) d') (running_more program n j d d' le) function number in
    ended_more n j steps interface end _ _ (t.grows (loop_locals program function interface given) store n) (t.follows (loop_locals program function interface given) store n (n + j) refl) e

-- ---- a turn under a table

forgets_spend_at : {A : Type 0} (answers : Answers ℕ) (m : Doing (Logged ℕ) A) (m' : Doing ℕ A) → Tracks (forgets ℕ) m m' → (locals : List (List Value)) (store : List Value) (own : ℕ) (met : List (Met ℕ)) (y : ℕ) → y ≡ own → Matched (forgets ℕ) (spend_logged m (state locals store (record { own = own; met = met }))) (spend m' (state locals store y))
forgets_spend_at answers m m' t locals store zero met y e = λ exact. ap (λ z. spend m' (state locals store z)) e
forgets_spend_at answers m m' t locals store (suc own) met y e =
    subst (λ z. Matched (forgets ℕ) (m (state locals store (record { own = own; met = met }))) (spend m' (state locals store z))) (sym e)
    (t.follows locals store (record { own = own; met = met }) own refl (any_good answers _))

forgets_spend : {A : Type 0} (answers : Answers ℕ) (m : Doing (Logged ℕ) A) (m' : Doing ℕ A) → Tracks (forgets ℕ) m m' → Tracks (forgets ℕ) (spend_logged m) (spend m')
forgets_spend answers m m' t =
    record {
      grows = λ locals store x. any_growth answers x _;
      follows = λ locals store x y like good. forgets_spend_at answers m m' t locals store x.own x.met y like;
    }

forgets_turned : (answers : Answers ℕ) (program : Program) (number : ℕ) (l : Option (Loop (Logged ℕ))) (l' : Option (Loop ℕ)) → TracksLoop (forgets ℕ) program (logging answers) answers (follow_logging answers) l l' → Tracks (forgets ℕ) (turned_logged answers number l) (turned_in_run answers number l')
forgets_turned answers program number None None t = tracks_give (forgets ℕ) _
forgets_turned answers program number None (Some l') t = absurd t
forgets_turned answers program number (Some l) None t = absurd t
forgets_turned answers program number (Some l) (Some l') t =
    subst (λ b. Tracks (forgets ℕ) (turned_logged answers number (Some l)) (turn b (spend l'.test) l'.round (answers.loop number b l'.test l'.round))) t.0
    (tracks_turn (forgets ℕ) l.round_first _ _ _ _ _ _ (forgets_spend answers l.test l'.test t.1) t.2 ((follow_logging answers).loop number l.round_first _ _ _ _ t.1 t.2))

-- a turn with a log, and without
pub turn_unlogged : (answers : Answers ℕ) (program : Program) (function number : ℕ) (locals : List (List Value)) (store : List Value) (x : ℕ) →
    without_log (turned_logged answers number (loop_of program (logging answers) function number) (state locals store (record { own = x; met = [] })))
    ≡ turned_in_run answers number (loop_of program answers function number) (state locals store x)
turn_unlogged answers program function number locals store x =
    let start : Logged ℕ = record { own = x; met = [] } in
    let plain = forgets_turned answers program number _ _ (tracks_loop_of (forgets ℕ) program (logging answers) answers (follow_logging answers) function number) in
    unlogged_outcome answers _ _ (plain.follows locals store start x refl (any_good answers _))

module _ {Y : Type 0} (answers : Answers ℕ) (second : Answers Y) (view : List (Met ℕ) → Y) where
  -- the steps that are left are no part of what grows
  same_log : {A : Type 0} (own own' : ℕ) (met : List (Met ℕ)) (r : Outcome (Logged ℕ) A) → Grown (seen answers second view) (record { own = own; met = met }) r → Grown (seen answers second view) (record { own = own'; met = met }) r
  same_log own own' met (Done a s) grown = grown
  same_log own own' met (Returning n store z) grown = grown
  same_log own own' met (Trapped why z) grown = grown
  same_log own own' met Cut grown = tt
  same_log own own' met Deep grown = tt

  seen_spend_grows : {A : Type 0} (m : Doing (Logged ℕ) A) (m' : Doing Y A) → Tracks (seen answers second view) m m' → (locals : List (List Value)) (store : List Value) (own : ℕ) (met : List (Met ℕ)) → Grown (seen answers second view) (record { own = own; met = met }) (spend_logged m (state locals store (record { own = own; met = met })))
  seen_spend_grows m m' t locals store zero met = tt
  seen_spend_grows m m' t locals store (suc own) met = same_log own (suc own) met _ (t.grows locals store (record { own = own; met = met }))

  seen_spend_follows : {A : Type 0} (m : Doing (Logged ℕ) A) (m' : Doing Y A) → Tracks (seen answers second view) m m' → (locals : List (List Value)) (store : List Value) (own : ℕ) (met : List (Met ℕ)) (y : Y) → y ≡ view met → IsGood (seen answers second view) (spend_logged m (state locals store (record { own = own; met = met }))) → Matched (seen answers second view) (spend_logged m (state locals store (record { own = own; met = met }))) (m' (state locals store y))
  seen_spend_follows m m' t locals store zero met y like good = λ exact. absurd exact
  seen_spend_follows m m' t locals store (suc own) met y like good = t.follows locals store (record { own = own; met = met }) y like good

  seen_spend : {A : Type 0} (m : Doing (Logged ℕ) A) (m' : Doing Y A) → Tracks (seen answers second view) m m' → Tracks (seen answers second view) (spend_logged m) m'
  seen_spend m m' t =
      record {
        grows = λ locals store x. seen_spend_grows m m' t locals store x.own x.met;
        follows = λ locals store x y like. seen_spend_follows m m' t locals store x.own x.met y like;
      }

  seen_turned : (program : Program) (number : ℕ) (l : Option (Loop (Logged ℕ))) (l' : Option (Loop Y)) → TracksLoop (seen answers second view) program (logging answers) second (follow_seen answers second view) l l' → Tracks (seen answers second view) (turned_logged answers number l) (turned second number l')
  seen_turned program number None None t = tracks_give (seen answers second view) _
  seen_turned program number None (Some l') t = absurd t
  seen_turned program number (Some l) None t = absurd t
  seen_turned program number (Some l) (Some l') t =
      subst (λ b. Tracks (seen answers second view) (turned_logged answers number (Some l)) (turn b l'.test l'.round (second.loop number b l'.test l'.round))) t.0
      (tracks_turn (seen answers second view) l.round_first _ _ _ _ _ _ (seen_spend l.test l'.test t.1) t.2 ((follow_seen answers second view).loop number l.round_first _ _ _ _ t.1 t.2))

  -- what one turn of a loop did in a run is what it does under any answers that give the ends of the calls and loop statements that it met
  pub turn_seen : (program : Program) (function number : ℕ) (locals : List (List Value)) (store : List Value) (x : ℕ) →
      let r = turned_logged answers number (loop_of program (logging answers) function number) (state locals store (record { own = x; met = [] })) in
      AllGiven second view [] (met_in r) →
      EndsAs (turned_in_run answers number (loop_of program answers function number) (state locals store x)) (view (met_in r)) (turned second number (loop_of program second function number) (state locals store (view [])))
  turn_seen program function number locals store x given =
      let start : Logged ℕ = record { own = x; met = [] } in
      let r = turned_logged answers number (loop_of program (logging answers) function number) (state locals store start) in
      let r' = turned second number (loop_of program second function number) (state locals store (view [])) in
      let t = seen_turned program number _ _ (tracks_loop_of (seen answers second view) program (logging answers) second (follow_seen answers second view) function number) in
      subst (λ q. EndsAs q (view (met_in r)) r') (turn_unlogged answers program function number locals store x)
      (seen_end answers second view r r' (t.follows locals store start (view []) refl) given)

  turn_grows : (program : Program) (function number : ℕ) (locals : List (List Value)) (store : List Value) (x : ℕ) →
      AllHappened answers (met_in (turned_logged answers number (loop_of program (logging answers) function number) (state locals store (record { own = x; met = [] }))))
  turn_grows program function number locals store x =
      let start : Logged ℕ = record { own = x; met = [] } in
      let t = seen_turned program number _ _ (tracks_loop_of (seen answers second view) program (logging answers) second (follow_seen answers second view) function number) in
      all_happened answers second view x _ (t.grows locals store start)

pub turn_happened : (answers : Answers ℕ) (program : Program) (function number : ℕ) (locals : List (List Value)) (store : List Value) (x : ℕ) →
    AllHappened answers (met_in (turned_logged answers number (loop_of program (logging answers) function number) (state locals store (record { own = x; met = [] }))))
turn_happened answers program function number locals store x =
    let view : List (Met ℕ) → List (Met ℕ) = λ met. met in turn_grows answers no_answers view program function number locals store x
