-- A symbolic run of code stands for the run of the code under each assignment.
use Rattle.std.proofs.Common.{◌≡◌, ℕ, Bool, true, false, not, ◌&&◌, cond, List, [], ◌∷◌, ◌++◌, Option, Some, refl, sym, ap, ◌∙◌, subst}
use Rattle.std.specs.Prelude.{map}
use Rattle.std.proofs.lemmas.List.{append-nil}
use Rattle.aig_build.specs.Circuits.{opposite}
use Rattle.bit_ops.specs.declared.values.SymValue.{SymValue}
use Rattle.core_ir.specs.Fits.{AllGive}
use Rattle.core_ir.specs.Meaning.{End, Request, Flow, Goes, Over, Waits, Step, followed, in_order, choice}
use Rattle.core_ir.specs.Places.{State, register}
use Rattle.core_ir.specs.declared.units.Shape.{Shape}
use Rattle.sym_store.proofs.Stores.{register_is, stores_merging}
use Rattle.sym_store.specs.Stores.{LitStore, IsMergedStore, MadeStore, merged_store}
use Rattle.sym_values.specs.Values.{values_under, both_stand}
use Rattle.symbolic_runs.proofs.Exits.{exits_append, calls_append, exit_taken, exit_left, and_one, and_none, not_none, not_first, not_second, and_back, and_is, and_not_is, or_back, or_is, TrappingIs, trapping_is}
use Rattle.symbolic_runs.proofs.Keeping.{register_laid}
use Rattle.symbolic_runs.specs.Keeping.{Layout, IsStoreKept, IsRunKept}
use Rattle.symbolic_runs.specs.Runs.{World, SymState, How, GuardedCall, SymRun, Stepped, Called, MadeLit, or_in, trapping, stepped, called, after, stays, with_live, joined_at, yes_of, no_of, ended, with_chosen, chosen}
use Rattle.symbolic_runs.specs.Simulation.{Seen, Holds, Stand, how_under, exits_under, NamedKey, calls_under, as_made, FlowIs, Matches, IsDead, Simulates, StepFlow, StepIs, CallIs, TestIs}

map_append : {X Y : Type 0} (f : X → Y) (xs ys : List X) → map f (xs ++ ys) ≡ map f xs ++ map f ys
map_append f [] ys = refl
map_append f (x ∷ xs) ys = ap (λ l. f x ∷ l) (map_append f xs ys)

module _ (seen : Seen) where
  abbrev Sims : World → SymState → SymRun → Step → Type 0
  Sims w s o g = Simulates seen w s o g

  -- ---- a step, with its traps and its call

  module _ (w : World) (s : SymState) (p : Stepped) (f : State → Flow) (calls : List GuardedCall) (made : State → List Request) where
    step_flow : Holds seen (stepped s.live p calls).world → seen.v s.live ≡ true → (fl : Flow) → StepFlow seen p fl → FlowIs seen (stepped s.live p calls) fl
    step_flow h l (Goes c) k =
        let t = (trapping_is seen p.world s.live p.traps).none h l k.0 in
        (t.0, t.1, k.1)
    step_flow h l (Over e) k =
        let t = (trapping_is seen p.world s.live p.traps).some k.0 h l k.1 in
        (t.0, t.1 ∙ ap (λ (x : End). Some x ∷ []) (sym k.2))
    step_flow h l Waits k = k

    pub step_sims : StepIs seen w s.store p f → (seen.v s.live ≡ false → calls_under seen.v calls ≡ []) → ((c : State) → seen.v s.live ≡ true → Stand seen s.store c → calls_under seen.v calls ≡ map (as_made seen) (made c)) → Sims w s (stepped s.live p calls) (λ c. record { calls = made c; flow = f c })
    step_sims k none all = record {
      back = λ h. k.back (t.back h);
      dead = λ h e. let d = t.dead h e in record { not_live = d.0; no_exit = d.1; no_call = none e };
      alive = λ h c l st. record { calls = all c l st; flow = step_flow h l (f c) (k.is (t.back h) c st) };
    }
      where
        t : TrappingIs seen p.world s.live p.traps (trapping p.world s.live p.traps)
        t = trapping_is seen p.world s.live p.traps

  pub quiet_sims : (w : World) (s : SymState) (p : Stepped) (f : State → Flow) → StepIs seen w s.store p f → Sims w s (stepped s.live p []) (λ c. record { calls = []; flow = f c })
  quiet_sims w s p f k = step_sims w s p f [] (λ c. []) k (λ e. refl) (λ c l st. refl)

  one_call : (b : Bool) (x : NamedKey) → b ≡ false → cond b (x ∷ []) [] ≡ []
  one_call b x e = ap (λ t. cond t (x ∷ []) []) e

  made_call : (b : Bool) (x y : NamedKey) → b ≡ true → x ≡ y → cond b (x ∷ []) [] ≡ y ∷ []
  made_call b x y e f = λ i. cond (e i) (f i ∷ []) []

  pub call_sims : (w : World) (s : SymState) (c : Called) (f : State → Flow) (q : State → Request) → CallIs seen w s.store c f q → Sims w s (called s.live c) (λ a. record { calls = q a ∷ []; flow = f a })
  call_sims w s c f q k =
      step_sims w s c.step f (record { guard = s.live; name = c.name; key = c.key } ∷ []) (λ a. q a ∷ []) k.step (λ e. one_call _ _ e) (λ a l st. made_call _ _ _ l (k.made a st))

  -- ---- one stretch after another

  module _ (w : World) (s : SymState) (first second : SymRun) (g gs : Step) (one : Sims w s first g) (two : Sims first.world first.state second gs) where
    both_exits : (xs ys : List (Option End)) → exits_under seen.v first.exits ≡ xs → exits_under seen.v second.exits ≡ ys → exits_under seen.v (first.exits ++ second.exits) ≡ xs ++ ys
    both_exits xs ys e f = exits_append seen.v first.exits second.exits ∙ (λ i. e i ++ f i)

    both_calls : (xs ys : List NamedKey) → calls_under seen.v first.calls ≡ xs → calls_under seen.v second.calls ≡ ys → calls_under seen.v (first.calls ++ second.calls) ≡ xs ++ ys
    both_calls xs ys e f = calls_append seen.v first.calls second.calls ∙ (λ i. e i ++ f i)

    after_flow : exits_under seen.v first.exits ≡ [] → (fl : Flow) → FlowIs seen second fl → FlowIs seen (after first second) fl
    after_flow e (Goes c) k = (k.0, both_exits [] [] e k.1, k.2)
    after_flow e (Over x) k = (k.0, both_exits [] (Some x ∷ []) e k.1)
    after_flow e Waits k = k

    after_matches : Holds seen second.world → (cs : List Request) (fl : Flow) → calls_under seen.v first.calls ≡ map (as_made seen) cs → FlowIs seen first fl → Matches seen (after first second) (followed cs fl gs)
    after_matches h cs (Goes c) e k =
        let m = two.alive h c k.0 k.2 in
        record {
          calls = both_calls (map (as_made seen) cs) (map (as_made seen) (gs c).calls) e m.calls ∙ sym (map_append (as_made seen) cs (gs c).calls);
          flow = after_flow k.1 (gs c).flow m.flow;
        }
    after_matches h cs (Over x) e k =
        let d = two.dead h k.0 in
        record {
          calls = both_calls (map (as_made seen) cs) [] e d.no_call ∙ append-nil (map (as_made seen) cs);
          flow = (d.not_live, both_exits (Some x ∷ []) [] k.1 d.no_exit);
        }
    after_matches h cs Waits e k = absurd k

    pub after_sims : Sims w s (after first second) (λ c. followed (g c).calls (g c).flow gs)
    after_sims = record {
      back = λ h. one.back (two.back h);
      dead = λ h e.
          let a = one.dead (two.back h) e in
          let b = two.dead h a.not_live in
          record { not_live = b.not_live; no_exit = both_exits [] [] a.no_exit b.no_exit; no_call = both_calls [] [] a.no_call b.no_call };
      alive = λ h c l st.
          let m = one.alive (two.back h) c l st in
          after_matches h (g c).calls (g c).flow m.calls m.flow;
    }

  -- ---- two branches

  module _ (l : Layout) (w : World) (s : SymState) (test : MadeLit) (f : State → Bool) (left right : SymRun) (ga gb : Step) (told : TestIs seen w s.store test f) where
    abbrev yes : MadeLit
    yes = yes_of test s

    abbrev no : MadeLit
    no = no_of test s

    abbrev merged : MadeStore
    merged = merged_store right.world.nodes left.state.live left.state.store right.state.store

    abbrev merged_world : World
    merged_world = record { nodes = merged.nodes; applied = right.world.applied }

    abbrev goes : MadeLit
    goes = or_in merged_world left.state.live right.state.live

    abbrev whole : SymRun
    whole = joined_at left right

    module _ (one : Sims no.world (with_live s yes.lit) left ga) (two : Sims left.world (with_live s no.lit) right gb) (kept_left : IsRunKept l no.world left) (kept_right : IsRunKept l left.world right) where
      chooses : IsMergedStore seen.v right.world.nodes left.state.live l.registers l.cells left.state.store right.state.store merged
      chooses = stores_merging seen.v right.world.nodes left.state.live l.registers l.cells left.state.store right.state.store kept_left.state.store.laid kept_right.state.store.laid

      to_merged : Holds seen whole.world → Holds seen merged_world
      to_merged h = or_back seen merged_world left.state.live right.state.live h

      to_right : Holds seen whole.world → Holds seen right.world
      to_right h = record { valued = chooses.back (to_merged h).valued; answer = (to_merged h).answer }

      to_left : Holds seen whole.world → Holds seen left.world
      to_left h = two.back (to_right h)

      to_no : Holds seen whole.world → Holds seen no.world
      to_no h = one.back (to_left h)

      to_yes : Holds seen whole.world → Holds seen yes.world
      to_yes h = and_back seen yes.world s.live (opposite test.lit) (to_no h)

      to_test : Holds seen whole.world → Holds seen test.world
      to_test h = and_back seen test.world s.live test.lit (to_yes h)

      yes_is : Holds seen whole.world → seen.v yes.lit ≡ (seen.v s.live && seen.v test.lit)
      yes_is h = and_is seen test.world s.live test.lit (to_yes h)

      no_is : Holds seen whole.world → seen.v no.lit ≡ (seen.v s.live && not (seen.v test.lit))
      no_is h = and_not_is seen yes.world s.live test.lit (to_no h)

      goes_is : Holds seen whole.world → seen.v goes.lit ≡ not (not (seen.v left.state.live) && not (seen.v right.state.live))
      goes_is h = or_is seen merged_world left.state.live right.state.live h

      all_exits : (xs ys : List (Option End)) → exits_under seen.v left.exits ≡ xs → exits_under seen.v right.exits ≡ ys → exits_under seen.v (left.exits ++ right.exits) ≡ xs ++ ys
      all_exits xs ys e f = exits_append seen.v left.exits right.exits ∙ (λ i. e i ++ f i)

      all_calls : (xs ys : List NamedKey) → calls_under seen.v left.calls ≡ xs → calls_under seen.v right.calls ≡ ys → calls_under seen.v (left.calls ++ right.calls) ≡ xs ++ ys
      all_calls xs ys e f = calls_append seen.v left.calls right.calls ∙ (λ i. e i ++ f i)

      left_stands : Holds seen whole.world → seen.v left.state.live ≡ true → (c : State) → Stand seen left.state.store c → Stand seen merged.store c
      left_stands h e c st = record { stands = chooses.first (to_merged h).valued e c st.stands; proper = st.proper }

      right_stands : Holds seen whole.world → seen.v left.state.live ≡ false → (c : State) → Stand seen right.state.store c → Stand seen merged.store c
      right_stands h e c st = record { stands = chooses.second (to_merged h).valued e c st.stands; proper = st.proper }

      left_flow : Holds seen whole.world → IsDead seen.v right → (fl : Flow) → FlowIs seen left fl → FlowIs seen whole fl
      left_flow h d (Goes c) k = (goes_is h ∙ not_first _ _ k.0, all_exits [] [] k.1 d.no_exit, left_stands h k.0 c k.2)
      left_flow h d (Over e) k = (goes_is h ∙ not_none _ _ k.0 d.not_live, all_exits (Some e ∷ []) [] k.1 d.no_exit)
      left_flow h d Waits k = k

      right_flow : Holds seen whole.world → IsDead seen.v left → (fl : Flow) → FlowIs seen right fl → FlowIs seen whole fl
      right_flow h d (Goes c) k = (goes_is h ∙ not_second _ _ d.not_live k.0, all_exits [] [] d.no_exit k.1, right_stands h d.not_live c k.2)
      right_flow h d (Over e) k = (goes_is h ∙ not_none _ _ d.not_live k.0, all_exits [] (Some e ∷ []) d.no_exit k.1)
      right_flow h d Waits k = k

      on_branch : Holds seen whole.world → (c : State) → seen.v s.live ≡ true → Stand seen s.store c → (t : Bool) → seen.v test.lit ≡ t → Matches seen whole (choice t ga gb c)
      on_branch h c l st true e =
          let m = one.alive (to_left h) c (yes_is h ∙ and_one _ _ l ∙ e) st in
          let d = two.dead (to_right h) (no_is h ∙ and_one _ _ l ∙ ap not e) in
          record {
            calls = all_calls (map (as_made seen) (ga c).calls) [] m.calls d.no_call ∙ append-nil (map (as_made seen) (ga c).calls);
            flow = left_flow h d (ga c).flow m.flow;
          }
      on_branch h c l st false e =
          let d = one.dead (to_left h) (yes_is h ∙ and_one _ _ l ∙ e) in
          let m = two.alive (to_right h) c (no_is h ∙ and_one _ _ l ∙ ap not e) st in
          record {
            calls = all_calls [] (map (as_made seen) (gb c).calls) d.no_call m.calls;
            flow = right_flow h d (gb c).flow m.flow;
          }

      pub branch_sims : Sims w s whole (λ c. choice (f c) ga gb c)
      branch_sims = record {
        back = λ h. told.back (to_test h);
        dead = λ h e.
            let d = one.dead (to_left h) (yes_is h ∙ and_none _ _ e) in
            let k = two.dead (to_right h) (no_is h ∙ and_none _ _ e) in
            record {
              not_live = goes_is h ∙ not_none _ _ d.not_live k.not_live;
              no_exit = all_exits [] [] d.no_exit k.no_exit;
              no_call = all_calls [] [] d.no_call k.no_call;
            };
        alive = λ h c l st. on_branch h c l st (f c) (told.is (to_test h) c st);
      }

  -- ---- ends

  pub end_sims : (w : World) (s : SymState) (how : How) (g : State → End) → ((c : State) → Stand seen s.store c → how_under seen.v how ≡ Some (g c)) → Sims w s (ended w s how) (λ c. record { calls = []; flow = Over (g c) })
  end_sims w s how g k = record {
    back = λ h. h;
    dead = λ h e. record { not_live = h.valued.of_constant; no_exit = exit_left seen.v (record { guard = s.live; how = how }) [] e; no_call = refl };
    alive = λ h c l st. record {
      calls = refl;
      flow = (h.valued.of_constant, exit_taken seen.v (record { guard = s.live; how = how }) [] l ∙ ap (λ (o : Option End). o ∷ []) (k c st));
    };
  }

  -- what registers hold, one by one
  pub chosen_is : (l : Layout) (w : World) (s : LitStore) → IsStoreKept l w.nodes s → (c : State) → Stand seen s c → (rs : List ℕ) (wanted : List Shape) → AllGive l.registers rs wanted → values_under seen.v (chosen s.registers rs) ≡ Some (map (register c.registers) rs)
  chosen_is l w s k c st [] [] f = refl
  chosen_is l w s k c st [] (t ∷ ts) f = absurd f
  chosen_is l w s k c st (r ∷ rs) [] f = absurd f
  chosen_is l w s k c st (r ∷ rs) (t ∷ ts) f =
      let x = register_laid w.nodes l.registers s.registers r f.0.shape k.laid.of_registers k.there.registers f.0.is_there in
      let here = register_is seen.v s c r x.value st.stands x.is_there in
      let rest = chosen_is l w s k c st rs ts f.1 in
      subst (λ (o : Option SymValue). values_under seen.v (with_chosen o (chosen s.registers rs)) ≡ Some (map (register c.registers) (r ∷ rs))) (sym x.is_there) (λ i. both_stand (here i) (rest i))

  pub stays_sims : (w : World) (s : SymState) → Sims w s (stays w s) (in_order [])
  stays_sims w s = record {
    back = λ h. h;
    dead = λ h e. record { not_live = e; no_exit = refl; no_call = refl };
    alive = λ h c l st. record { calls = refl; flow = (l, refl, st) };
  }
