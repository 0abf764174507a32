-- Runs that go on with each form of code.
use Rattle.std.proofs.Common.{◌≡◌, List, [], ◌∷◌, ◌++◌, refl, sym, ap, ◌∙◌, subst, append_assoc}
use Rattle.std.specs.Prelude.{map}
use Rattle.std.proofs.lemmas.List.{append-nil}
use Rattle.aig_build.specs.Built.{Made, and_built}
use Rattle.aig_build.specs.Circuits.{Node, opposite}
use Rattle.aig_build.specs.declared.lits.Lit.{Lit}
use Rattle.core_ir.specs.Meaning.{Answers, Flow, Goes, Over, Waits, Request, Run, Step, quiet, followed, in_order, choice}
use Rattle.core_ir.specs.Places.{State}
use Rattle.core_ir.specs.declared.units.Code.{Code}
use Rattle.rvt_num.specs.declared.values.Trap.{Trap}
use Rattle.sym_paths.specs.Going.{world, GoesOn, StepLaw, CallLaw, ChoiceLaw, StopLaw, FailLaw, done_by, done_by_all, BeginLaw, MoreLaw}
use Rattle.sym_paths.specs.Runs.{LitRun, with_exit, with_live, MadeRun, with_trap, with_traps, ended_run, MadeState}
use Rattle.symbolic_runs.proofs.Rules as rules
use Rattle.symbolic_runs.specs.Runs.{World, How, Traps, Stops, Exit, GuardedCall, SymRun, Stepped, MadeLit, Trapping, trapping, and_in, stepped, yes_of, no_of, ended, chosen}
use Rattle.symbolic_runs.specs.Runs.{with_live as at_live}
use Rattle.symbolic_runs.specs.Simulation.{Subject, IsRunOf}
use Rattle.uf_abstraction.specs.Applications.{Application}

-- ---- traps

applied_same : (w : World) (live : Lit) (ts : List (Trap × Lit)) → (trapping w live ts).world.applied ≡ w.applied
applied_same w live [] = refl
applied_same w live (t ∷ ts) =
    let hit = and_in w live t.1 in
    let on = and_in hit.world live (opposite t.1) in
    applied_same on.world on.lit ts

-- the run behind traps
abbrev trapped_run : LitRun → Trapping → MadeRun
trapped_run r t = record { nodes = t.world.nodes; run = record { state = record { live = t.live; store = r.state.store }; exits = r.exits ++ t.exits; calls = r.calls } }

traps_are : (applied : List Application) (ts : List (Trap × Lit)) (ns : List Node) (r : LitRun) → with_traps (record { nodes = ns; run = r }) ts ≡ trapped_run r (trapping (world ns applied) r.state.live ts)
unfolding with_trap
traps_are applied [] ns r = ap (λ (xs : List Exit). record { nodes = ns; run = record { state = r.state; exits = xs; calls = r.calls } }) (sym (append-nil r.exits))
traps_are applied (t ∷ ts) ns r =
    let hit = and_built ns r.state.live t.1 in
    let on = and_built hit.nodes r.state.live (opposite t.1) in
    let x : Exit = record { guard = hit.lit; how = Traps t.0 } in
    let rest = trapping (world on.nodes applied) on.lit ts in
    traps_are applied ts on.nodes (with_live (with_exit r x) on.lit)
    ∙ ap (λ (xs : List Exit). record { nodes = rest.world.nodes; run = record { state = record { live = rest.live; store = r.state.store }; exits = xs; calls = r.calls } }) (append_assoc r.exits (x ∷ []) rest.exits)

-- a step, with the calls that it notes and its traps
goes_behind : (x : Subject) (w : World) (r : LitRun) (g : Answers → Step) (p : Stepped) (calls : List GuardedCall) (last : List Node) (after : LitRun)
    → IsRunOf x w r.state g (stepped r.state.live p calls)
    → with_traps (record { nodes = p.world.nodes; run = record { state = record { live = r.state.live; store = p.store }; exits = r.exits; calls = r.calls ++ calls } }) p.traps ≡ record { nodes = last; run = after }
    → GoesOn x g w r (world last p.world.applied) after
goes_behind x w r g p calls last after is e =
    let t = trapping p.world r.state.live p.traps in
    let start : LitRun = record { state = record { live = r.state.live; store = p.store }; exits = r.exits; calls = r.calls ++ calls } in
    let worlds : t.world ≡ world t.world.nodes p.world.applied = let a = applied_same p.world r.state.live p.traps in λ i. record { nodes = t.world.nodes; applied = a i } in
    let here : GoesOn x g w r (world t.world.nodes p.world.applied) (trapped_run start t).run = record {
      exits = t.exits;
      calls = calls;
      exits_are = refl;
      calls_are = refl;
      is = subst (λ v. IsRunOf x w r.state g (record { world = v; state = record { live = t.live; store = p.store }; exits = t.exits; calls = calls })) worlds is;
    } in
    subst (λ (m : MadeRun). GoesOn x g w r (world m.nodes p.world.applied) m.run) (sym (traps_are p.world.applied p.traps p.world.nodes start) ∙ e) here

pub step : StepLaw
step x w r f p last t s is e =
    goes_behind x w r (λ answers c. quiet (f answers c)) p [] last t (rules.step x w r.state f p s is)
    (ap (λ (cs : List GuardedCall). with_traps (record { nodes = p.world.nodes; run = record { state = record { live = r.state.live; store = p.store }; exits = r.exits; calls = cs } }) p.traps) (append-nil r.calls) ∙ e)

pub call : CallLaw
call x w r f q c p last t s guard is e =
    let run = rules.call x w r.state f q (record { step = p; name = c.name; key = c.key }) s is in
    let g : Answers → Step = λ answers a. record { calls = q a ∷ []; flow = f answers a } in
    goes_behind x w r g p (c ∷ []) last t (subst (λ l. IsRunOf x w r.state g (stepped r.state.live p (record { guard = l; name = c.name; key = c.key } ∷ []))) (sym guard) run) e

-- ---- two branches

pub either : ChoiceLaw
either x w r f tested test branched taken left_out ga gb w1 w2 last r1 r2 t s told b one two e same =
    let the_test : MadeLit = record { world = world tested w.applied; lit = test } in
    let second_of : Made → MadeLit = λ m. let n = and_built m.nodes r.state.live (opposite test) in record { world = world n.nodes w.applied; lit = n.lit } in
    let as_lit : Made → MadeLit = λ m. record { world = world m.nodes w.applied; lit = m.lit } in
    let first_begins : yes_of the_test r.state ≡ as_lit (record { nodes = b.middle; lit = taken }) = ap as_lit b.first in
    let second_begins : no_of the_test r.state ≡ as_lit (record { nodes = branched; lit = left_out }) = ap second_of b.first ∙ ap as_lit b.second in
    let left : SymRun = record { world = w1; state = r1.state; exits = one.exits; calls = one.calls } in
    let right : SymRun = record { world = w2; state = r2.state; exits = two.exits; calls = two.calls } in
    let first = subst (λ (m : MadeLit). IsRunOf x m.world (at_live r.state (yes_of the_test r.state).lit) ga left) (sym second_begins) (subst (λ (m : MadeLit). IsRunOf x (world branched w.applied) (at_live r.state m.lit) ga left) (sym first_begins) one.is) in
    let second = subst (λ (m : MadeLit). IsRunOf x w1 (at_live r.state m.lit) gb right) (sym second_begins) two.is in
    let whole = rules.either x w r.state f the_test ga gb left right s told first second in
    record {
      exits = one.exits ++ two.exits;
      calls = one.calls ++ two.calls;
      exits_are = ap (λ (z : LitRun). z.exits) same ∙ two.exits_are ∙ ap (λ xs. xs ++ two.exits) one.exits_are ∙ append_assoc r.exits one.exits two.exits;
      calls_are = ap (λ (z : LitRun). z.calls) same ∙ two.calls_are ∙ ap (λ xs. xs ++ two.calls) one.calls_are ∙ append_assoc r.calls one.calls two.calls;
      is = subst (λ (m : MadeState). IsRunOf x w r.state (λ answers c. choice (f c) (ga answers) (gb answers) c) (record { world = world m.nodes w2.applied; state = m.state; exits = one.exits ++ two.exits; calls = one.calls ++ two.calls })) e whole;
    }

-- ---- ends

ends_goes : (x : Subject) (w : World) (r : LitRun) (g : Answers → Step) (how : How) (t : LitRun) → t ≡ ended_run r how → IsRunOf x w r.state g (ended w r.state how) → GoesOn x g w r w t
ends_goes x w r g how t e is =
    let here : GoesOn x g w r w (ended_run r how) = record {
      exits = record { guard = r.state.live; how = how } ∷ [];
      calls = [];
      exits_are = refl;
      calls_are = sym (append-nil r.calls);
      is = is;
    } in
    subst (λ z. GoesOn x g w r w z) (sym e) here

pub stop : StopLaw
stop x w r rs t k s f e = ends_goes x w r _ (Stops (chosen r.state.store.registers rs) r.state.store.cells) t e (rules.stop x w r.state rs k s f)

pub fail : FailLaw
fail x w r trap t k s e = ends_goes x w r _ (Traps trap) t e (rules.fail x w r.state trap k s)

-- ---- sequences

pub begin : BeginLaw
begin x w r k s = record {
  exits = [];
  calls = [];
  exits_are = sym (append-nil r.exits);
  calls_are = sym (append-nil r.calls);
  is = rules.nothing x w r.state k s;
}

followed_more : (cs : List Request) (f : Flow) (g h : Step) → followed cs f (λ s. followed (g s).calls (g s).flow h) ≡ followed (followed cs f g).calls (followed cs f g).flow h
followed_more cs (Goes s) g h = more (g s).calls (g s).flow
  where
    more : (ds : List Request) (f : Flow) → ◌≡◌ {A = Run} (record { calls = cs ++ (followed ds f h).calls; flow = (followed ds f h).flow }) (followed (cs ++ ds) f h)
    more ds (Goes t) = ap (λ (l : List Request). record { calls = l; flow = (h t).flow }) (sym (append_assoc cs ds (h t).calls))
    more ds (Over e) = refl
    more ds Waits = refl
followed_more cs (Over e) g h = refl
followed_more cs Waits g h = refl

-- after nothing, a step is itself
followed_nothing : (cs : List Request) (f : Flow) → ◌≡◌ {A = Run} (followed cs f (in_order [])) (record { calls = cs; flow = f })
followed_nothing cs (Goes s) = ap (λ (l : List Request). record { calls = l; flow = Goes s }) (append-nil cs)
followed_nothing cs (Over e) = refl
followed_nothing cs Waits = refl

-- steps in order, and then one more
one_more : (ms : List Step) (m : Step) (s : State) → in_order (ms ++ m ∷ []) s ≡ followed (in_order ms s).calls (in_order ms s).flow m
one_more [] m s = followed_nothing (m s).calls (m s).flow
one_more (n ∷ ms) m s =
    ap (λ (next : Step). followed (n s).calls (n s).flow next) (λ i t. one_more ms m t i)
    ∙ followed_more (n s).calls (n s).flow (in_order ms) m

map_push : {A B : Type 0} (f : A → B) (xs : List A) (y : A) → map f (xs ++ y ∷ []) ≡ map f xs ++ f y ∷ []
map_push f [] y = refl
map_push f (x ∷ xs) y = ap (λ l. f x ∷ l) (map_push f xs y)

abbrev both_done : Subject → List Code → Code → Answers → Step
both_done x codes code answers c = followed (done_by_all x codes answers c).calls (done_by_all x codes answers c).flow (done_by x code answers)

done_more : (x : Subject) (codes : List Code) (code : Code) (answers : Answers) (c : State) → both_done x codes code answers c ≡ done_by_all x (codes ++ code ∷ []) answers c
done_more x codes code answers c =
    sym (one_more (map (λ code. done_by x code answers) codes) (done_by x code answers) c)
    ∙ ap (λ (ms : List Step). in_order ms c) (sym (map_push (λ code. done_by x code answers) codes code))

pub more : MoreLaw
more x codes code w w1 w2 r r1 r2 one two =
    let first : SymRun = record { world = w1; state = r1.state; exits = one.exits; calls = one.calls } in
    let second : SymRun = record { world = w2; state = r2.state; exits = two.exits; calls = two.calls } in
    let whole = rules.sequence x w r.state (done_by_all x codes) (done_by x code) first second one.is two.is in
    let same : both_done x codes code ≡ done_by_all x (codes ++ code ∷ []) = λ i answers c. done_more x codes code answers c i in
    record {
      exits = one.exits ++ two.exits;
      calls = one.calls ++ two.calls;
      exits_are = two.exits_are ∙ ap (λ xs. xs ++ two.exits) one.exits_are ∙ append_assoc r.exits one.exits two.exits;
      calls_are = two.calls_are ∙ ap (λ xs. xs ++ two.calls) one.calls_are ∙ append_assoc r.calls one.calls two.calls;
      is = subst (λ g. IsRunOf x w r.state g (record { world = w2; state = r2.state; exits = one.exits ++ two.exits; calls = one.calls ++ two.calls })) same whole;
    }
