-- How a run goes on with each form of code.
use Rattle.std.proofs.Common.{◌≡◌, ◌<◌, ◌≤◌, ◌+◌, ℕ, zero, suc, List, [], ◌∷◌, ◌++◌, length, take, get_or, sym, ap, ◌∙◌, subst, arith}
use Rattle.std.proofs.lemmas.List.{take_all, take_more}
use Rattle.std.specs.List.{AllByRecursion}
use Rattle.aig_build.specs.Built.{Made, and_built}
use Rattle.aig_build.specs.Circuits.{Node, IsCircuit, Grows, opposite}
use Rattle.aig_build.specs.declared.lits.Lit.{Lit}
use Rattle.core_ir.specs.Calls.{joined}
use Rattle.core_ir.specs.Meaning.{Answers, Flow, Request, Setting, Step, does, node, setting_of}
use Rattle.core_ir.specs.Nodes.{CodeNode, node_nodes, nodes_in}
use Rattle.core_ir.specs.Places.{State}
use Rattle.core_ir.specs.declared.units.Code.{Code}
use Rattle.core_ir.specs.declared.units.Code.TheFolds.{fold-roll-Code, map-Code}
use Rattle.core_ir.specs.declared.units.Code.TheOpen.{Code-F}
use Rattle.core_ir.specs.declared.units.Code.TheVariants.{Seq, Set, Load, Store, Call, If, Stop, Fail, rolls-Seq, rolls-Set, rolls-Load, rolls-Store, rolls-Call, rolls-If, rolls-Stop, rolls-Fail}
use Rattle.core_ir.specs.declared.units.Code.TheViews.{roll-Code}
use Rattle.core_ir.specs.declared.units.CoreOp.{CoreOp}
use Rattle.core_ir.specs.declared.units.Spot.{Spot}
use Rattle.rvt_num.specs.declared.values.Trap.{Trap}
use Rattle.std.specs.Prelude.{map}
use Rattle.sym_exec.specs.Steps.{quietly, MakesStep, MakesTest, GoesOnQuietly, IsUnderWay, NodeIsFit, CodeIsFit, AllFit, Parts, called_by, chooses, is_set, loads, sets, stores}
use Rattle.sym_paths.proofs.Going as going
use Rattle.sym_paths.specs.Going.{world, GoesOn, with_store, done_by, done_by_all}
use Rattle.sym_paths.specs.Runs.{LitRun, with_call, with_live, with_state, with_traps, joined_state, ended_run}
use Rattle.core_ir.specs.Cells.{store_shapes}
use Rattle.core_ir.specs.Joint.{table}
use Rattle.sym_store.proofs.Stores.{stores_alike}
use Rattle.sym_store.specs.Stores.{LitStore, AreStoresAlike}
use Rattle.symbolic_runs.proofs.Keeping.{lit_later, store_later}
use Rattle.symbolic_runs.proofs.Rules.{branches}
use Rattle.symbolic_runs.specs.Keeping.{IsLitThere, IsWorldKept, IsStateKept}
use Rattle.symbolic_runs.specs.Runs.{World, SymState, Traps, Stops, GuardedCall, MadeLit, yes_of, no_of, chosen}
use Rattle.symbolic_runs.specs.Runs.{with_live as at_live}
use Rattle.symbolic_runs.specs.Simulation.{Subject, layout, objects_in, IsCallOf}

-- ---- states in a circuit that has grown

pub state_later : (x : Subject) (old new : List Node) (s : SymState) → Grows old new → IsStateKept (layout x) old s → IsStateKept (layout x) new s
state_later x old new s g k = record { live = lit_later old new s.live g k.live; store = store_later (layout x) old new g s.store k.store }

-- without applications, a world is its circuit
pub bare_world : (x : Subject) (ns : List Node) → IsCircuit ns → IsWorldKept (layout x) (world ns [])
bare_world x ns c = record { circuit = c; laid_out = tt; there = tt }

-- behind a stretch of code the run is under way
pub goes_under_way : (x : Subject) (g : Answers → Step) (w v : World) (r t : LitRun) → GoesOn x g w r v t → IsUnderWay x v t
goes_under_way x g w v r t h = record { world = h.is.kept.world; state = h.is.kept.state }

-- ---- steps

pub step_goes : (x : Subject) (f : Answers → State → Flow) (old middle new : List Node) (r t : LitRun) (s : LitStore) (traps : List (Trap × Lit))
    → IsStateKept (layout x) old r.state → MakesStep x f old r.state.store middle s traps
    → with_traps (record { nodes = middle; run = with_store r s }) traps ≡ record { nodes = new; run = t }
    → GoesOnQuietly x (quietly f) old r new t
step_goes x f old middle new r t s traps k m e applied w =
    going.step x (world old applied) r f (record { world = world middle applied; store = s; traps = traps }) new t k (m applied w) e

-- behind a step the run and its traps stand in the circuit
pub record IsReady (x : Subject) (middle : List Node) (r : LitRun) (s : LitStore) (traps : List (Trap × Lit)) : Type 0 where
  pub live : IsLitThere middle r.state.live
  pub traps_there : AllByRecursion (λ t. IsLitThere middle t.1) traps

pub step_ready : (x : Subject) (f : Answers → State → Flow) (old middle : List Node) (r : LitRun) (s : LitStore) (traps : List (Trap × Lit))
    → IsCircuit old → IsStateKept (layout x) old r.state → MakesStep x f old r.state.store middle s traps → IsReady x middle r s traps
step_ready x f old middle r s traps c k m =
    let one = (m [] (bare_world x old c)).kept in
    record { live = lit_later old middle r.state.live one.grows k.live; traps_there = one.traps }

-- ---- calls

pub call_goes : (x : Subject) (f : Answers → State → Flow) (q : State → Request) (w : World) (middle : World) (new : List Node) (r t : LitRun) (s : LitStore) (traps : List (Trap × Lit)) (call : GuardedCall) (noted : LitRun)
    → IsStateKept (layout x) w.nodes r.state → call.guard ≡ r.state.live
    → IsCallOf x w r.state.store f q (record { step = record { world = middle; store = s; traps = traps }; name = call.name; key = call.key })
    → noted ≡ with_call (with_store r s) call
    → with_traps (record { nodes = middle.nodes; run = noted }) traps ≡ record { nodes = new; run = t }
    → GoesOn x (λ answers c. record { calls = q c ∷ []; flow = f answers c }) w r (world new middle.applied) t
call_goes x f q w middle new r t s traps call noted k guard is n e =
    going.call x w r f q call (record { world = middle; store = s; traps = traps }) new t k guard is
    (ap (λ z. with_traps (record { nodes = middle.nodes; run = z }) traps) (sym n) ∙ e)

pub call_ready : (x : Subject) (f : Answers → State → Flow) (q : State → Request) (w middle : World) (r : LitRun) (s : LitStore) (traps : List (Trap × Lit)) (call : GuardedCall) (noted : LitRun)
    → IsStateKept (layout x) w.nodes r.state
    → IsCallOf x w r.state.store f q (record { step = record { world = middle; store = s; traps = traps }; name = call.name; key = call.key })
    → noted ≡ with_call (with_store r s) call
    → IsReady x middle.nodes noted s traps
call_ready x f q w middle r s traps call noted k is n = record {
  live = subst (λ (z : LitRun). IsLitThere middle.nodes z.state.live) (sym n) (lit_later w.nodes middle.nodes r.state.live is.kept.step.grows k.live);
  traps_there = is.kept.step.traps;
}

-- ---- two branches

module _ (x : Subject) (n : ℕ) (w : World) (r : LitRun) (new : List Node) (first : LitRun) (second : SymState) (u : IsUnderWay x w r) (p : Parts x n w.nodes r new first second) where
  record AreBegun : Type 0 where
    one : IsUnderWay x (world new w.applied) (with_live r first.state.live)
    other : IsStateKept (layout x) new (record { live = second.live; store = r.state.store })

  both_begin : AreBegun
  both_begin =
      let b = p.branches in
      let yes_lit = first.state.live in
      let the_test : MadeLit = record { world = world p.tested w.applied; lit = p.test } in
      let second_of : Made → MadeLit = λ m. let n = and_built m.nodes r.state.live (opposite p.test) in record { world = world n.nodes w.applied; lit = n.lit } in
      let as_lit : Made → MadeLit = λ m. record { world = world m.nodes w.applied; lit = m.lit } in
      let first_begins : yes_of the_test r.state ≡ as_lit (record { nodes = b.middle; lit = yes_lit }) = ap as_lit b.first in
      let second_begins : no_of the_test r.state ≡ as_lit (record { nodes = new; lit = second.live }) = ap second_of b.first ∙ ap as_lit b.second in
      let k = branches x w r.state the_test u.state (p.tests w.applied u.world).kept in
      record {
        one = record {
          world = subst (λ (m : MadeLit). IsWorldKept (layout x) m.world) second_begins k.no.world;
          state = subst (λ (m : MadeLit). IsStateKept (layout x) m.world.nodes (at_live r.state yes_lit)) second_begins (subst (λ (m : MadeLit). IsStateKept (layout x) (no_of the_test r.state).world.nodes (at_live r.state m.lit)) first_begins k.first);
        };
        other = subst (λ (m : MadeLit). IsStateKept (layout x) m.world.nodes (at_live r.state m.lit)) second_begins k.second;
      }

  pub first_under_way : IsUnderWay x (world new w.applied) first
  first_under_way = subst (λ (z : LitRun). IsUnderWay x (world new w.applied) z) (sym p.first_is) both_begin.one

  -- the second branch begins behind the first
  pub second_under_way : (g : Answers → Step) (v : World) (r2 r3 : LitRun) → GoesOn x g (world new w.applied) first v r2 → r3 ≡ with_state r2 second → IsUnderWay x v r3
  second_under_way g v r2 r3 h e =
      let there = subst (λ (s : LitStore). IsStateKept (layout x) new (record { live = second.live; store = s })) (sym p.second_is) both_begin.other in
      let later = state_later x new v.nodes second h.is.kept.grows there in
      record { world = h.is.kept.world; state = subst (λ (z : LitRun). IsStateKept (layout x) v.nodes z.state) (sym e) later }

  -- one branch from where the test is true, the other one from where it isn't, and their join
  pub chosen_goes : (one other : Code) (r2 r3 r4 t : LitRun) (w1 w2 : World) (left : SymState) (last : List Node)
      → GoesOn x (done_by x one) (world new w.applied) first w1 r2
      → r3 ≡ with_state r2 second
      → left ≡ r2.state
      → GoesOn x (done_by x other) w1 r3 w2 r4
      → joined_state w2.nodes left r4.state ≡ record { nodes = last; state = t.state }
      → t ≡ with_state r4 t.state
      → GoesOn x (chooses x n one other) w r (world last w2.applied) t
  chosen_goes one other r2 r3 r4 t w1 w2 left last g1 e3 f g2 j same =
      let second_start : r3 ≡ with_state r2 (record { live = second.live; store = r.state.store }) = e3 ∙ ap (λ (s : LitStore). with_state r2 (record { live = second.live; store = s })) p.second_is in
      going.either x w r (is_set n) p.tested p.test new first.state.live second.live (done_by x one) (done_by x other) w1 w2 last r2 r4 t u.state (p.tests w.applied u.world) p.branches
      (subst (λ (z : LitRun). GoesOn x (done_by x one) (world new w.applied) z w1 r2) p.first_is g1)
      (subst (λ (z : LitRun). GoesOn x (done_by x other) w1 z w2 r4) second_start g2)
      (ap (λ (s : SymState). joined_state w2.nodes s r4.state) (sym f) ∙ j)
      same

-- what is joined stands in the circuit, and is of one layout
pub record MayJoin (x : Subject) (ns : List Node) (left right : SymState) : Type 0 where
  pub one : IsStateKept (layout x) ns left
  pub other : IsStateKept (layout x) ns right
  pub alike : AreStoresAlike left.store right.store

pub may_join : (x : Subject) (g h : Answers → Step) (w v z : World) (r1 r2 r3 r4 : LitRun) (left : SymState) → GoesOn x g w r1 v r2 → GoesOn x h v r3 z r4 → left ≡ r2.state → MayJoin x z.nodes left r4.state
may_join x g h w v z r1 r2 r3 r4 left a b e =
    let one = subst (λ (s : SymState). IsStateKept (layout x) z.nodes s) (sym e) (state_later x v.nodes z.nodes r2.state b.is.kept.grows a.is.kept.state) in
    record {
      one = one;
      other = b.is.kept.state;
      alike = stores_alike x.unit.registers (store_shapes (table x.joint)) left.store r4.state.store one.store.laid b.is.kept.state.store.laid;
    }

-- ---- the forms of code

abbrev at_unit : Subject → Setting
at_unit x = setting_of (objects_in x) x.unit

-- code in one of the forms does what the node does
done_as : (x : Subject) (y : Code-F Code) (code : Code) → roll-Code y ≡ code → ◌≡◌ {A = Answers → Step} (λ answers. node (at_unit x) answers (map-Code Code Step (does (at_unit x) answers) y)) (done_by x code)
done_as x y code e = λ i answers. (sym (fold-roll-Code Step (node (at_unit x) answers) y) ∙ ap (does (at_unit x) answers) e) i

-- and its nodes fit
pub fit_as : (x : Subject) (y : Code-F Code) (code : Code) → roll-Code y ≡ code → CodeIsFit x code → AllByRecursion (NodeIsFit x) (node_nodes (map-Code Code (List CodeNode) nodes_in y))
fit_as x y code e h = subst (AllByRecursion (NodeIsFit x)) (ap nodes_in (sym e) ∙ fold-roll-Code (List CodeNode) node_nodes y) h

-- a run that goes on as the node does goes on with the code
walked_as : (x : Subject) (y : Code-F Code) (code : Code) (w v : World) (r t : LitRun) → roll-Code y ≡ code
    → GoesOn x (λ answers. node (at_unit x) answers (map-Code Code Step (does (at_unit x) answers) y)) w r v t → GoesOn x (done_by x code) w r v t
walked_as x y code w v r t e h = subst (λ (g : Answers → Step). GoesOn x g w r v t) (done_as x y code e) h

module _ (x : Subject) where
  all_front : (ns ms : List CodeNode) → AllByRecursion (NodeIsFit x) (ns ++ ms) → AllByRecursion (NodeIsFit x) ns
  all_front [] ms h = tt
  all_front (n ∷ ns) ms h = (h.0, all_front ns ms h.1)

  all_back : (ns ms : List CodeNode) → AllByRecursion (NodeIsFit x) (ns ++ ms) → AllByRecursion (NodeIsFit x) ms
  all_back [] ms h = h
  all_back (n ∷ ns) ms h = all_back ns ms h.1

  pub parts_fit : (codes : List Code) → AllByRecursion (NodeIsFit x) (joined (map nodes_in codes)) → AllFit x codes
  parts_fit [] h = tt
  parts_fit (c ∷ cs) h = (all_front (nodes_in c) (joined (map nodes_in cs)) h, parts_fit cs (all_back (nodes_in c) (joined (map nodes_in cs)) h))

  pub part_fits : (codes : List Code) (n : ℕ) (c : Code) → AllFit x codes → n < length codes → c ≡ get_or codes n c → CodeIsFit x c
  part_fits [] n c h p e = absurd (omega (arith, p))
  part_fits (d ∷ ds) zero c h p e = subst (CodeIsFit x) (sym e) h.0
  part_fits (d ∷ ds) (suc n) c h p e = part_fits ds n c h.1 (omega (arith, p)) e

  -- what each form asks
  pub seq_fits : (code : Code) (parts shown : List Code) → code ≡ Seq parts → shown ≡ parts → CodeIsFit x code → AllFit x shown
  seq_fits code parts shown e f h = subst (AllFit x) (sym f) (parts_fit parts (fit_as x (Code-F.Seq parts) code (rolls-Seq parts ∙ sym e) h).1)

  pub set_fits : (code : Code) (r : ℕ) (op : CoreOp) → code ≡ Set r op → CodeIsFit x code → NodeIsFit x (Code-F.Set r op)
  set_fits code r op e h = (fit_as x (Code-F.Set r op) code (rolls-Set r op ∙ sym e) h).0

  pub load_fits : (code : Code) (r : ℕ) (spot : Spot) → code ≡ Load r spot → CodeIsFit x code → NodeIsFit x (Code-F.Load r spot)
  load_fits code r spot e h = (fit_as x (Code-F.Load r spot) code (rolls-Load r spot ∙ sym e) h).0

  pub store_fits : (code : Code) (spot : Spot) (r : ℕ) → code ≡ Store spot r → CodeIsFit x code → NodeIsFit x (Code-F.Store spot r)
  store_fits code spot r e h = (fit_as x (Code-F.Store spot r) code (rolls-Store spot r ∙ sym e) h).0

  pub call_fits : (code : Code) (u : ℕ) (ins outs shown_ins shown_outs : List ℕ) → code ≡ Call u ins outs → shown_ins ≡ ins → shown_outs ≡ outs → CodeIsFit x code → NodeIsFit x (Code-F.Call u shown_ins shown_outs)
  call_fits code u ins outs i o e f g h =
      subst (λ (l : List ℕ). NodeIsFit x (Code-F.Call u l o)) (sym f) (subst (λ (l : List ℕ). NodeIsFit x (Code-F.Call u ins l)) (sym g) (fit_as x (Code-F.Call u ins outs) code (rolls-Call u ins outs ∙ sym e) h).0)

  stop_fits : (code : Code) (rs : List ℕ) → code ≡ Stop rs → CodeIsFit x code → NodeIsFit x (Code-F.Stop rs)
  stop_fits code rs e h = (fit_as x (Code-F.Stop rs) code (rolls-Stop rs ∙ sym e) h).0

  pub test_fits : (code : Code) (r : ℕ) (one other : Code) → code ≡ If r one other → CodeIsFit x code → NodeIsFit x (Code-F.If r tt tt)
  test_fits code r one other e h = (fit_as x (Code-F.If r one other) code (rolls-If r one other ∙ sym e) h).0

  pub first_fits : (code : Code) (r : ℕ) (one other shown : Code) → code ≡ If r one other → shown ≡ one → CodeIsFit x code → CodeIsFit x shown
  first_fits code r one other shown e f h = subst (CodeIsFit x) (sym f) (all_front (nodes_in one) (nodes_in other) (fit_as x (Code-F.If r one other) code (rolls-If r one other ∙ sym e) h).1)

  pub second_fits : (code : Code) (r : ℕ) (one other shown : Code) → code ≡ If r one other → shown ≡ other → CodeIsFit x code → CodeIsFit x shown
  second_fits code r one other shown e f h = subst (CodeIsFit x) (sym f) (all_back (nodes_in one) (nodes_in other) (fit_as x (Code-F.If r one other) code (rolls-If r one other ∙ sym e) h).1)

-- ---- the run goes on with code of each form

module _ (x : Subject) (code : Code) (w v : World) (r t : LitRun) where
  pub set_walked : (n : ℕ) (op : CoreOp) → code ≡ Set n op → GoesOn x (quietly (sets x n op)) w r v t → GoesOn x (done_by x code) w r v t
  set_walked n op e h = walked_as x (Code-F.Set n op) code w v r t (rolls-Set n op ∙ sym e) h

  pub load_walked : (n : ℕ) (spot : Spot) → code ≡ Load n spot → GoesOn x (quietly (loads x n spot)) w r v t → GoesOn x (done_by x code) w r v t
  load_walked n spot e h = walked_as x (Code-F.Load n spot) code w v r t (rolls-Load n spot ∙ sym e) h

  pub store_walked : (spot : Spot) (n : ℕ) → code ≡ Store spot n → GoesOn x (quietly (stores x spot n)) w r v t → GoesOn x (done_by x code) w r v t
  store_walked spot n e h = walked_as x (Code-F.Store spot n) code w v r t (rolls-Store spot n ∙ sym e) h

  pub seq_walked : (parts shown : List Code) → code ≡ Seq parts → shown ≡ parts → GoesOn x (done_by_all x shown) w r v t → GoesOn x (done_by x code) w r v t
  seq_walked parts shown e f h = walked_as x (Code-F.Seq parts) code w v r t (rolls-Seq parts ∙ sym e) (subst (λ (l : List Code). GoesOn x (done_by_all x l) w r v t) f h)

  pub call_walked : (u : ℕ) (ins outs shown_ins shown_outs : List ℕ) → code ≡ Call u ins outs → shown_ins ≡ ins → shown_outs ≡ outs → GoesOn x (called_by u shown_ins shown_outs) w r v t → GoesOn x (done_by x code) w r v t
  call_walked u ins outs i o e f g h =
      walked_as x (Code-F.Call u ins outs) code w v r t (rolls-Call u ins outs ∙ sym e)
      (subst (λ (l : List ℕ). GoesOn x (called_by u ins l) w r v t) g (subst (λ (l : List ℕ). GoesOn x (called_by u l o) w r v t) f h))

  pub if_walked : (n : ℕ) (one other shown_one shown_other : Code) → code ≡ If n one other → shown_one ≡ one → shown_other ≡ other → GoesOn x (chooses x n shown_one shown_other) w r v t → GoesOn x (done_by x code) w r v t
  if_walked n one other a b e f g h =
      walked_as x (Code-F.If n one other) code w v r t (rolls-If n one other ∙ sym e)
      (subst (λ (c : Code). GoesOn x (chooses x n one c) w r v t) g (subst (λ (c : Code). GoesOn x (chooses x n c b) w r v t) f h))

module _ (x : Subject) (code : Code) (w : World) (r t : LitRun) where
  pub stop_walked : (rs shown : List ℕ) → code ≡ Stop rs → shown ≡ rs → IsUnderWay x w r → CodeIsFit x code → t ≡ ended_run r (Stops (chosen r.state.store.registers shown) r.state.store.cells) → GoesOn x (done_by x code) w r w t
  stop_walked rs shown e f u h g =
      walked_as x (Code-F.Stop rs) code w w r t (rolls-Stop rs ∙ sym e)
      (going.stop x w r rs t u.world u.state (stop_fits x code rs e h) (g ∙ ap (λ (l : List ℕ). ended_run r (Stops (chosen r.state.store.registers l) r.state.store.cells)) f))

  pub fail_walked : (trap : Trap) → code ≡ Fail trap → IsUnderWay x w r → t ≡ ended_run r (Traps trap) → GoesOn x (done_by x code) w r w t
  fail_walked trap e u g = walked_as x (Code-F.Fail trap) code w w r t (rolls-Fail trap ∙ sym e) (going.fail x w r trap t u.world u.state g)

-- ---- parts in order

pub part_goes : (x : Subject) (parts : List Code) (i : ℕ) (part : Code) (w w1 w2 : World) (r r1 r2 : LitRun) → i < length parts → part ≡ get_or parts i part
    → GoesOn x (done_by_all x (take i parts)) w r w1 r1 → GoesOn x (done_by x part) w1 r1 w2 r2 → GoesOn x (done_by_all x (take (i + 1) parts)) w r w2 r2
part_goes x parts i part w w1 w2 r r1 r2 p e one two =
    subst (λ (l : List Code). GoesOn x (done_by_all x l) w r w2 r2) (sym (take_more parts i part p ∙ ap (λ (c : Code). take i parts ++ c ∷ []) (sym e)))
    (going.more x (take i parts) part w w1 w2 r r1 r2 one two)

pub parts_gone : (x : Subject) (parts : List Code) (i : ℕ) (w v : World) (r t : LitRun) → length parts ≤ i → GoesOn x (done_by_all x (take i parts)) w r v t → GoesOn x (done_by_all x parts) w r v t
parts_gone x parts i w v r t p h = subst (λ (l : List Code). GoesOn x (done_by_all x l) w r v t) (take_all i parts p) h

-- ---- a test

module _ (x : Subject) (n : ℕ) (old tested : List Node) (r : LitRun) (test : Lit) (c : IsCircuit old) (k : IsStateKept (layout x) old r.state) (m : MakesTest x (is_set n) old r.state.store tested test) where
  pub live_there : IsLitThere tested r.state.live
  live_there = lit_later old tested r.state.live (m [] (bare_world x old c)).kept.grows k.live

  pub test_there : IsLitThere tested test
  test_there = (m [] (bare_world x old c)).kept.lit
