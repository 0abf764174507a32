-- A symbolic run keeps the layouts of its values, and its literals stand in the circuit.
use Rattle.std.proofs.Common.{◌≡◌, ℕ, zero, suc, Bool, false, List, [], ◌∷◌, length, Option, Some, None, refl, sym, ◌∙◌, subst, arith}
use Rattle.std.specs.Prelude.{slice_get}
use Rattle.std.specs.List.{AllByRecursion}
use Rattle.std.proofs.lemmas.Option.{none-some, same_Some, slice_get_within}
use Rattle.aig_build.proofs.Gates.{and_built-makes}
use Rattle.aig_build.proofs.Nodes.{Grows-length, Grows-refl, Grows-trans}
use Rattle.aig_build.specs.Built.{and_built}
use Rattle.aig_build.specs.Circuits.{Node, IsCircuit, Grows, constant, opposite}
use Rattle.aig_build.specs.declared.lits.Lit.{Lit}
use Rattle.bit_ops.specs.declared.values.SymValue.{SymValue}
use Rattle.bit_ops.specs.declared.values.SymValue.TheVariants.{Word, Pointer}
use Rattle.bit_words.proofs.ConvertValues.{AreThere-append}
use Rattle.bit_words.proofs.RippleCarry.{AreThere-later}
use Rattle.bit_words.specs.Words.{AreThere}
use Rattle.core_ir.proofs.Bodies.{all_mapped}
use Rattle.core_ir.proofs.Runs.{all_append}
use Rattle.core_ir.specs.Fits.{Widens, AllGive}
use Rattle.core_ir.specs.declared.units.Shape.{Shape}
use Rattle.core_ir.specs.declared.units.Shape.TheVariants as shape
use Rattle.rvt_num.specs.Kinds.{width}
use Rattle.rvt_num.specs.declared.values.Trap.{Trap}
use Rattle.sym_store.proofs.Stores.{stores_merging}
use Rattle.sym_store.specs.Stores.{LitStore, IsStoreLaid, merged_store}
use Rattle.sym_values.specs.Values.{lits_of, all_lits, IsLaid, AreLaid}
use Rattle.symbolic_runs.proofs.Merged.{there_front, there_back, store_stands}
use Rattle.symbolic_runs.specs.Keeping.{Layout, IsLitThere, IsWorldKept, IsStoreKept, IsStateKept, HowIsKept, IsExitKept, IsCallKept, IsRunKept, IsStepKept, IsCalledKept, IsTestKept}
use Rattle.symbolic_runs.specs.Runs.{World, SymState, How, Traps, Stops, Exit, GuardedCall, SymRun, Stepped, Called, MadeLit, and_in, or_in, Trapping, trapping, stepped, called, after, stays, with_live, joined_at, yes_of, no_of, ended, with_chosen, chosen}
use Rattle.uf_abstraction.specs.Applications.{Application, answer_lits}
use Rattle.uf_abstraction.specs.Applying.{IsThere}

-- ---- in a circuit that has grown

pub lit_later : (old new : List Node) (l : Lit) → Grows old new → IsLitThere old l → IsLitThere new l
lit_later old new l g t = omega (arith, t, Grows-length old new g)

-- node 0 is in every circuit
pub lit_zero : (ns : List Node) (b : Bool) → IsCircuit ns → IsLitThere ns (constant b)
lit_zero ns b h = slice_get_within ns 0 None h.constant

module _ (l : Layout) (old new : List Node) (g : Grows old new) where
  applied_later : (a : Application) → IsThere old a → IsThere new a
  applied_later a t = record { key = AreThere-later old new (all_lits a.key) g t.key; answer = AreThere-later old new (answer_lits a.answer) g t.answer }

  pub all_applied_later : (made : List Application) → AllByRecursion (IsThere old) made → AllByRecursion (IsThere new) made
  all_applied_later made p = all_mapped (IsThere old) (IsThere new) applied_later made p

  pub store_later : (s : LitStore) → IsStoreKept l old s → IsStoreKept l new s
  store_later s k = record {
    laid = k.laid;
    there = record { registers = AreThere-later old new (all_lits s.registers) g k.there.registers; cells = AreThere-later old new (all_lits s.cells) g k.there.cells };
  }

  how_later : (h : How) → HowIsKept l old h → HowIsKept l new h
  how_later (Traps t) k = tt
  how_later (Stops results cells) k = ((k.0.0, AreThere-later old new (all_lits results) g k.0.1), (k.1.0, AreThere-later old new (all_lits cells) g k.1.1))

  exit_later : (x : Exit) → IsExitKept l old x → IsExitKept l new x
  exit_later x k = record { guard = lit_later old new x.guard g k.guard; how = how_later x.how k.how }

  pub exits_later : (xs : List Exit) → AllByRecursion (IsExitKept l old) xs → AllByRecursion (IsExitKept l new) xs
  exits_later xs p = all_mapped (IsExitKept l old) (IsExitKept l new) exit_later xs p

  call_later : (c : GuardedCall) → IsCallKept l old c → IsCallKept l new c
  call_later c k = record { guard = lit_later old new c.guard g k.guard; laid = k.laid; there = AreThere-later old new (all_lits c.key) g k.there }

  pub calls_later : (cs : List GuardedCall) → AllByRecursion (IsCallKept l old) cs → AllByRecursion (IsCallKept l new) cs
  calls_later cs p = all_mapped (IsCallKept l old) (IsCallKept l new) call_later cs p

  trap_later : (t : Trap × Lit) → IsLitThere old t.1 → IsLitThere new t.1
  trap_later t k = lit_later old new t.1 g k

  pub traps_later : (ts : List (Trap × Lit)) → AllByRecursion (λ t. IsLitThere old t.1) ts → AllByRecursion (λ t. IsLitThere new t.1) ts
  traps_later ts p = all_mapped (λ t. IsLitThere old t.1) (λ t. IsLitThere new t.1) trap_later ts p

-- a register that has a shape
pub record HasLaid (ns : List Node) (values : List SymValue) (r : ℕ) (s : Shape) : Type 0 where
  pub value : SymValue
  pub is_there : slice_get values r ≡ Some value
  pub laid : IsLaid s value
  pub there : AreThere ns (lits_of value)

pub register_laid : (ns : List Node) (shapes : List Shape) (values : List SymValue) (r : ℕ) (s : Shape) → AreLaid shapes values → AreThere ns (all_lits values) → slice_get shapes r ≡ Some s → HasLaid ns values r s
register_laid ns [] values r s h t e = absurd (none-some _ e)
register_laid ns (a ∷ more) [] r s h t e = absurd h
register_laid ns (a ∷ more) (x ∷ xs) zero s h t e = record { value = x; is_there = refl; laid = subst (λ s. IsLaid s x) (same_Some _ _ e) h.0; there = there_front ns (lits_of x) (all_lits xs) t }
register_laid ns (a ∷ more) (x ∷ xs) (suc n) s h t e =
    let rest = register_laid ns more xs n s h.1 (there_back ns (lits_of x) (all_lits xs) t) e in
    record { value = rest.value; is_there = rest.is_there; laid = rest.laid; there = rest.there }

module _ (l : Layout) where
  -- a circuit that has grown, with the applications of a world
  pub world_later : (w : World) (ns : List Node) → IsWorldKept l w → IsCircuit ns → Grows w.nodes ns → IsWorldKept l (record { nodes = ns; applied = w.applied })
  world_later w ns k c g = record { circuit = c; laid_out = k.laid_out; there = all_applied_later l w.nodes ns g w.applied k.there }

  -- ---- conjunctions

  pub and_kept : (w : World) (a b : Lit) → IsWorldKept l w → IsLitThere w.nodes a → IsLitThere w.nodes b → IsTestKept l w (and_in w a b)
  and_kept w a b k p q =
      let m = and_built-makes w.nodes a b k.circuit p q in
      record { grows = m.grows; world = world_later w (and_built w.nodes a b).nodes k m.circuit m.grows; lit = m.there }

  pub or_kept : (w : World) (a b : Lit) → IsWorldKept l w → IsLitThere w.nodes a → IsLitThere w.nodes b → IsTestKept l w (or_in w a b)
  or_kept w a b k p q =
      let m = and_kept w (opposite a) (opposite b) k p q in
      record { grows = m.grows; world = m.world; lit = m.lit }

  -- ---- traps

  record IsTrappingKept (w : World) (t : Trapping) : Type 0 where
    grows : Grows w.nodes t.world.nodes
    world : IsWorldKept l t.world
    live : IsLitThere t.world.nodes t.live
    exits : AllByRecursion (IsExitKept l t.world.nodes) t.exits

  trapping_kept : (w : World) (live : Lit) (ts : List (Trap × Lit)) → IsWorldKept l w → IsLitThere w.nodes live → AllByRecursion (λ t. IsLitThere w.nodes t.1) ts → IsTrappingKept w (trapping w live ts)
  trapping_kept w live [] k p q = record { grows = Grows-refl w.nodes; world = k; live = p; exits = tt }
  trapping_kept w live (t ∷ ts) k p q =
      let hit = and_in w live t.1 in
      let one = and_kept w live t.1 k p q.0 in
      let on = and_in hit.world live (opposite t.1) in
      let two = and_kept hit.world live (opposite t.1) one.world (lit_later w.nodes hit.world.nodes live one.grows p) (lit_later w.nodes hit.world.nodes t.1 one.grows q.0) in
      let to_on = Grows-trans w.nodes hit.world.nodes on.world.nodes one.grows two.grows in
      let rest = trapping_kept on.world on.lit ts two.world two.lit (traps_later l w.nodes on.world.nodes to_on ts q.1) in
      let last = (trapping on.world on.lit ts).world.nodes in
      record {
        grows = Grows-trans w.nodes on.world.nodes last to_on rest.grows;
        world = rest.world;
        live = rest.live;
        exits = (record { guard = lit_later hit.world.nodes last hit.lit (Grows-trans hit.world.nodes on.world.nodes last two.grows rest.grows) one.lit; how = tt }, rest.exits);
      }

  pub step_kept : (w : World) (s : SymState) (p : Stepped) (calls : List GuardedCall) → IsStateKept l w.nodes s → IsStepKept l w p → AllByRecursion (IsCallKept l w.nodes) calls → IsRunKept l w (stepped s.live p calls)
  step_kept w s p calls k m c =
      let t = trapping_kept p.world s.live p.traps m.world (lit_later w.nodes p.world.nodes s.live m.grows k.live) m.traps in
      let last = (trapping p.world s.live p.traps).world.nodes in
      let to_last = Grows-trans w.nodes p.world.nodes last m.grows t.grows in
      record {
        grows = to_last;
        world = t.world;
        state = record { live = t.live; store = store_later l p.world.nodes last t.grows p.store m.store };
        exits = t.exits;
        calls = calls_later l w.nodes last to_last calls c;
      }

  pub called_kept : (w : World) (s : SymState) (c : Called) → IsStateKept l w.nodes s → IsCalledKept l w c → IsRunKept l w (called s.live c)
  called_kept w s c k m = step_kept w s c.step (record { guard = s.live; name = c.name; key = c.key } ∷ []) k m.step (record { guard = k.live; laid = m.laid; there = m.there }, tt)

  -- ---- one stretch after another

  pub after_kept : (w : World) (first second : SymRun) → IsRunKept l w first → IsRunKept l first.world second → IsRunKept l w (after first second)
  after_kept w first second one two = record {
    grows = Grows-trans w.nodes first.world.nodes second.world.nodes one.grows two.grows;
    world = two.world;
    state = two.state;
    exits = all_append (IsExitKept l second.world.nodes) first.exits second.exits (exits_later l first.world.nodes second.world.nodes two.grows first.exits one.exits) two.exits;
    calls = all_append (IsCallKept l second.world.nodes) first.calls second.calls (calls_later l first.world.nodes second.world.nodes two.grows first.calls one.calls) two.calls;
  }

  pub stays_kept : (w : World) (s : SymState) → IsWorldKept l w → IsStateKept l w.nodes s → IsRunKept l w (stays w s)
  stays_kept w s k x = record { grows = Grows-refl w.nodes; world = k; state = x; exits = tt; calls = tt }

  -- ---- ends

  pub end_kept : (w : World) (s : SymState) (how : How) → IsWorldKept l w → IsStateKept l w.nodes s → HowIsKept l w.nodes how → IsRunKept l w (ended w s how)
  end_kept w s how k x h = record {
    grows = Grows-refl w.nodes;
    world = k;
    state = record { live = lit_zero w.nodes false k.circuit; store = x.store };
    exits = (record { guard = x.live; how = h }, tt);
    calls = tt;
  }

  -- values of registers

  laid_widened : (s t : Shape) (x : SymValue) → Widens s t → IsLaid s x → IsLaid t x
  laid_widened (shape.Word k) (shape.Word m) (Word w) e h = record { of_kind = h.of_kind ∙ e; of_width = subst (λ k. length w.bits ≡ width k) e h.of_width }
  laid_widened (shape.Word k) (shape.Word m) (Pointer o c) e h = absurd h
  laid_widened (shape.Pointer a b) (shape.Pointer c d) (Word w) e h = absurd h
  laid_widened (shape.Pointer a b) (shape.Pointer c d) (Pointer o p) e h = h
  laid_widened (shape.Word k) (shape.Pointer c d) x e h = absurd e
  laid_widened (shape.Pointer a b) (shape.Word m) x e h = absurd e

  pub chosen_kept : (ns : List Node) (shapes : List Shape) (values : List SymValue) → AreLaid shapes values → AreThere ns (all_lits values) → (rs : List ℕ) (wanted : List Shape) → AllGive shapes rs wanted → AreLaid wanted (chosen values rs) × AreThere ns (all_lits (chosen values rs))
  chosen_kept ns shapes values h t [] [] f = (tt, tt)
  chosen_kept ns shapes values h t [] (s ∷ ss) f = absurd f
  chosen_kept ns shapes values h t (r ∷ rs) [] f = absurd f
  chosen_kept ns shapes values h t (r ∷ rs) (s ∷ ss) f =
      let x = register_laid ns shapes values r f.0.shape h t f.0.is_there in
      let rest = chosen_kept ns shapes values h t rs ss f.1 in
      subst (λ (o : Option SymValue). AreLaid (s ∷ ss) (with_chosen o (chosen values rs)) × AreThere ns (all_lits (with_chosen o (chosen values rs)))) (sym x.is_there) ((laid_widened f.0.shape s x.value f.0.widens x.laid, rest.0), AreThere-append ns (lits_of x.value) (all_lits (chosen values rs)) x.there rest.1)

  pub stop_kept : (w : World) (s : SymState) (rs : List ℕ) → IsWorldKept l w → IsStateKept l w.nodes s → AllGive l.registers rs l.results → IsRunKept l w (ended w s (Stops (chosen s.store.registers rs) s.store.cells))
  stop_kept w s rs k x f =
      end_kept w s (Stops (chosen s.store.registers rs) s.store.cells) k x
      (chosen_kept w.nodes l.registers s.store.registers x.store.laid.of_registers x.store.there.registers rs l.results f, (x.store.laid.of_cells, x.store.there.cells))

  -- ---- two branches

  merged_laid : (ns : List Node) (which : Lit) (s t : LitStore) → IsStoreLaid l.registers l.cells s → IsStoreLaid l.registers l.cells t → IsStoreLaid l.registers l.cells (merged_store ns which s t).store
  merged_laid ns which s t p q = (stores_merging (λ x. false) ns which l.registers l.cells s t p q).laid

  pub join_kept : (w : World) (first second : SymRun) → IsRunKept l w first → IsRunKept l first.world second → IsRunKept l w (joined_at first second)
  join_kept w first second one two =
      let here = second.world.nodes in
      let live = lit_later first.world.nodes here first.state.live two.grows one.state.live in
      let left = store_later l first.world.nodes here two.grows first.state.store one.state.store in
      let m = merged_store here first.state.live first.state.store second.state.store in
      let k = store_stands first.state.live here first.state.store second.state.store two.world.circuit live left.there two.state.store.there in
      let merged : World = record { nodes = m.nodes; applied = second.world.applied } in
      let o = or_kept merged first.state.live second.state.live (world_later second.world m.nodes two.world k.circuit k.grows) (lit_later here m.nodes first.state.live k.grows live) (lit_later here m.nodes second.state.live k.grows two.state.live) in
      let last = (or_in merged first.state.live second.state.live).world.nodes in
      let to_last = Grows-trans here m.nodes last k.grows o.grows in
      let from_first = Grows-trans first.world.nodes here last two.grows to_last in
      record {
        grows = Grows-trans w.nodes first.world.nodes last one.grows from_first;
        world = o.world;
        state = record {
          live = o.lit;
          store = store_later l m.nodes last o.grows m.store (record { laid = merged_laid here first.state.live first.state.store second.state.store left.laid two.state.store.laid; there = k.there });
        };
        exits = all_append (IsExitKept l last) first.exits second.exits (exits_later l first.world.nodes last from_first first.exits one.exits) (exits_later l here last to_last second.exits two.exits);
        calls = all_append (IsCallKept l last) first.calls second.calls (calls_later l first.world.nodes last from_first first.calls one.calls) (calls_later l here last to_last second.calls two.calls);
      }

  -- the two branches from their beginnings
  module _ (w : World) (s : SymState) (c : MadeLit) (x : IsStateKept l w.nodes s) (k : IsTestKept l w c) where
    abbrev yes : MadeLit
    yes = yes_of c s

    abbrev no : MadeLit
    no = no_of c s

    live_there : IsLitThere c.world.nodes s.live
    live_there = lit_later w.nodes c.world.nodes s.live k.grows x.live

    pub yes_kept : IsTestKept l c.world yes
    yes_kept = and_kept c.world s.live c.lit k.world live_there k.lit

    pub no_kept : IsTestKept l yes.world no
    no_kept = and_kept yes.world s.live (opposite c.lit) yes_kept.world (lit_later c.world.nodes yes.world.nodes s.live yes_kept.grows live_there) (lit_later c.world.nodes yes.world.nodes c.lit yes_kept.grows k.lit)

    to_no : Grows w.nodes no.world.nodes
    to_no = Grows-trans w.nodes yes.world.nodes no.world.nodes (Grows-trans w.nodes c.world.nodes yes.world.nodes k.grows yes_kept.grows) no_kept.grows

    pub state_first : IsStateKept l no.world.nodes (with_live s yes.lit)
    state_first = record { live = lit_later yes.world.nodes no.world.nodes yes.lit no_kept.grows yes_kept.lit; store = store_later l w.nodes no.world.nodes to_no s.store x.store }

    pub state_second : IsStateKept l no.world.nodes (with_live s no.lit)
    state_second = record { live = no_kept.lit; store = store_later l w.nodes no.world.nodes to_no s.store x.store }

    pub branches_kept : (first second : SymRun) → IsRunKept l no.world first → IsRunKept l first.world second → IsRunKept l w (joined_at first second)
    branches_kept first second one two =
        let from_start : IsRunKept l w first = record { grows = Grows-trans w.nodes no.world.nodes first.world.nodes to_no one.grows; world = one.world; state = one.state; exits = one.exits; calls = one.calls } in
        join_kept w first second from_start two
