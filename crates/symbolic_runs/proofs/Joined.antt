-- The end that exits make together is that of the exit which is taken.
use Rattle.std.proofs.Common.{◌≡◌, Bool, true, false, cond, List, [], ◌∷◌, Option, Some, None, refl, ◌∙◌}
use Rattle.std.specs.List.{AllByRecursion}
use Rattle.aig_build.proofs.Nodes.{Grows-refl, Grows-trans}
use Rattle.aig_build.specs.Circuits.{Node, IsCircuit, Grows}
use Rattle.aig_build.specs.declared.lits.Lit.{Lit}
use Rattle.bit_ops.specs.declared.values.SymValue.{SymValue}
use Rattle.bit_words.proofs.RippleCarry.{AreThere-later}
use Rattle.bit_words.specs.Words.{AreThere}
use Rattle.core_ir.specs.Meaning.{End, Trapped}
use Rattle.rvt_num.specs.declared.values.Trap.{Trap}
use Rattle.sym_store.proofs.Choices.{merging}
use Rattle.sym_store.specs.Merging.{MadeValues, merged_values, AreMerged}
use Rattle.sym_values.specs.Valuations.{Valuation, IsValuation}
use Rattle.sym_values.specs.Values.{values_under, all_lits, AreLaid}
use Rattle.symbolic_runs.proofs.Keeping.{lit_later, traps_later}
use Rattle.symbolic_runs.proofs.Merged.{Stands, values_stand}
use Rattle.symbolic_runs.specs.Ending.{trap_end, end_under, MadeEnd, with_stop, with_trap, with_exit, end_built, IsEndKept, EndLaw}
use Rattle.symbolic_runs.specs.Keeping.{Layout, IsLitThere, HowIsKept, IsExitKept}
use Rattle.symbolic_runs.specs.Runs.{How, Traps, Stops, Exit}
use Rattle.symbolic_runs.specs.Simulation.{end_if, exits_under}
use Rattle.uf_abstraction.specs.Applications.{first_trap}

module _ (v : Valuation) (l : Layout) (first : List Node) where
  -- what is kept over the exits, from the last on
  pub record Ended (exits : List Exit) (m : MadeEnd) : Type 0 where
    pub circuit : IsCircuit m.nodes
    pub grows : Grows first m.nodes
    pub kept : IsEndKept l m.nodes m.end
    pub back : IsValuation m.nodes v → IsValuation first v
    pub none : exits_under v exits ≡ [] → first_trap v m.end.traps ≡ None
    pub one : IsValuation m.nodes v → (x : End) → exits_under v exits ≡ Some x ∷ [] → end_under v m.end ≡ Some x

  head_same : (h : Option End) (rest : List (Option End)) (x : End) → h ∷ rest ≡ Some x ∷ [] → (h ≡ Some x) × (rest ≡ [])
  head_same h rest x e = (cc, cc)

  not_none : {A : Type 0} (h : Option End) (rest : List (Option End)) → h ∷ rest ≡ [] → A
  not_none h rest e = cc

  module _ (xs : List Exit) (m : MadeEnd) (h : Ended xs m) (guard : Lit) (guard_there : IsLitThere first guard) where
    trap_none : (t : Trap) (b : Bool) → v guard ≡ b → cond b (Some (Trapped t) ∷ exits_under v xs) (exits_under v xs) ≡ [] → cond b (Some t) (first_trap v m.end.traps) ≡ None
    trap_none t true g e = not_none _ _ e
    trap_none t false g e = h.none e

    trap_one : (t : Trap) (b : Bool) (x : End) → IsValuation m.nodes v → cond b (Some (Trapped t) ∷ exits_under v xs) (exits_under v xs) ≡ Some x ∷ [] → trap_end (cond b (Some t) (first_trap v m.end.traps)) (end_if (values_under v m.end.results) (values_under v m.end.cells)) ≡ Some x
    trap_one t true x k e = (head_same _ _ x e).0
    trap_one t false x k e = h.one k x e

    here : IsLitThere m.nodes guard
    here = lit_later first m.nodes guard h.grows guard_there

    trap_ended : (t : Trap) → Ended (record { guard = guard; how = Traps t } ∷ xs) (with_trap t guard m)
    trap_ended t = record {
      circuit = h.circuit;
      grows = h.grows;
      kept = record { traps = (here, h.kept.traps); results = h.kept.results; cells = h.kept.cells; results_there = h.kept.results_there; cells_there = h.kept.cells_there };
      back = h.back;
      none = λ e. trap_none t (v guard) refl e;
      one = λ k x e. trap_one t (v guard) x k e;
    }

    module _ (rs ss : List SymValue) (p : HowIsKept l first (Stops rs ss)) where
      abbrev r : MadeValues
      r = merged_values m.nodes guard rs m.end.results

      abbrev s : MadeValues
      s = merged_values r.nodes guard ss m.end.cells

      r_merged : AreMerged v m.nodes guard l.results rs m.end.results r
      r_merged = merging v m.nodes guard l.results rs m.end.results p.0.0 h.kept.results

      s_merged : AreMerged v r.nodes guard l.cells ss m.end.cells s
      s_merged = merging v r.nodes guard l.cells ss m.end.cells p.1.0 h.kept.cells

      r_stands : Stands m.nodes r.nodes (all_lits r.values)
      r_stands = values_stand guard m.nodes rs m.end.results h.circuit here (AreThere-later first m.nodes (all_lits rs) h.grows p.0.1) h.kept.results_there

      to_r : Grows first r.nodes
      to_r = Grows-trans first m.nodes r.nodes h.grows r_stands.grows

      s_stands : Stands r.nodes s.nodes (all_lits s.values)
      s_stands = values_stand guard r.nodes ss m.end.cells r_stands.circuit (lit_later first r.nodes guard to_r guard_there) (AreThere-later first r.nodes (all_lits ss) to_r p.1.1) (AreThere-later m.nodes r.nodes (all_lits m.end.cells) r_stands.grows h.kept.cells_there)

      stop_none : (b : Bool) → cond b (end_if (values_under v rs) (values_under v ss) ∷ exits_under v xs) (exits_under v xs) ≡ [] → first_trap v m.end.traps ≡ None
      stop_none true e = not_none _ _ e
      stop_none false e = h.none e

      stop_one : (b : Bool) (x : End) → v guard ≡ b → IsValuation s.nodes v → cond b (end_if (values_under v rs) (values_under v ss) ∷ exits_under v xs) (exits_under v xs) ≡ Some x ∷ [] → end_under v (with_stop guard rs ss m).end ≡ Some x
      stop_one true x g k e =
          let parts = head_same _ _ x e in
          let a = r_merged.first (s_merged.back k) g in
          let b = s_merged.first k g in
          let t = h.none parts.1 in
          (λ i. trap_end (t i) (end_if (a i) (b i))) ∙ parts.0
      stop_one false x g k e =
          let a = r_merged.second (s_merged.back k) g in
          let b = s_merged.second k g in
          (λ i. trap_end (first_trap v m.end.traps) (end_if (a i) (b i))) ∙ h.one (r_merged.back (s_merged.back k)) x e

      stop_ended : Ended (record { guard = guard; how = Stops rs ss } ∷ xs) (with_stop guard rs ss m)
      stop_ended = record {
        circuit = s_stands.circuit;
        grows = Grows-trans first r.nodes s.nodes to_r s_stands.grows;
        kept = record {
          traps = traps_later l m.nodes s.nodes (Grows-trans m.nodes r.nodes s.nodes r_stands.grows s_stands.grows) m.end.traps h.kept.traps;
          results = r_merged.laid;
          cells = s_merged.laid;
          results_there = AreThere-later r.nodes s.nodes (all_lits r.values) s_stands.grows r_stands.there;
          cells_there = s_stands.there;
        };
        back = λ k. h.back (r_merged.back (s_merged.back k));
        none = λ e. stop_none (v guard) e;
        one = λ k x e. stop_one (v guard) x refl k e;
      }

    exit_ended : (how : How) → HowIsKept l first how → Ended (record { guard = guard; how = how } ∷ xs) (with_exit guard how m)
    exit_ended (Traps t) p = trap_ended t
    exit_ended (Stops rs ss) p = stop_ended rs ss p

  pub all_ended : (exits : List Exit) (results cells : List SymValue) → IsCircuit first → AreLaid l.results results → AreLaid l.cells cells → AreThere first (all_lits results) → AreThere first (all_lits cells) → AllByRecursion (IsExitKept l first) exits → Ended exits (end_built first exits results cells)
  all_ended [] results cells c p q t u k = record {
    circuit = c;
    grows = Grows-refl first;
    kept = record { traps = tt; results = p; cells = q; results_there = t; cells_there = u };
    back = λ k. k;
    none = λ e. refl;
    one = λ k x e. cc;
  }
  all_ended (x ∷ xs) results cells c p q t u k = exit_ended xs (end_built first xs results cells) (all_ended xs results cells c p q t u k.1) x.guard k.0.guard x.how k.0.how

pub ending : EndLaw
ending v l ns exits results cells c p q t u k =
    let e = all_ended v l ns exits results cells c p q t u k in
    record { circuit = e.circuit; grows = e.grows; kept = e.kept; back = e.back; is = e.one }
