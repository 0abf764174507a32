-- Edges of a graph that grows.
use Rattle.std.proofs.Common.{◌≡◌, ◌⊎◌, ◌↔◌, inl, inr, ℕ, ◌+◌, ◌<◌, List, [], ◌∷◌, ◌++◌, Vec, length, Option, Some, None, set, take, refl, sym, ap, arith, subst}
use Rattle.std.specs.Prelude.{slice_get}
use Rattle.std.specs.Global.{Global}
use Rattle.call_graph.proofs.Lists.{within, same_at, append_keeps, push_new, push_cases, set_new, set_keeps, set_cases}
use Rattle.call_graph.specs.Graphs.{At, Edge, IsGraph, rows}
use Rattle.core_ir.specs.Calls.{Among, calls_of_unit, unit_calls}
use Rattle.core_ir.specs.declared.cores.Core.{Core}
use Rattle.core_ir.specs.declared.units.Unit.{Unit}
use Rattle.touch_sets.proofs.Places.{decided, earlier_or_last, among_more}
use Rattle.touch_sets.specs.Callers.{AreCallers}

pub rows_more : (vectors : List (Vec ℕ Global)) (row : Vec ℕ Global) → rows (vectors ++ row ∷ []) ≡ rows vectors ++ row.items ∷ []
rows_more [] row = refl
rows_more (v ∷ vectors) row = ap (λ xs. v.items ∷ xs) (rows_more vectors row)

-- a row without edges
pub none_more : (graph : List (List ℕ)) → ((v u : ℕ) → Edge graph v u → ⊥) → (v u : ℕ) → Edge (graph ++ [] ∷ []) v u → ⊥
none_more graph none v u e = elim (push_cases graph [] v e.successors e.is_there) [
  | inl a ↦ none v u (record { successors = e.successors; is_there = a; place = e.place; leads = e.leads })
  | inr w ↦ nothing (subst (λ row. At row e.place u) w.1 e.leads)
]
  where
    nothing : None ≡ Some u → ⊥
    nothing = λ h. cc

-- an edge more
pub edge_pushed : (graph : List (List ℕ)) (from to n : ℕ) (row : List ℕ) → n ≡ length graph → At graph from row → (v u : ℕ) → Edge (set graph from (row ++ to ∷ [])) v u ↔ (Edge graph v u ⊎ ((u ≡ to) × (v ≡ from) × (v < n)))
edge_pushed graph from to n row size at v u = (there, back)
  where
    fits : v ≡ from → from < length graph → v < n
    fits e lt = omega (arith, e, lt, size)

    last : (k : ℕ) → v ≡ from → At (row ++ to ∷ []) k u → Edge graph v u ⊎ ((u ≡ to) × (v ≡ from) × (v < n))
    last k e h = elim (push_cases row to k u h) [
      | inl a ↦ inl (record { successors = row; is_there = subst (λ n. At graph n row) (sym e) at; place = k; leads = a })
      | inr w ↦ inr (w.1, e, fits e (within graph from row at))
    ]

    there : Edge (set graph from (row ++ to ∷ [])) v u → Edge graph v u ⊎ ((u ≡ to) × (v ≡ from) × (v < n))
    there e = elim (set_cases graph from (row ++ to ∷ []) v e.successors e.is_there) [
      | inl w ↦ last e.place w.0 (subst (λ r. At r e.place u) w.1 e.leads)
      | inr w ↦ inl (record { successors = e.successors; is_there = w.1; place = e.place; leads = e.leads })
    ]

    fresh : v ≡ from → At (set graph from (row ++ to ∷ [])) v (row ++ to ∷ [])
    fresh e = subst (λ n. At (set graph from (row ++ to ∷ [])) n (row ++ to ∷ [])) (sym e) (set_new graph from (row ++ to ∷ []) row at)

    kept : (v ≡ from) ⊎ (v ≡ from → ⊥) → Edge graph v u → Edge (set graph from (row ++ to ∷ [])) v u
    kept (inl same) e =
        let is_row : e.successors ≡ row = same_at graph from e.successors row (subst (λ n. At graph n e.successors) same e.is_there) at in
        record { successors = row ++ to ∷ []; is_there = fresh same; place = e.place; leads = append_keeps row (to ∷ []) e.place u (subst (λ r. At r e.place u) is_row e.leads) }
    kept (inr other) e = record { successors = e.successors; is_there = set_keeps graph from (row ++ to ∷ []) v e.successors other e.is_there; place = e.place; leads = e.leads }

    back : Edge graph v u ⊎ ((u ≡ to) × (v ≡ from) × (v < n)) → Edge (set graph from (row ++ to ∷ [])) v u
    back (inl e) = kept (decided v from) e
    back (inr w) =
        record { successors = row ++ to ∷ []; is_there = fresh w.1; place = length row; leads = subst (λ n. At (row ++ to ∷ []) (length row) n) (sym w.0) (push_new row to) }

-- the callers of the first calls, with one call more
pub call_pushed : (A B C : Type 0) (calls : List ℕ) (i callee caller n v u : ℕ) → At calls i callee → B ↔ (A ⊎ ((u ≡ caller) × Among v (take i calls) × (v < n))) → C ↔ (B ⊎ ((u ≡ caller) × (v ≡ callee) × (v < n))) → C ↔ (A ⊎ ((u ≡ caller) × Among v (take (i + 1) calls) × (v < n)))
call_pushed A B C calls i callee caller n v u at before step = (
  λ c. elim (step.0 c) [
    | inl b ↦ elim (before.0 b) [ inl a ↦ inl a | inr w ↦ inr (w.0, (among_more calls i v callee at).1 (inl w.1), w.2) ]
    | inr w ↦ inr (w.0, (among_more calls i v callee at).1 (inr w.1), w.2)
  ],
  λ s. elim s [
    | inl a ↦ step.1 (inl (before.1 (inl a)))
    | inr w ↦ elim ((among_more calls i v callee at).0 w.1) [
      | inl earlier ↦ step.1 (inl (before.1 (inr (w.0, earlier, w.2))))
      | inr same ↦ step.1 (inr (w.0, same, w.2))
    ]
  ],
)

-- the callers among the first units, with one unit more
pub unit_pushed : (B C : Type 0) (calls : ℕ → List ℕ) (i n v u : ℕ) → B ↔ ((u < i) × (v < n) × Among v (calls u)) → C ↔ (B ⊎ ((u ≡ i) × Among v (calls i) × (v < n))) → C ↔ ((u < i + 1) × (v < n) × Among v (calls u))
unit_pushed B C calls i n v u before step = (
  λ c. elim (step.0 c) [
    | inl b ↦ let w = before.0 b in (omega (arith, w.0), w.1, w.2)
    | inr w ↦ (omega (arith, w.0), w.2, subst (λ k. Among v (calls k)) (sym w.0) w.1)
  ],
  λ w. elim (earlier_or_last u i w.0) [
    | inl earlier ↦ step.1 (inl (before.1 (earlier, w.1, w.2)))
    | inr same ↦ step.1 (inr (same, subst (λ k. Among v (calls k)) same w.2, w.1))
  ],
)

-- a unit that calls is there
pub caller_there : (core : Core) (u v : ℕ) → Among v (unit_calls core u) → u < length core.units
caller_there core u v h = by_unit (slice_get core.units u) refl h
  where
    by_unit : (o : Option Unit) → slice_get core.units u ≡ o → Among v (calls_of_unit o) → u < length core.units
    by_unit None e a = absurd a
    by_unit (Some w) e a = within core.units u w e

-- the graph of all callers
pub are_callers : (core : Core) (graph : List (List ℕ)) → length graph ≡ length core.units → ((v u : ℕ) → Edge graph v u ↔ ((u < length core.units) × (v < length core.units) × Among v (unit_calls core u))) → AreCallers core graph
are_callers core graph size edges = record {
  sized = size;
  edges = λ v u. (λ e. let w = (edges v u).0 e in (w.1, w.2), λ w. (edges v u).1 (caller_there core u v w.1, w.0, w.1));
}

-- each edge leads to a unit that is there
pub callers_closed : (core : Core) (graph : List (List ℕ)) → AreCallers core graph → IsGraph graph
callers_closed core graph c v u e = let w = (c.edges v u).0 e in let lt = caller_there core u v w.1 in let s = c.sized in omega (arith, lt, s)
