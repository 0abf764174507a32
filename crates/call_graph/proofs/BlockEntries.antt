-- A vertex that wasn't seen becomes a block of its own.
use Rattle.std.proofs.Common.{◌≡◌, ◌⊎◌, inl, inr, ℕ, zero, suc, ◌<◌, ◌≤◌, ◌+◌, List, [], ◌∷◌, ◌++◌, length, Option, Some, None, set, refl, sym, ap, ◌∙◌, arith, subst, length-append}
use Rattle.std.proofs.Math.ListN.{length-set}
use Rattle.std.proofs.lemmas.Bool.{cases_lt}
use Rattle.call_graph.specs.Graphs.{At, Edge, Reaches}
use Rattle.call_graph.specs.Components.{InGroup}
use Rattle.call_graph.specs.Walks.{IsWalk, IsMet, Source, unseen_work}
use Rattle.call_graph.specs.declared.walks.Block.{Block}
use Rattle.call_graph.proofs.Lists.{within, same_at, append_keeps, append_new, append_cases, push_new, push_cases, set_new, set_keeps, set_cases}

some_same : {i j : ℕ} → Option.Some i ≡ Option.Some j → i ≡ j
some_same e = cc

pub not_unseen : (places : List (Option ℕ)) (v i u : ℕ) → At places v None → At places u (Some i) → u ≡ v → ⊥
not_unseen places v i u none some e =
    let same : Option.None ≡ Option.Some i = same_at places v None (Some i) none (subst (λ x. At places x (Some i)) e some) in
    absurd (cc)

length_push : {X : Type 0} (xs : List X) (x : X) → length (xs ++ x ∷ []) ≡ length xs + 1
length_push xs x = simp length-append (omega arith)

pub entered : (graph : List (List ℕ)) (places : List (Option ℕ)) (open_ones pending : List ℕ) (blocks : List Block) (groups : List (List ℕ)) → IsWalk graph places open_ones pending blocks groups →
    (vertex : ℕ) → At places vertex None → (row : List ℕ) → At graph vertex row → ((u i : ℕ) → At open_ones i u → Reaches graph u vertex) →
    (new : Block) → new.open ≡ length open_ones → new.pending ≡ length pending →
    IsWalk graph (set places vertex (Some (length open_ones))) (open_ones ++ vertex ∷ []) (pending ++ row) (blocks ++ new ∷ []) groups
entered graph places open_ones pending blocks groups w vertex unseen row is_row reached new new_open new_pending = record {
  sized = length-set places vertex (Some (length open_ones)) ∙ w.sized;
  placed = placed;
  seen = seen;
  grouped = grouped;
  apart = apart;
  once = w.once;
  mutual_reach = w.mutual_reach;
  order = w.order;
  leads = leads;
  joined = joined;
  source = source;
  rising = rising;
  begins = begins;
  covered = covered;
} where
  still : (u i : ℕ) → At places u (Some i) → At (set places vertex (Some (length open_ones))) u (Some i)
  still u i h = set_keeps places vertex (Some (length open_ones)) u (Some i) (not_unseen places vertex i u unseen h) h

  in_row : (v : ℕ) (e : Edge graph vertex v) → (p : ℕ) × At row p v
  in_row v e = (e.place, subst (λ r. At r e.place v) (same_at graph vertex e.successors row e.is_there is_row) e.leads)

  edge_to : (p v : ℕ) → At row p v → Edge graph vertex v
  edge_to p v h = record { successors = row; is_there = is_row; place = p; leads = h }

  placed : (v i : ℕ) → At (open_ones ++ vertex ∷ []) i v → At (set places vertex (Some (length open_ones))) v (Some i)
  placed v i h = elim (push_cases open_ones vertex i v h) [
    | inl o ↦ still v i (w.placed v i o)
    | inr e ↦
        let here : At (set places vertex (Some (length open_ones))) vertex (Some (length open_ones)) = set_new places vertex (Some (length open_ones)) None unseen in
        subst (λ x. At (set places vertex (Some (length open_ones))) x (Some i)) (sym e.1) (subst (λ n. At (set places vertex (Some (length open_ones))) vertex (Some n)) (sym e.0) here)
  ]

  seen : (v i : ℕ) → At (set places vertex (Some (length open_ones))) v (Some i) → At (open_ones ++ vertex ∷ []) i v ⊎ ((k : ℕ) × InGroup groups k v)
  seen v i h = elim (set_cases places vertex (Some (length open_ones)) v (Some i) h) [
    | inl e ↦ inl (subst (λ n. At (open_ones ++ vertex ∷ []) n v) (sym (some_same e.1)) (subst (λ x. At (open_ones ++ vertex ∷ []) (length open_ones) x) (sym e.0) (push_new open_ones vertex)))
    | inr o ↦ elim (w.seen v i o.1) [ inl a ↦ inl (append_keeps open_ones (vertex ∷ []) i v a) | inr g ↦ inr g ]
  ]

  grouped : (v k : ℕ) → InGroup groups k v → (i : ℕ) × At (set places vertex (Some (length open_ones))) v (Some i)
  grouped v k g = let o = w.grouped v k g in (o.0, still v o.0 o.1)

  apart : (v k i : ℕ) → InGroup groups k v → At (open_ones ++ vertex ∷ []) i v → ⊥
  apart v k i g h = elim (push_cases open_ones vertex i v h) [
    | inl o ↦ w.apart v k i g o
    | inr e ↦ let o = w.grouped v k g in not_unseen places vertex o.0 v unseen o.1 e.1
  ]

  met_old : (b : Block) (v : ℕ) → IsMet open_ones pending groups b v → IsMet (open_ones ++ vertex ∷ []) (pending ++ row) groups b v
  met_old b v m = elim m [
    | inl g ↦ inl g
    | inr o ↦ elim o [
      | inl j ↦ inr (inl (j.0, j.1, append_keeps open_ones (vertex ∷ []) j.0 v j.2))
      | inr k ↦ inr (inr (k.0, k.1, append_keeps pending row k.0 v k.2))
    ]
  ]

  met_new : (b : Block) (v : ℕ) → b.pending ≤ length pending → Edge graph vertex v → IsMet (open_ones ++ vertex ∷ []) (pending ++ row) groups b v
  met_new b v le e = let p = in_row v e in inr (inr (length pending + p.0, omega (arith, le), append_new pending row p.0 (length pending + p.0) v refl p.1))

  -- where the old and the new block begin
  low : (l : ℕ) (b : Block) → At (blocks ++ new ∷ []) l b → (b.open ≤ length open_ones) × (b.pending ≤ length pending)
  low l b h = elim (push_cases blocks new l b h) [
    | inl o ↦ let r = w.begins l b o in (omega (arith, r.0), r.1)
    | inr e ↦ subst (λ c. (c.open ≤ length open_ones) × (c.pending ≤ length pending)) (sym e.1) (omega (arith, new_open), omega (arith, new_pending))
  ]

  leads : (l : ℕ) (b : Block) (u i v : ℕ) → At (blocks ++ new ∷ []) l b → At (open_ones ++ vertex ∷ []) i u → b.open ≤ i → Edge graph u v → IsMet (open_ones ++ vertex ∷ []) (pending ++ row) groups b v
  leads l b u i v hb hu le e = elim (push_cases open_ones vertex i u hu) [
    | inl o ↦ old_vertex (push_cases blocks new l b hb) o
    | inr n ↦ met_new b v (low l b hb).1 (subst (λ x. Edge graph x v) n.1 e)
  ]
    where
      old_vertex : (At blocks l b) ⊎ ((l ≡ length blocks) × (b ≡ new)) → At open_ones i u → IsMet (open_ones ++ vertex ∷ []) (pending ++ row) groups b v
      old_vertex (inl a) o = met_old b v (w.leads l b u i v a o le e)
      old_vertex (inr n) o =
          let r = within open_ones i u o in
          let at : new.open ≤ i = subst (λ c. c.open ≤ i) n.1 le in
          absurd (omega (arith, r, at, new_open))

  joined : (u v i j : ℕ) → At (open_ones ++ vertex ∷ []) i u → At (open_ones ++ vertex ∷ []) j v → ((l : ℕ) (b : Block) → At (blocks ++ new ∷ []) l b → b.open ≤ i → b.open ≤ j) → Reaches graph u v
  joined u v i j hu hv before = cases (push_cases open_ones vertex i u hu) (push_cases open_ones vertex j v hv)
    where
      cases : (At open_ones i u) ⊎ ((i ≡ length open_ones) × (u ≡ vertex)) → (At open_ones j v) ⊎ ((j ≡ length open_ones) × (v ≡ vertex)) → Reaches graph u v
      cases (inl a) (inl b) = w.joined u v i j a b (λ l c h. before l c (append_keeps blocks (new ∷ []) l c h))
      cases (inl a) (inr b) = subst (λ x. Reaches graph u x) (sym b.1) (reached u i a)
      cases (inr a) (inl b) =
          let r = within open_ones j v b in
          let le = before (length blocks) new (push_new blocks new) (omega (arith, a.0, new_open)) in
          absurd (omega (arith, r, le, new_open))
      cases (inr a) (inr b) = subst (λ x. Reaches graph u x) (sym b.1) (subst (λ x. Reaches graph x vertex) (sym a.1) Reaches.here)

  source : (k v : ℕ) → At (pending ++ row) k v → Source graph (open_ones ++ vertex ∷ []) (blocks ++ new ∷ []) k v
  source k v h = cases (append_cases pending row k v h)
    where
      old_inside : (s : Source graph open_ones blocks k v) → k < length pending → (l : ℕ) (b : Block) → (At blocks l b) ⊎ ((l ≡ length blocks) × (b ≡ new)) → b.pending ≤ k → b.open ≤ s.at
      old_inside s lt l b (inl a) le = s.inside l b a le
      old_inside s lt l b (inr e) le = let at : new.pending ≤ k = subst (λ c. c.pending ≤ k) e.1 le in absurd (omega (arith, at, lt, new_pending))

      old_outside : (s : Source graph open_ones blocks k v) → (l : ℕ) (b : Block) → (At blocks l b) ⊎ ((l ≡ length blocks) × (b ≡ new)) → k < b.pending → s.at < b.open
      old_outside s l b (inl a) lt = s.outside l b a lt
      old_outside s l b (inr e) lt = subst (λ c. s.at < c.open) (sym e.1) (omega (arith, within open_ones s.at s.from s.is_open, new_open))

      cases : (At pending k v) ⊎ ((j : ℕ) × (k ≡ length pending + j) × At row j v) → Source graph (open_ones ++ vertex ∷ []) (blocks ++ new ∷ []) k v
      cases (inl o) =
          let s = w.source k v o in
          record {
            from = s.from;
            at = s.at;
            is_open = append_keeps open_ones (vertex ∷ []) s.at s.from s.is_open;
            edge = s.edge;
            inside = λ l b a. old_inside s (within pending k v o) l b (push_cases blocks new l b a);
            outside = λ l b a. old_outside s l b (push_cases blocks new l b a);
          }
      cases (inr n) = record {
        from = vertex;
        at = length open_ones;
        is_open = push_new open_ones vertex;
        edge = edge_to n.0 v n.2;
        inside = λ l b a le. (low l b a).0;
        outside = λ l b a lt. absurd (omega (arith, (low l b a).1, lt, n.1));
      }

  rising : (l m : ℕ) (b c : Block) → At (blocks ++ new ∷ []) l b → At (blocks ++ new ∷ []) m c → l < m → (b.open < c.open) × (b.pending ≤ c.pending)
  rising l m b c hb hc lt = cases (push_cases blocks new l b hb) (push_cases blocks new m c hc)
    where
      cases : (At blocks l b) ⊎ ((l ≡ length blocks) × (b ≡ new)) → (At blocks m c) ⊎ ((m ≡ length blocks) × (c ≡ new)) → (b.open < c.open) × (b.pending ≤ c.pending)
      cases (inl x) (inl y) = w.rising l m b c x y lt
      cases (inl x) (inr y) =
          let r = w.begins l b x in
          subst (λ d. (b.open < d.open) × (b.pending ≤ d.pending)) (sym y.1) (omega (arith, r.0, new_open), omega (arith, r.1, new_pending))
      cases (inr x) (inl y) = absurd (omega (arith, within blocks m c y, x.0, lt))
      cases (inr x) (inr y) = absurd (omega (arith, x.0, y.0, lt))

  begins : (l : ℕ) (b : Block) → At (blocks ++ new ∷ []) l b → (b.open < length (open_ones ++ vertex ∷ [])) × (b.pending ≤ length (pending ++ row))
  begins l b h = let r = low l b h in (omega (arith, r.0, length_push open_ones vertex), omega (arith, r.1, length-append pending row))

  covered : (i : ℕ) → i < length (open_ones ++ vertex ∷ []) → (l : ℕ) × (b : Block) × At (blocks ++ new ∷ []) l b × (b.open ≤ i)
  covered i lt = elim (cases_lt i (length open_ones)) [
    | inl old ↦ let c = w.covered i old in (c.0, c.1, append_keeps blocks (new ∷ []) c.0 c.1 c.2, c.3)
    | inr ge ↦ (length blocks, new, push_new blocks new, omega (arith, ge, new_open))
  ]

-- the work that a vertex takes away when it is seen
pub less_work : (graph : List (List ℕ)) (places : List (Option ℕ)) (vertex i : ℕ) (row : List ℕ) → At places vertex None → At graph vertex row → (2 + length row) + unseen_work graph (set places vertex (Some i)) ≡ unseen_work graph places
less_work [] places vertex i row h r = absurd (cc)
less_work (g ∷ graph) [] vertex i row h r = absurd (cc)
less_work (g ∷ graph) (None ∷ places) zero i row h r = let s : row ≡ g = first_same r in omega (arith, ap length s)
  where
    first_same : {a b : List ℕ} → Option.Some a ≡ Option.Some b → b ≡ a
    first_same = λ e. cc
less_work (g ∷ graph) (Some j ∷ places) zero i row h r = absurd (cc)
less_work (g ∷ graph) (None ∷ places) (suc vertex) i row h r = omega (arith, less_work graph places vertex i row h r)
less_work (g ∷ graph) (Some j ∷ places) (suc vertex) i row h r = less_work graph places vertex i row h r
