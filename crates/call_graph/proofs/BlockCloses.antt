-- The last block, from which no edge is left to follow, becomes a group.
use Rattle.std.proofs.Common.{◌≡◌, ◌⊎◌, inl, inr, ℕ, ◌<◌, ◌≤◌, ◌+◌, ◌-◌, List, [], ◌∷◌, ◌++◌, length, Option, Some, take, drop, refl, arith, subst}
use Rattle.std.proofs.lemmas.List.{length-take}
use Rattle.std.proofs.lemmas.Bool.{cases_lt}
use Rattle.call_graph.specs.Graphs.{At, Edge, Reaches}
use Rattle.call_graph.specs.Components.{Stands, InGroup}
use Rattle.call_graph.specs.Walks.{IsWalk, IsMet, Source}
use Rattle.call_graph.specs.declared.walks.Block.{Block}
use Rattle.call_graph.proofs.Lists.{within, take_at, take_keeps, drop_at, drop_keeps}
use Rattle.call_graph.proofs.Blocks.{kept_at, last_or_before, below_last, at_most_last, open_once, in_old, in_new, in_either, in_range}

pub closed : (graph : List (List ℕ)) (places : List (Option ℕ)) (open_ones pending : List ℕ) (blocks : List Block) (groups : List (List ℕ)) → IsWalk graph places open_ones pending blocks groups →
    (top : Block) → At blocks (length blocks - 1) top → length pending ≡ top.pending →
    IsWalk graph places (take top.open open_ones) pending (take (length blocks - 1) blocks) (groups ++ drop top.open open_ones ∷ [])
closed graph places open_ones pending blocks groups w top last followed = record {
  sized = w.sized;
  placed = λ v i h. w.placed v i (take_at top.open open_ones i v h).1;
  seen = seen;
  grouped = λ v k s. grouped v k s.0 (in_either groups (drop top.open open_ones) k s.0 v s.1);
  apart = λ v k i s h. apart v k i s.0 (in_either groups (drop top.open open_ones) k s.0 v s.1) h;
  once = λ v j k p q s t. once v j k p q (in_either groups (drop top.open open_ones) j p v s) (in_either groups (drop top.open open_ones) k q v t);
  mutual_reach = λ u v k s t. mutual_reach u v k s.0 t.0 (in_either groups (drop top.open open_ones) k s.0 u s.1) (in_either groups (drop top.open open_ones) k t.0 v t.1);
  order = λ u v k s e. order u v k s.0 e (in_either groups (drop top.open open_ones) k s.0 u s.1);
  leads = leads;
  joined = joined;
  source = source;
  rising = λ l m b c h k. w.rising l m b c (kept_at blocks l b h) (kept_at blocks m c k);
  begins = begins;
  covered = covered;
} where
  group_at : (v i : ℕ) → At open_ones i v → top.open ≤ i → (k : ℕ) × (p : ℕ) × Stands (groups ++ drop top.open open_ones ∷ []) k p v × (k ≡ length groups)
  group_at v i h le = (length groups, i - top.open, in_new groups (drop top.open open_ones) (i - top.open) v (drop_keeps top.open open_ones (i - top.open) i v (omega arith) h), refl)

  in_block : (v p : ℕ) → At (drop top.open open_ones) p v → At open_ones (top.open + p) v
  in_block v p h = drop_at top.open open_ones p (top.open + p) v refl h

  either : (v i : ℕ) → At open_ones i v → (At (take top.open open_ones) i v) ⊎ ((k : ℕ) × InGroup (groups ++ drop top.open open_ones ∷ []) k v)
  either v i h = elim (cases_lt i top.open) [
    | inl lt ↦ inl (take_keeps top.open open_ones i v lt h)
    | inr ge ↦ let g = group_at v i h ge in inr (g.0, (g.1, g.2))
  ]

  seen : (v i : ℕ) → At places v (Some i) → At (take top.open open_ones) i v ⊎ ((k : ℕ) × InGroup (groups ++ drop top.open open_ones ∷ []) k v)
  seen v i h = elim (w.seen v i h) [
    | inl o ↦ either v i o
    | inr g ↦ inr (g.0, (g.1.0, in_old groups (drop top.open open_ones) g.0 g.1.0 v g.1.1))
  ]

  grouped : (v k p : ℕ) → (Stands groups k p v) ⊎ ((k ≡ length groups) × At (drop top.open open_ones) p v) → (i : ℕ) × At places v (Some i)
  grouped v k p (inl s) = w.grouped v k (p, s)
  grouped v k p (inr s) = (top.open + p, w.placed v (top.open + p) (in_block v p s.1))

  apart : (v k i p : ℕ) → (Stands groups k p v) ⊎ ((k ≡ length groups) × At (drop top.open open_ones) p v) → At (take top.open open_ones) i v → ⊥
  apart v k i p (inl s) h = w.apart v k i (p, s) (take_at top.open open_ones i v h).1
  apart v k i p (inr s) h =
      let t = take_at top.open open_ones i v h in
      let same = open_once graph places open_ones pending blocks groups w v i (top.open + p) t.1 (in_block v p s.1) in
      omega (arith, same, t.0)

  once : (v j k p q : ℕ) → (Stands groups j p v) ⊎ ((j ≡ length groups) × At (drop top.open open_ones) p v) → (Stands groups k q v) ⊎ ((k ≡ length groups) × At (drop top.open open_ones) q v) → (j ≡ k) × (p ≡ q)
  once v j k p q (inl s) (inl t) = w.once v j k p q s t
  once v j k p q (inl s) (inr t) = absurd (w.apart v j (top.open + q) (p, s) (in_block v q t.1))
  once v j k p q (inr s) (inl t) = absurd (w.apart v k (top.open + p) (q, t) (in_block v p s.1))
  once v j k p q (inr s) (inr t) =
      let same = open_once graph places open_ones pending blocks groups w v (top.open + p) (top.open + q) (in_block v p s.1) (in_block v q t.1) in
      (omega (arith, s.0, t.0), omega (arith, same))

  mutual_reach : (u v k p q : ℕ) → (Stands groups k p u) ⊎ ((k ≡ length groups) × At (drop top.open open_ones) p u) → (Stands groups k q v) ⊎ ((k ≡ length groups) × At (drop top.open open_ones) q v) → Reaches graph u v
  mutual_reach u v k p q (inl s) (inl t) = w.mutual_reach u v k (p, s) (q, t)
  mutual_reach u v k p q (inl s) (inr t) = absurd (omega (arith, in_range groups k p u s, t.0))
  mutual_reach u v k p q (inr s) (inl t) = absurd (omega (arith, in_range groups k q v t, s.0))
  mutual_reach u v k p q (inr s) (inr t) =
      w.joined u v (top.open + p) (top.open + q) (in_block u p s.1) (in_block v q t.1)
      (λ l b h le. let most = at_most_last graph places open_ones pending blocks groups w top last l b h in omega (arith, most.0))

  order : (u v k p : ℕ) → Edge graph u v → (Stands groups k p u) ⊎ ((k ≡ length groups) × At (drop top.open open_ones) p u) → (j : ℕ) × (j ≤ k) × InGroup (groups ++ drop top.open open_ones ∷ []) j v
  order u v k p e (inl s) =
      let o = w.order u v k (p, s) e in
      (o.0, o.1, (o.2.0, in_old groups (drop top.open open_ones) o.0 o.2.0 v o.2.1))
  order u v k p e (inr s) = elim (w.leads (length blocks - 1) top u (top.open + p) v last (in_block u p s.1) (omega arith) e) [
    | inl g ↦ (g.0, omega (arith, in_range groups g.0 g.1.0 v g.1.1, s.0), (g.1.0, in_old groups (drop top.open open_ones) g.0 g.1.0 v g.1.1))
    | inr o ↦ elim o [
      | inl j ↦ let n = group_at v j.0 j.2 j.1 in (n.0, omega (arith, n.3, s.0), (n.1, n.2))
      | inr q ↦ absurd (omega (arith, within pending q.0 v q.2, q.1, followed))
    ]
  ]

  leads : (l : ℕ) (b : Block) (u i x : ℕ) → At (take (length blocks - 1) blocks) l b → At (take top.open open_ones) i u → b.open ≤ i → Edge graph u x → IsMet (take top.open open_ones) pending (groups ++ drop top.open open_ones ∷ []) b x
  leads l b u i x hb hu le e = elim (w.leads l b u i x (kept_at blocks l b hb) (take_at top.open open_ones i u hu).1 le e) [
    | inl g ↦ inl (g.0, (g.1.0, in_old groups (drop top.open open_ones) g.0 g.1.0 x g.1.1))
    | inr o ↦ elim o [
      | inl j ↦ elim (either x j.0 j.2) [ inl a ↦ inr (inl (j.0, j.1, a)) | inr g ↦ inl g ]
      | inr q ↦ inr (inr q)
    ]
  ]

  joined : (u x i k : ℕ) → At (take top.open open_ones) i u → At (take top.open open_ones) k x → ((l : ℕ) (b : Block) → At (take (length blocks - 1) blocks) l b → b.open ≤ i → b.open ≤ k) → Reaches graph u x
  joined u x i k hu hx before =
      let tu = take_at top.open open_ones i u hu in
      let tx = take_at top.open open_ones k x hx in
      w.joined u x i k tu.1 tx.1 (λ l b a le. each tu.0 l b le (last_or_before blocks top last l b a))
    where
      each : i < top.open → (l : ℕ) (b : Block) → b.open ≤ i → (At (take (length blocks - 1) blocks) l b) ⊎ ((l ≡ length blocks - 1) × (b ≡ top)) → b.open ≤ k
      each lt l b le (inl kept) = before l b kept le
      each lt l b le (inr e) = let le_top : top.open ≤ i = subst (λ c. c.open ≤ i) e.1 le in absurd (omega (arith, le_top, lt))

  source : (k x : ℕ) → At pending k x → Source graph (take top.open open_ones) (take (length blocks - 1) blocks) k x
  source k x h =
      let s = w.source k x h in
      let low = s.outside (length blocks - 1) top last (omega (arith, within pending k x h, followed)) in
      record { from = s.from; at = s.at; is_open = take_keeps top.open open_ones s.at s.from low s.is_open; edge = s.edge; inside = λ l b a. s.inside l b (kept_at blocks l b a); outside = λ l b a. s.outside l b (kept_at blocks l b a) }

  size : length (take top.open open_ones) ≡ top.open
  size = omega (arith, length-take top.open open_ones, (w.begins (length blocks - 1) top last).0)

  begins : (l : ℕ) (b : Block) → At (take (length blocks - 1) blocks) l b → (b.open < length (take top.open open_ones)) × (b.pending ≤ length pending)
  begins l b h =
      let r = below_last graph places open_ones pending blocks groups w top last l b h in
      (omega (arith, r.0, length-take top.open open_ones, (w.begins (length blocks - 1) top last).0), (w.begins l b (kept_at blocks l b h)).1)

  covered : (i : ℕ) → i < length (take top.open open_ones) → (l : ℕ) × (b : Block) × At (take (length blocks - 1) blocks) l b × (b.open ≤ i)
  covered i lt = under i (omega (arith, lt, length-take top.open open_ones, (w.begins (length blocks - 1) top last).0)) (w.covered i (omega (arith, lt, length-take top.open open_ones, (w.begins (length blocks - 1) top last).0)))
    where
      under : (i : ℕ) → i < top.open → (l : ℕ) × (b : Block) × At blocks l b × (b.open ≤ i) → (l : ℕ) × (b : Block) × At (take (length blocks - 1) blocks) l b × (b.open ≤ i)
      under i lt c = elim (last_or_before blocks top last c.0 c.1 c.2) [
        | inl kept ↦ (c.0, c.1, kept, c.3)
        | inr e ↦ let le_top : top.open ≤ i = subst (λ b. b.open ≤ i) e.1 c.3 in absurd (omega (arith, le_top, lt))
      ]
