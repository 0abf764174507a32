-- Two blocks that reach each other become one.
use Rattle.std.proofs.Common.{◌≡◌, ◌⊎◌, inl, inr, ℕ, ◌<◌, ◌≤◌, ◌-◌, List, length, Option, take, sym, arith, subst}
use Rattle.std.proofs.lemmas.Bool.{cases_lt}
use Rattle.call_graph.specs.Graphs.{At, Reaches}
use Rattle.call_graph.specs.Walks.{IsWalk, Source}
use Rattle.call_graph.specs.declared.walks.Block.{Block}
use Rattle.call_graph.proofs.Lists.{within}
use Rattle.call_graph.proofs.Blocks.{kept_at, last_or_before, below_last, at_most_last, reaches_by}

-- each open vertex reaches the last pending one
pub all_reach : (graph : List (List ℕ)) (places : List (Option ℕ)) (open_ones pending : List ℕ) (blocks : List Block) (groups : List (List ℕ)) → IsWalk graph places open_ones pending blocks groups →
    (top : Block) → At blocks (length blocks - 1) top → (v : ℕ) → At pending (length pending - 1) v → top.pending < length pending →
    (u i : ℕ) → At open_ones i u → Reaches graph u v
all_reach graph places open_ones pending blocks groups w top last v is_last more u i h =
    let s = w.source (length pending - 1) v is_last in
    reaches_by (w.joined u s.from i s.at h s.is_open (λ l b a le. s.inside l b a (pending_below l b a))) (Reaches.onward s.edge Reaches.here)
  where
    pending_below : (l : ℕ) (b : Block) → At blocks l b → b.pending ≤ length pending - 1
    pending_below l b a = let most = at_most_last graph places open_ones pending blocks groups w top last l b a in omega (arith, most.1, more)

-- the last pending vertex stands in an earlier block, to which the last block now belongs
pub united : (graph : List (List ℕ)) (places : List (Option ℕ)) (open_ones pending : List ℕ) (blocks : List Block) (groups : List (List ℕ)) → IsWalk graph places open_ones pending blocks groups →
    (top : Block) → At blocks (length blocks - 1) top → (v : ℕ) → At pending (length pending - 1) v → top.pending < length pending →
    (j : ℕ) → At open_ones j v → j < top.open →
    IsWalk graph places open_ones pending (take (length blocks - 1) blocks) groups
united graph places open_ones pending blocks groups w top last v is_last more j at_j below = record {
  sized = w.sized;
  placed = w.placed;
  seen = w.seen;
  grouped = w.grouped;
  apart = w.apart;
  once = w.once;
  mutual_reach = w.mutual_reach;
  order = w.order;
  leads = λ l b u i x h. w.leads l b u i x (kept_at blocks l b h);
  joined = joined;
  source = source;
  rising = λ l m b c h k. w.rising l m b c (kept_at blocks l b h) (kept_at blocks m c k);
  begins = λ l b h. w.begins l b (kept_at blocks l b h);
  covered = covered;
} where
  source : (k x : ℕ) → At pending k x → Source graph open_ones (take (length blocks - 1) blocks) k x
  source k x h =
      let s = w.source k x h in
      record { from = s.from; at = s.at; is_open = s.is_open; edge = s.edge; inside = λ l b a. s.inside l b (kept_at blocks l b a); outside = λ l b a. s.outside l b (kept_at blocks l b a) }

  to_end : (u i : ℕ) → At open_ones i u → Reaches graph u v
  to_end u i h = all_reach graph places open_ones pending blocks groups w top last v is_last more u i h

  -- a vertex of the earlier block reaches what that block and the later ones reach
  from_end : (x i k : ℕ) → At open_ones k x → top.open ≤ i → ((l : ℕ) (b : Block) → At (take (length blocks - 1) blocks) l b → b.open ≤ i → b.open ≤ k) → Reaches graph v x
  from_end x i k h above before = w.joined v x j k at_j h (λ l b a le. each l b a le (last_or_before blocks top last l b a))
    where
      each : (l : ℕ) (b : Block) → At blocks l b → b.open ≤ j → (At (take (length blocks - 1) blocks) l b) ⊎ ((l ≡ length blocks - 1) × (b ≡ top)) → b.open ≤ k
      each l b a le (inl kept) =
          let r = below_last graph places open_ones pending blocks groups w top last l b kept in
          before l b kept (omega (arith, r.0, above))
      each l b a le (inr e) =
          let le_top : top.open ≤ j = subst (λ c. c.open ≤ j) e.1 le in
          absurd (omega (arith, le_top, below))

  joined_low : (u x i k : ℕ) → At open_ones i u → At open_ones k x → ((l : ℕ) (b : Block) → At (take (length blocks - 1) blocks) l b → b.open ≤ i → b.open ≤ k) → (top.open ≤ i → top.open ≤ k) → Reaches graph u x
  joined_low u x i k hu hx before at_top = w.joined u x i k hu hx (λ l b a. each l b (last_or_before blocks top last l b a))
    where
      each : (l : ℕ) (b : Block) → (At (take (length blocks - 1) blocks) l b) ⊎ ((l ≡ length blocks - 1) × (b ≡ top)) → b.open ≤ i → b.open ≤ k
      each l b (inl kept) le = before l b kept le
      each l b (inr e) le = subst (λ c. c.open ≤ k) (sym e.1) (at_top (subst (λ c. c.open ≤ i) e.1 le))

  joined : (u x i k : ℕ) → At open_ones i u → At open_ones k x → ((l : ℕ) (b : Block) → At (take (length blocks - 1) blocks) l b → b.open ≤ i → b.open ≤ k) → Reaches graph u x
  joined u x i k hu hx before = elim (cases_lt i top.open) [
    | inl lt ↦ joined_low u x i k hu hx before (λ le. absurd (omega arith))
    | inr ge ↦ reaches_by (to_end u i hu) (from_end x i k hx ge before)
  ]

  covered : (i : ℕ) → i < length open_ones → (l : ℕ) × (b : Block) × At (take (length blocks - 1) blocks) l b × (b.open ≤ i)
  covered i lt =
      let c = w.covered i lt in
      elim (last_or_before blocks top last c.0 c.1 c.2) [
        | inl kept ↦ (c.0, c.1, kept, c.3)
        | inr e ↦ under i (subst (λ b. b.open ≤ i) e.1 c.3) (w.covered j (within open_ones j v at_j))
      ]
    where
      under : (i : ℕ) → top.open ≤ i → (l : ℕ) × (b : Block) × At blocks l b × (b.open ≤ j) → (l : ℕ) × (b : Block) × At (take (length blocks - 1) blocks) l b × (b.open ≤ i)
      under i le c = elim (last_or_before blocks top last c.0 c.1 c.2) [
        | inl kept ↦ (c.0, c.1, kept, omega (arith, c.3, le, below))
        | inr e ↦ let le_top : top.open ≤ j = subst (λ b. b.open ≤ j) e.1 c.3 in absurd (omega (arith, le_top, below))
      ]
