-- How a walk begins, and what it comes to.
use Rattle.std.proofs.Common.{◌≡◌, inl, inr, ℕ, ◌<◌, ◌≤◌, List, [], ◌∷◌, length, Option, Some, refl, arith}
use Rattle.call_graph.specs.Graphs.{At, Reaches}
use Rattle.call_graph.specs.Components.{InGroup, AreComponents}
use Rattle.call_graph.specs.Walks.{IsWalk}
use Rattle.call_graph.proofs.Lists.{within}

nothing_at : {X : Type 0} {x : X} → Option.None ≡ Option.Some x → ⊥
nothing_at h = absurd (cc)

-- without blocks no vertex is open
pub none_open : (graph : List (List ℕ)) (places : List (Option ℕ)) (open_ones pending : List ℕ) (groups : List (List ℕ)) → IsWalk graph places open_ones pending [] groups → (i v : ℕ) → At open_ones i v → ⊥
none_open graph places open_ones pending groups w i v h = let c = w.covered i (within open_ones i v h) in nothing_at c.2

pub nothing_seen : (graph : List (List ℕ)) (places : List (Option ℕ)) → length places ≡ length graph → ((v i : ℕ) → At places v (Some i) → ⊥) → IsWalk graph places [] [] [] []
nothing_seen graph places size unseen = record {
  sized = size;
  placed = λ v i h. absurd (nothing_at h);
  seen = λ v i h. absurd (unseen v i h);
  grouped = λ v k g. absurd (nothing_at g.1.is_there);
  apart = λ v k i g h. nothing_at h;
  once = λ v j k p q s t. absurd (nothing_at s.is_there);
  mutual_reach = λ u v k s t. absurd (nothing_at s.1.is_there);
  order = λ u v k s e. absurd (nothing_at s.1.is_there);
  leads = λ l b u i v h. absurd (nothing_at h);
  joined = λ u v i j h. absurd (nothing_at h);
  source = λ k v h. absurd (nothing_at h);
  rising = λ l m b c h. absurd (nothing_at h);
  begins = λ l b h. absurd (nothing_at h);
  covered = λ i lt. absurd (omega arith);
}

later_groups : (graph : List (List ℕ)) (places : List (Option ℕ)) (open_ones pending : List ℕ) (groups : List (List ℕ)) → IsWalk graph places open_ones pending [] groups →
    (u v j k : ℕ) → InGroup groups j u → InGroup groups k v → Reaches graph u v → k ≤ j
later_groups graph places open_ones pending groups w u v j k g h Reaches.here = let same = w.once u j k g.0 h.0 g.1 h.1 in omega (arith, same.0)
later_groups graph places open_ones pending groups w u v j k g h (Reaches.onward {v = x} e p) =
    let o = w.order u x j g e in
    let rest = later_groups graph places open_ones pending groups w x v o.0 k o.2 h p in
    omega (arith, o.1, rest)

pub finished : (graph : List (List ℕ)) (places : List (Option ℕ)) (open_ones pending : List ℕ) (groups : List (List ℕ)) → IsWalk graph places open_ones pending [] groups →
    ((v : ℕ) → v < length graph → (i : ℕ) × At places v (Some i)) → AreComponents graph groups
finished graph places open_ones pending groups w all_seen = record {
  all = λ v lt. let s = all_seen v lt in elim (w.seen v s.0 s.1) [ inl o ↦ absurd (none_open graph places open_ones pending groups w s.0 v o) | inr g ↦ g ];
  once = w.once;
  within = λ v k g. let p = w.grouped v k g in let lt = within places v (Some p.0) p.1 in omega (arith, lt, w.sized);
  mutual_reach = w.mutual_reach;
  order = later_groups graph places open_ones pending groups w;
}

pub no_elements : {X : Type 0} (xs : List X) → length xs ≡ 0 → xs ≡ []
no_elements [] h = refl
no_elements (x ∷ xs) h = absurd (omega arith)
