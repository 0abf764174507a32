-- Each step of a walk keeps what holds of it.
use Rattle.std.proofs.Common.{◌≡◌, ◌⊎◌, inl, inr, ℕ, ◌<◌, ◌≤◌, ◌-◌, List, [], ◌∷◌, ◌++◌, length, Option, Some, take, sym, arith, subst}
use Rattle.std.proofs.lemmas.List.{length-take}
use Rattle.std.proofs.lemmas.Bool.{cases_lt}
use Rattle.call_graph.specs.Graphs.{At, Edge, Reaches}
use Rattle.call_graph.specs.Components.{Stands, InGroup}
use Rattle.call_graph.specs.Walks.{IsWalk, IsMet, Source}
use Rattle.call_graph.specs.declared.walks.Block.{Block}
use Rattle.call_graph.proofs.Lists.{within, same_at, append_keeps, push_new, push_cases, take_at, take_keeps}

pub reaches_by : {graph : List (List ℕ)} {u v w : ℕ} → Reaches graph u v → Reaches graph v w → Reaches graph u w
reaches_by Reaches.here r = r
reaches_by (Reaches.onward e p) r = Reaches.onward e (reaches_by p r)

pub some_same : {i j : ℕ} → Option.Some i ≡ Option.Some j → i ≡ j
some_same e = cc

-- an open vertex stands at one place
pub open_once : (graph : List (List ℕ)) (places : List (Option ℕ)) (open_ones pending : List ℕ) (blocks : List Block) (groups : List (List ℕ)) → IsWalk graph places open_ones pending blocks groups →
    (v i j : ℕ) → At open_ones i v → At open_ones j v → i ≡ j
open_once graph places open_ones pending blocks groups w v i j a b = some_same (same_at places v (Some i) (Some j) (w.placed v i a) (w.placed v j b))

pub in_old : (groups : List (List ℕ)) (group : List ℕ) (k p v : ℕ) → Stands groups k p v → Stands (groups ++ group ∷ []) k p v
in_old groups group k p v s = record { group = s.group; is_there = append_keeps groups (group ∷ []) k s.group s.is_there; stands = s.stands }

pub in_new : (groups : List (List ℕ)) (group : List ℕ) (p v : ℕ) → At group p v → Stands (groups ++ group ∷ []) (length groups) p v
in_new groups group p v h = record { group = group; is_there = push_new groups group; stands = h }

-- a vertex of one group more is in an old one or in the new one
pub in_either : (groups : List (List ℕ)) (group : List ℕ) (k p v : ℕ) → Stands (groups ++ group ∷ []) k p v → (Stands groups k p v) ⊎ ((k ≡ length groups) × At group p v)
in_either groups group k p v s = elim (push_cases groups group k s.group s.is_there) [
  | inl h ↦ inl (record { group = s.group; is_there = h; stands = s.stands })
  | inr h ↦ inr (h.0, subst (λ g. At g p v) h.1 s.stands)
]

pub in_range : (groups : List (List ℕ)) (k p v : ℕ) → Stands groups k p v → k < length groups
in_range groups k p v s = within groups k s.group s.is_there

-- the last block is one of those that stay, or the last
pub last_or_before : (blocks : List Block) (top : Block) → At blocks (length blocks - 1) top → (l : ℕ) (b : Block) → At blocks l b → (At (take (length blocks - 1) blocks) l b) ⊎ ((l ≡ length blocks - 1) × (b ≡ top))
last_or_before blocks top last l b h = elim (cases_lt l (length blocks - 1)) [
  | inl lt ↦ inl (take_keeps (length blocks - 1) blocks l b lt h)
  | inr ge ↦
      let r = within blocks l b h in
      let e : l ≡ length blocks - 1 = omega arith in
      inr (e, same_at blocks (length blocks - 1) b top (subst (λ m. At blocks m b) e h) last)
]

-- a block that stays begins below the last one
pub below_last : (graph : List (List ℕ)) (places : List (Option ℕ)) (open_ones pending : List ℕ) (blocks : List Block) (groups : List (List ℕ)) → IsWalk graph places open_ones pending blocks groups →
    (top : Block) → At blocks (length blocks - 1) top → (l : ℕ) (b : Block) → At (take (length blocks - 1) blocks) l b → (b.open < top.open) × (b.pending ≤ top.pending)
below_last graph places open_ones pending blocks groups w top last l b h =
    let r = take_at (length blocks - 1) blocks l b h in w.rising l (length blocks - 1) b top r.1 last r.0

-- no block begins above the last one
pub at_most_last : (graph : List (List ℕ)) (places : List (Option ℕ)) (open_ones pending : List ℕ) (blocks : List Block) (groups : List (List ℕ)) → IsWalk graph places open_ones pending blocks groups →
    (top : Block) → At blocks (length blocks - 1) top → (l : ℕ) (b : Block) → At blocks l b → (b.open ≤ top.open) × (b.pending ≤ top.pending)
at_most_last graph places open_ones pending blocks groups w top last l b h = elim (last_or_before blocks top last l b h) [
  | inl k ↦ let r = below_last graph places open_ones pending blocks groups w top last l b k in (omega (arith, r.0), r.1)
  | inr k ↦ subst (λ c. (c.open ≤ top.open) × (c.pending ≤ top.pending)) (sym k.1) (omega arith, omega arith)
]

-- what is left of a longer list
pub kept_at : (blocks : List Block) (l : ℕ) (b : Block) → At (take (length blocks - 1) blocks) l b → At blocks l b
kept_at blocks l b h = (take_at (length blocks - 1) blocks l b h).1

-- ---- an edge whose end is done or open in the last block is passed
pub passed : (graph : List (List ℕ)) (places : List (Option ℕ)) (open_ones pending : List ℕ) (blocks : List Block) (groups : List (List ℕ)) → IsWalk graph places open_ones pending blocks groups →
    (top : Block) → At blocks (length blocks - 1) top → (v : ℕ) → At pending (length pending - 1) v → top.pending < length pending →
    ((k : ℕ) × InGroup groups k v) ⊎ ((j : ℕ) × (top.open ≤ j) × At open_ones j v) →
    IsWalk graph places open_ones (take (length pending - 1) pending) blocks groups
passed graph places open_ones pending blocks groups w top last v is_last more met = record {
  sized = w.sized;
  placed = w.placed;
  seen = w.seen;
  grouped = w.grouped;
  apart = w.apart;
  once = w.once;
  mutual_reach = w.mutual_reach;
  order = w.order;
  leads = leads;
  joined = w.joined;
  source = source;
  rising = w.rising;
  begins = begins;
  covered = w.covered;
} where
  rest : List ℕ
  rest = take (length pending - 1) pending

  by_last : (b : Block) → b.open ≤ top.open → IsMet open_ones (take (length pending - 1) pending) groups b v
  by_last b h = elim met [ inl g ↦ inl g | inr o ↦ inr (inl (o.0, omega (arith, o.1), o.2)) ]

  at_place : (b : Block) (x k : ℕ) → b.open ≤ top.open → b.pending ≤ k → At pending k x → IsMet open_ones (take (length pending - 1) pending) groups b x
  at_place b x k h p a = elim (cases_lt k (length pending - 1)) [
    | inl lt ↦ inr (inr (k, p, take_keeps (length pending - 1) pending k x lt a))
    | inr ge ↦
        let r = within pending k x a in
        let e : k ≡ length pending - 1 = omega arith in
        let s : v ≡ x = same_at pending (length pending - 1) v x is_last (subst (λ m. At pending m x) e a) in
        subst (λ y. IsMet open_ones (take (length pending - 1) pending) groups b y) s (by_last b h)
  ]

  leads : (l : ℕ) (b : Block) (u i x : ℕ) → At blocks l b → At open_ones i u → b.open ≤ i → Edge graph u x → IsMet open_ones (take (length pending - 1) pending) groups b x
  leads l b u i x hb hu le e =
      let most = at_most_last graph places open_ones pending blocks groups w top last l b hb in
      elim (w.leads l b u i x hb hu le e) [
        | inl g ↦ inl g
        | inr o ↦ elim o [ inl j ↦ inr (inl j) | inr p ↦ at_place b x p.0 most.0 p.1 p.2 ]
      ]

  source : (k x : ℕ) → At (take (length pending - 1) pending) k x → Source graph open_ones blocks k x
  source k x h = w.source k x (take_at (length pending - 1) pending k x h).1

  begins : (l : ℕ) (b : Block) → At blocks l b → (b.open < length open_ones) × (b.pending ≤ length (take (length pending - 1) pending))
  begins l b h =
      let most = at_most_last graph places open_ones pending blocks groups w top last l b h in
      let size = length-take (length pending - 1) pending in
      ((w.begins l b h).0, omega (arith, size, most.1, more))
