-- What a step reads from the walk.
use Rattle.std.proofs.Common.{◌≡◌, ◌⊎◌, inl, inr, ℕ, ◌<◌, ◌≤◌, ◌-◌, List, length, Option, Some, take, refl, ◌∙◌, arith, subst, get_or}
use Rattle.std.proofs.lemmas.List.{length-take}
use Rattle.std.proofs.lemmas.Option.{slice_get_read, get_or_from_slice_get}
use Rattle.call_graph.specs.Graphs.{At, IsGraph}
use Rattle.call_graph.specs.Components.{InGroup}
use Rattle.call_graph.specs.Walks.{IsWalk, work}
use Rattle.call_graph.specs.declared.walks.Block.{Block}

pub last_at : {X : Type 0} (xs : List X) (n : ℕ) (x : X) → n ≡ length xs → 0 < length xs → x ≡ get_or xs (n - 1) x → At xs (length xs - 1) x
last_at xs n x size some e =
    let at : At xs (n - 1) x = slice_get_read xs n (n - 1) x size (omega arith) e in
    subst (λ m. At xs (m - 1) x) size at

pub read_at : {X : Type 0} (xs : List X) (k : ℕ) (read x : X) → k < length xs → read ≡ get_or xs k read → read ≡ x → At xs k x
read_at xs k read x lt e is = slice_get_read xs (length xs) k x refl lt (subst (λ r. r ≡ get_or xs k r) is e)

pub is_read : {X : Type 0} (xs : List X) (k : ℕ) (read x : X) → At xs k x → read ≡ get_or xs k read → read ≡ x
is_read xs k read x h e = e ∙ get_or_from_slice_get xs k x read h

pub pending_fits : (graph : List (List ℕ)) (places : List (Option ℕ)) (open_ones pending : List ℕ) (blocks : List Block) (groups : List (List ℕ)) → IsGraph graph → IsWalk graph places open_ones pending blocks groups →
    (k v : ℕ) → At pending k v → v < length places
pending_fits graph places open_ones pending blocks groups is_graph w k v h =
    let s = w.source k v h in
    let lt = is_graph s.from v s.edge in
    omega (arith, lt, w.sized)

-- where a vertex that was seen isn't open in an earlier block, it is done or open in the last one
pub met_late : (graph : List (List ℕ)) (places : List (Option ℕ)) (open_ones pending : List ℕ) (blocks : List Block) (groups : List (List ℕ)) → IsWalk graph places open_ones pending blocks groups →
    (top : Block) (v place : ℕ) → At places v (Some place) → top.open ≤ place → ((k : ℕ) × InGroup groups k v) ⊎ ((j : ℕ) × (top.open ≤ j) × At open_ones j v)
met_late graph places open_ones pending blocks groups w top v place h le = elim (w.seen v place h) [ inl o ↦ inr (place, le, o) | inr g ↦ inl g ]

pub met_done : (graph : List (List ℕ)) (places : List (Option ℕ)) (open_ones pending : List ℕ) (blocks : List Block) (groups : List (List ℕ)) → IsWalk graph places open_ones pending blocks groups →
    (top : Block) (v place : ℕ) → At places v (Some place) → (At open_ones place v → ⊥) → ((k : ℕ) × InGroup groups k v) ⊎ ((j : ℕ) × (top.open ≤ j) × At open_ones j v)
met_done graph places open_ones pending blocks groups w top v place h no_more = elim (w.seen v place h) [ inl o ↦ absurd (no_more o) | inr g ↦ inl g ]

pub less_pending : (graph : List (List ℕ)) (places : List (Option ℕ)) (pending : List ℕ) (blocks : List Block) (n : ℕ) → n < length pending → work graph places (take (length pending - 1) pending) blocks < work graph places pending blocks
less_pending graph places pending blocks n lt = omega (arith, length-take (length pending - 1) pending, lt)
