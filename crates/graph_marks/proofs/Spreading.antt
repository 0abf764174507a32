-- What a step of spreading keeps, and what holds at its end.
use Rattle.std.proofs.Common.{◌≡◌, ◌⊎◌, inl, inr, ◌↔◌, ℕ, zero, suc, ◌+◌, ◌<◌, Bool, true, false, List, [], ◌∷◌, ◌++◌, length, Option, Some, set, take, get_or, replicate, refl, sym, ap, ◌∙◌, arith, subst, length-append}
use Rattle.call_graph.proofs.Lists.{within, same_at, append_keeps, append_new, append_cases, push_new, push_cases, set_new, set_keeps, set_cases}
use Rattle.call_graph.specs.Graphs.{At, Edge, IsGraph}
use Rattle.graph_marks.specs.Marks.{Spreads, seed, passed, Stands, AreSeeds, IsSpread, unmarked_work, work}

true_false : {A : Type 0} (xs : List Bool) (v : ℕ) → At xs v true → At xs v false → A
true_false xs v h k = absurd (apart (same_at xs v true false h k))
  where
    apart : true ≡ false → ⊥
    apart = λ e. cc

pub read : {X : Type 0} (xs : List X) (k : ℕ) (d x : X) → k < length xs → get_or xs k d ≡ x → At xs k x
read [] k d x h e = absurd (omega (arith, h))
read (y ∷ xs) zero d x h e = ap Some e
read (y ∷ xs) (suc k) d x h e = read xs k d x (omega (arith, h)) e

-- a pending vertex is the last one, or an earlier one
last_cases : (pending : List ℕ) (v u : ℕ) → Stands (pending ++ v ∷ []) u → Stands pending u ⊎ (u ≡ v)
last_cases pending v u h = elim (push_cases pending v h.0 u h.1) [ inl a ↦ inl (h.0, a) | inr w ↦ inr w.1 ]

earlier : (pending : List ℕ) (v u : ℕ) → Stands pending u → Stands (pending ++ v ∷ []) u
earlier pending v u h = (h.0, append_keeps pending (v ∷ []) h.0 u h.1)

module _ (graph : List (List ℕ)) (seeds blocked marks : List Bool) (pending : List ℕ) (v : ℕ) (w : IsSpread graph seeds blocked marks (pending ++ v ∷ [])) where
  pub last_fits : v < length graph
  last_fits = w.in_graph v (length pending, push_new pending v)

  -- the last pending vertex is dropped where it is blocked or marked
  dropped : ((u : ℕ) → u ≡ v → At blocked u false → At marks u true) → IsSpread graph seeds blocked marks pending
  dropped there =
      record {
        sized = w.sized;
        in_graph = λ u h. w.in_graph u (earlier pending v u h);
        sound = w.sound;
        ready = λ u h free. w.ready u (earlier pending v u h) free;
        seeded = λ u s free. still u free (w.seeded u s free);
        closed = λ x u m e free. still u free (w.closed x u m e free);
      }
    where
      still : (u : ℕ) → At blocked u false → At marks u true ⊎ Stands (pending ++ v ∷ []) u → At marks u true ⊎ Stands pending u
      still u free (inl m) = inl m
      still u free (inr p) = elim (last_cases pending v u p) [ inl q ↦ inr q | inr same ↦ inl (there u same free) ]

  pub dropped_blocked : At blocked v true → IsSpread graph seeds blocked marks pending
  dropped_blocked h = dropped (λ u same free. true_false blocked v h (subst (λ x. At blocked x false) same free))

  pub dropped_marked : At marks v true → IsSpread graph seeds blocked marks pending
  dropped_marked h = dropped (λ u same free. subst (λ x. At marks x true) (sym same) h)

  -- or it is marked, and its successors are pending
  module _ (row : List ℕ) (is_row : At graph v row) (free : At blocked v false) (unmarked : At marks v false) (closed_graph : IsGraph graph) where
    is_new : At (set marks v true) v true
    is_new = set_new marks v true false unmarked

    marked_cases : (u : ℕ) → At (set marks v true) u true → (u ≡ v) ⊎ At marks u true
    marked_cases u h = elim (set_cases marks v true u true h) [ inl a ↦ inl a.0 | inr a ↦ inr a.1 ]

    keeps : (u : ℕ) → At marks u true → At (set marks v true) u true
    keeps u h = set_keeps marks v true u true (λ same. true_false marks v (subst (λ x. At marks x true) same h) unmarked) h

    edge_to : (k u : ℕ) → At row k u → Edge graph v u
    edge_to k u h = record { successors = row; is_there = is_row; place = k; leads = h }

    spread_here : Spreads graph seeds blocked v
    spread_here = w.ready v (length pending, push_new pending v) free

    row_stands : (u : ℕ) → Edge graph v u → Stands (pending ++ row) u
    row_stands u e =
        let same : e.successors ≡ row = same_at graph v e.successors row e.is_there is_row in
        (length pending + e.place, append_new pending row e.place (length pending + e.place) u refl (subst (λ r. At r e.place u) same e.leads))

    stand_cases : (u : ℕ) → Stands (pending ++ row) u → Stands pending u ⊎ Edge graph v u
    stand_cases u h = elim (append_cases pending row h.0 u h.1) [ inl a ↦ inl (h.0, a) | inr a ↦ inr (edge_to a.0 u a.2) ]

    still : (u : ℕ) → At marks u true ⊎ Stands (pending ++ v ∷ []) u → At (set marks v true) u true ⊎ Stands (pending ++ row) u
    still u (inl m) = inl (keeps u m)
    still u (inr p) =
        elim (last_cases pending v u p) [
          | inl q ↦ inr (q.0, append_keeps pending row q.0 u q.1)
          | inr same ↦ inl (subst (λ x. At (set marks v true) x true) (sym same) is_new)
        ]

    by_mark : (x u : ℕ) → (x ≡ v) ⊎ At marks x true → Edge graph x u → At blocked u false → At (set marks v true) u true ⊎ Stands (pending ++ row) u
    by_mark x u (inl same) e free' = inr (row_stands u (subst (λ y. Edge graph y u) same e))
    by_mark x u (inr m) e free' = still u (w.closed x u m e free')

    length_set : (xs : List Bool) (k : ℕ) (x : Bool) → length (set xs k x) ≡ length xs
    length_set [] k x = refl
    length_set (y ∷ xs) zero x = refl
    length_set (y ∷ xs) (suc k) x = let r = length_set xs k x in omega (arith, r)

    pub marked : IsSpread graph seeds blocked (set marks v true) (pending ++ row)
    marked =
        record {
          sized = length_set marks v true ∙ w.sized;
          in_graph = λ u h. elim (stand_cases u h) [ inl q ↦ w.in_graph u (earlier pending v u q) | inr e ↦ closed_graph v u e ];
          sound = λ u h. elim (marked_cases u h) [ inl same ↦ subst (Spreads graph seeds blocked) (sym same) spread_here | inr m ↦ w.sound u m ];
          ready = λ u h free'. elim (stand_cases u h) [ inl q ↦ w.ready u (earlier pending v u q) free' | inr e ↦ passed v u spread_here e free' ];
          seeded = λ u s free'. still u (w.seeded u s free');
          closed = λ x u m e free'. by_mark x u (marked_cases x m) e free';
        }

-- ---- the work

pub less_marked : (graph : List (List ℕ)) (marks : List Bool) (v : ℕ) (row : List ℕ) → At marks v false → At graph v row → (1 + length row) + unmarked_work graph (set marks v true) ≡ unmarked_work graph marks
less_marked [] marks v row h r = absurd (cc)
less_marked (g ∷ graph) [] v row h r = absurd (cc)
less_marked (g ∷ graph) (false ∷ marks) zero row h r = let s : row ≡ g = first_same r in omega (arith, ap length s)
  where
    first_same : {a b : List ℕ} → Option.Some a ≡ Option.Some b → b ≡ a
    first_same = λ e. cc
less_marked (g ∷ graph) (true ∷ marks) zero row h r = absurd (cc)
less_marked (g ∷ graph) (false ∷ marks) (suc v) row h r = omega (arith, less_marked graph marks v row h r)
less_marked (g ∷ graph) (true ∷ marks) (suc v) row h r = less_marked graph marks v row h r

-- ---- the beginning and the end

no_mark : (n v : ℕ) → At (replicate n false) v true → ⊥
no_mark zero v h = absurd (cc)
no_mark (suc n) zero h = absurd (cc)
no_mark (suc n) (suc v) h = no_mark n v h

length_replicate : (n : ℕ) → length (replicate n false) ≡ n
length_replicate zero = refl
length_replicate (suc n) = let r = length_replicate n in omega (arith, r)

pub begun : (graph : List (List ℕ)) (seeds blocked : List Bool) (n : ℕ) (pending : List ℕ) → n ≡ length graph → length seeds ≡ length graph → AreSeeds seeds pending → IsSpread graph seeds blocked (replicate n false) pending
begun graph seeds blocked n pending size sized are =
    record {
      sized = length_replicate n ∙ size;
      in_graph = λ v h. omega (arith, within seeds v true ((are v).0 h), sized);
      sound = λ v h. absurd (no_mark n v h);
      ready = λ v h free. seed v ((are v).0 h) free;
      seeded = λ v s free. inr ((are v).1 s);
      closed = λ v u m e free. absurd (no_mark n v m);
    }

none_stands : (v : ℕ) → Stands [] v → ⊥
none_stands v h = absurd (empty h.0 h.1)
  where
    empty : (k : ℕ) → Option.None ≡ Option.Some v → ⊥
    empty = λ k e. cc

pub no_pending : (items : List ℕ) → (0 < length items → ⊥) → items ≡ []
no_pending [] h = refl
no_pending (x ∷ xs) h = absurd (h (omega arith))

module _ (graph : List (List ℕ)) (seeds blocked marks : List Bool) (w : IsSpread graph seeds blocked marks []) where
  surely : (v : ℕ) → At marks v true ⊎ Stands [] v → At marks v true
  surely v (inl m) = m
  surely v (inr p) = absurd (none_stands v p)

  complete : (v : ℕ) → Spreads graph seeds blocked v → At marks v true
  complete v (seed u s free) = surely u (w.seeded u s free)
  complete v (passed x u h e free) = surely u (w.closed x u (complete x h) e free)

  pub ended : (v : ℕ) → At marks v true ↔ Spreads graph seeds blocked v
  ended v = (w.sound v, complete v)

-- ---- seeds

pub seeds_none : AreSeeds [] []
seeds_none v = (λ h. absurd (none_stands v h), λ h. absurd (empty h))
  where
    empty : Option.None ≡ Option.Some true → ⊥
    empty = λ e. cc

take_next : {X : Type 0} (xs : List X) (k : ℕ) (d : X) → k < length xs → take (k + 1) xs ≡ take k xs ++ get_or xs k d ∷ []
take_next xs k d h = let next : k + 1 ≡ suc k = omega arith in ap (λ n. take n xs) next ∙ by_suc xs k d h
  where
    by_suc : {X : Type 0} (xs : List X) (k : ℕ) (d : X) → k < length xs → take (suc k) xs ≡ take k xs ++ get_or xs k d ∷ []
    by_suc [] k d h = absurd (omega (arith, h))
    by_suc (x ∷ xs) zero d h = refl
    by_suc (x ∷ xs) (suc k) d h = ap (λ ys. x ∷ ys) (by_suc xs k d (omega (arith, h)))

length_take : {X : Type 0} (xs : List X) (k : ℕ) → k < length xs → length (take k xs) ≡ k
length_take [] k h = absurd (omega (arith, h))
length_take (x ∷ xs) zero h = refl
length_take (x ∷ xs) (suc k) h = let r = length_take xs k (omega (arith, h)) in omega (arith, r)

pub seeds_more : (seeds : List Bool) (k : ℕ) (vertices : List ℕ) → k < length seeds → get_or seeds k false ≡ true → AreSeeds (take k seeds) vertices → AreSeeds (take (k + 1) seeds) (vertices ++ k ∷ [])
seeds_more seeds k vertices lt is are v = (
  λ h. subst (λ s. At s v true) (sym (take_next seeds k false lt)) (elim (last_cases vertices k v h) [
    | inl q ↦ append_keeps (take k seeds) (get_or seeds k false ∷ []) v true ((are v).0 q)
    | inr same ↦ append_new (take k seeds) (get_or seeds k false ∷ []) 0 v true (let len = length_take seeds k lt in omega (arith, len, same)) (ap Some is)
  ]),
  λ h. elim (append_cases (take k seeds) (get_or seeds k false ∷ []) v true (subst (λ s. At s v true) (take_next seeds k false lt) h)) [
    | inl a ↦ let q = (are v).1 a in (q.0, append_keeps vertices (k ∷ []) q.0 v q.1)
    | inr b ↦ (length vertices, subst (λ x. At (vertices ++ k ∷ []) (length vertices) x) (only_one (length_take seeds k lt) b.0 b.1 b.2) (push_new vertices k))
  ],
)
  where
    only_one : length (take k seeds) ≡ k → (j : ℕ) → v ≡ length (take k seeds) + j → At (get_or seeds k false ∷ []) j true → k ≡ v
    only_one len zero e h = omega (arith, len, e)
    only_one len (suc j) e h = absurd (cc)

pub seeds_same : (seeds : List Bool) (k : ℕ) (vertices : List ℕ) → k < length seeds → get_or seeds k false ≡ false → AreSeeds (take k seeds) vertices → AreSeeds (take (k + 1) seeds) vertices
seeds_same seeds k vertices lt is are v = (
  λ h. subst (λ s. At s v true) (sym (take_next seeds k false lt)) (append_keeps (take k seeds) (get_or seeds k false ∷ []) v true ((are v).0 h)),
  λ h. elim (append_cases (take k seeds) (get_or seeds k false ∷ []) v true (subst (λ s. At s v true) (take_next seeds k false lt) h)) [
    | inl a ↦ (are v).1 a
    | inr b ↦ absurd (not_one b.0 (subst (λ x. At (x ∷ []) b.0 true) is b.2))
  ],
)
  where
    not_one : (j : ℕ) → At (false ∷ []) j true → ⊥
    not_one zero h = absurd (cc)
    not_one (suc j) h = absurd (cc)

-- the work is less once a pending vertex is dropped, and once it is marked
pub less_dropped : (graph : List (List ℕ)) (marks : List Bool) (pending before : List ℕ) (v : ℕ) → before ≡ pending ++ v ∷ [] → work graph marks pending < work graph marks before
less_dropped graph marks pending before v e = omega (arith, ap length e, length-append pending (v ∷ []))

pub less_spread : (graph : List (List ℕ)) (marks : List Bool) (pending before after row : List ℕ) (v : ℕ) → before ≡ pending ++ v ∷ [] → after ≡ pending ++ row → At marks v false → At graph v row → work graph (set marks v true) after < work graph marks before
less_spread graph marks pending before after row v e f h r =
    omega (arith, ap length e, ap length f, length-append pending (v ∷ []), length-append pending row, less_marked graph marks v row h r)
