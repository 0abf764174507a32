-- Vertices on cycles are those of components with several members, and those with an edge to themselves.
use Rattle.std.proofs.Common.{◌≡◌, ◌⊎◌, inl, inr, ◌↔◌, ℕ, zero, suc, ◌+◌, ◌<◌, ◌≤◌, Bool, true, false, List, [], ◌∷◌, length, replicate, set, take, refl, sym, ap, arith, subst}
use Rattle.call_graph.proofs.Lists.{within, same_at, take_at, take_keeps, set_new, set_keeps, set_cases}
use Rattle.call_graph.specs.Components.{Stands as Placed, InGroup, AreComponents}
use Rattle.call_graph.specs.Graphs.{At, Edge, Reaches, IsGraph}
use Rattle.graph_marks.specs.Cycles.{IsOnCycle}
use Rattle.graph_marks.specs.Marks.{Stands}

-- a vertex comes back to itself where it has company, or an edge to itself
abbrev pub GoesRound : List (List ℕ) → List ℕ → ℕ → Type 0
GoesRound graph group v = (1 < length group) ⊎ Edge graph v v

-- one of the first groups has the vertex, which comes back to itself
pub record IsFlagged (graph groups : List (List ℕ)) (n v : ℕ) : Type 0 where
  pub group : List ℕ
  pub number : ℕ
  pub earlier : number < n
  pub is_there : At groups number group
  pub stands : Stands group v
  pub round : GoesRound graph group v

-- ---- flags of a group

abbrev pub MembersFlagged : List (List ℕ) → List ℕ → ℕ → List Bool → List Bool → Type 0
MembersFlagged graph group n before flags = (v : ℕ) → At flags v true ↔ (At before v true ⊎ (Stands (take n group) v × GoesRound graph group v))

stands_more : (group : List ℕ) (n v u : ℕ) → At group n v → Stands (take (n + 1) group) u → Stands (take n group) u ⊎ (u ≡ v)
stands_more group n v u h s =
    let t = take_at (n + 1) group s.0 u s.1 in
    last (less s.0 n t.0) t.1
  where
    less : (a b : ℕ) → a < b + 1 → (a < b) ⊎ (a ≡ b)
    less a b h = grind arith

    last : (s.0 < n) ⊎ (s.0 ≡ n) → At group s.0 u → Stands (take n group) u ⊎ (u ≡ v)
    last (inl l) a = inl (s.0, take_keeps n group s.0 u l a)
    last (inr e) a = inr (same_at group n u v (subst (λ k. At group k u) e a) h)

stands_earlier : (group : List ℕ) (n u : ℕ) → Stands (take n group) u → Stands (take (n + 1) group) u
stands_earlier group n u s =
    let t = take_at n group s.0 u s.1 in
    (s.0, take_keeps (n + 1) group s.0 u (omega (arith, t.0)) t.1)

stands_last : (group : List ℕ) (n v : ℕ) → At group n v → Stands (take (n + 1) group) v
stands_last group n v h = (n, take_keeps (n + 1) group n v (omega arith) h)

-- a member that comes back to itself is flagged
pub member_flagged : (graph : List (List ℕ)) (group : List ℕ) (n v : ℕ) (before flags : List Bool) → At group n v → GoesRound graph group v → v < length flags → MembersFlagged graph group n before flags → MembersFlagged graph group (n + 1) before (set flags v true)
member_flagged graph group n v before flags h round fits w u = (there, back)
  where
    there : At (set flags v true) u true → At before u true ⊎ (Stands (take (n + 1) group) u × GoesRound graph group u)
    there a = elim (set_cases flags v true u true a) [
      | inl e ↦ inr (subst (λ x. Stands (take (n + 1) group) x) (sym e.0) (stands_last group n v h), subst (λ x. GoesRound graph group x) (sym e.0) round)
      | inr k ↦ elim ((w u).0 k.1) [ inl b ↦ inl b | inr s ↦ inr (stands_earlier group n u s.0, s.1) ]
    ]

    flagged : (same : (u ≡ v) ⊎ (u ≡ v → ⊥)) → At flags u true ⊎ (u ≡ v) → At (set flags v true) u true
    flagged (inl e) a = subst (λ x. At (set flags v true) x true) (sym e) (new (exists flags v fits))
      where
        exists : (xs : List Bool) (k : ℕ) → k < length xs → (x : Bool) × At xs k x
        exists [] k h = absurd (omega arith)
        exists (x ∷ xs) zero h = (x, refl)
        exists (x ∷ xs) (suc k) h = exists xs k (omega arith)

        new : (x : Bool) × At flags v x → At (set flags v true) v true
        new x = set_new flags v true x.0 x.1
    flagged (inr d) (inl a) = set_keeps flags v true u true d a
    flagged (inr d) (inr e) = absurd (d e)

    decided : (a b : ℕ) → (a ≡ b) ⊎ (a ≡ b → ⊥)
    decided zero zero = inl refl
    decided zero (suc b) = inr (λ e. omega arith)
    decided (suc a) zero = inr (λ e. omega arith)
    decided (suc a) (suc b) = elim (decided a b) [ inl e ↦ inl (ap suc e) | inr d ↦ inr (λ e. d (omega arith)) ]

    back : At before u true ⊎ (Stands (take (n + 1) group) u × GoesRound graph group u) → At (set flags v true) u true
    back (inl b) = flagged (decided u v) (inl ((w u).1 (inl b)))
    back (inr s) = elim (stands_more group n v u h s.0) [
      | inl earlier ↦ flagged (decided u v) (inl ((w u).1 (inr (earlier, s.1))))
      | inr e ↦ flagged (decided u v) (inr e)
    ]

-- another one isn't
pub member_passed : (graph : List (List ℕ)) (group : List ℕ) (n v : ℕ) (before flags : List Bool) → At group n v → (GoesRound graph group v → ⊥) → MembersFlagged graph group n before flags → MembersFlagged graph group (n + 1) before flags
member_passed graph group n v before flags h straight w u = (
  λ a. elim ((w u).0 a) [ inl b ↦ inl b | inr s ↦ inr (stands_earlier group n u s.0, s.1) ],
  λ s. elim s [
    | inl b ↦ (w u).1 (inl b)
    | inr s ↦ elim (stands_more group n v u h s.0) [
      | inl earlier ↦ (w u).1 (inr (earlier, s.1))
      | inr e ↦ absurd (straight (subst (λ x. GoesRound graph group x) e s.1))
    ]
  ],
)

-- ---- flags of all groups

pub none_flagged : (n v : ℕ) → At (replicate n false) v true → ⊥
none_flagged zero v h = absurd (cc)
none_flagged (suc n) zero h = cc
none_flagged (suc n) (suc v) h = none_flagged n v h

pub none_before : (graph groups : List (List ℕ)) (v : ℕ) → IsFlagged graph groups 0 v → ⊥
none_before graph groups v f = let e = f.earlier in omega (arith, e)

-- with the flags of one group more
pub group_flagged : (graph groups : List (List ℕ)) (n : ℕ) (group : List ℕ) (before flags : List Bool) → At groups n group → ((v : ℕ) → At before v true ↔ IsFlagged graph groups n v) → ((v : ℕ) → At flags v true ↔ (At before v true ⊎ (Stands group v × GoesRound graph group v))) → (v : ℕ) → At flags v true ↔ IsFlagged graph groups (n + 1) v
group_flagged graph groups n group before flags h w step v = (there, back)
  where
    there : At flags v true → IsFlagged graph groups (n + 1) v
    there a = elim ((step v).0 a) [
      | inl b ↦ let f = (w v).0 b in record { group = f.group; number = f.number; earlier = omega (arith, f.earlier); is_there = f.is_there; stands = f.stands; round = f.round }
      | inr s ↦ record { group = group; number = n; earlier = omega arith; is_there = h; stands = s.0; round = s.1 }
    ]

    less : (a b : ℕ) → a < b + 1 → (a < b) ⊎ (a ≡ b)
    less a b h = grind arith

    back : IsFlagged graph groups (n + 1) v → At flags v true
    back f = elim (less f.number n f.earlier) [
      | inl l ↦ (step v).1 (inl ((w v).1 (record { group = f.group; number = f.number; earlier = l; is_there = f.is_there; stands = f.stands; round = f.round })))
      | inr e ↦
          let same : f.group ≡ group = same_at groups n f.group group (subst (λ k. At groups k f.group) e f.is_there) h in
          (step v).1 (inr (subst (λ g. Stands g v) same f.stands, subst (λ g. GoesRound graph g v) same f.round))
    ]

-- ---- at the end

joined_paths : (graph : List (List ℕ)) (u v w : ℕ) → Reaches graph u v → Reaches graph v w → Reaches graph u w
joined_paths graph u v w Reaches.here q = q
joined_paths graph u v w (Reaches.onward e p) q = Reaches.onward e (joined_paths graph _ v w p q)

-- a path to another vertex and a path back are a cycle
cycle_of : (graph : List (List ℕ)) (v w : ℕ) → (v ≡ w → ⊥) → Reaches graph v w → Reaches graph w v → IsOnCycle graph v
cycle_of graph v w d Reaches.here q = absurd (d refl)
cycle_of graph v w d (Reaches.onward {v = x} e p) q = record { next = x; edge = e; back = joined_paths graph x w v p q }

-- another place of a list of two and more
another : (group : List ℕ) (p v : ℕ) → At group p v → 1 < length group → (q : ℕ) × (w : ℕ) × At group q w × (p ≡ q → ⊥)
another [] p v h l = absurd (omega arith)
another (x ∷ []) p v h l = absurd (omega arith)
another (x ∷ y ∷ group) zero v h l = (1, y, refl, λ e. omega arith)
another (x ∷ y ∷ group) (suc p) v h l = (0, x, refl, λ e. omega arith)

module _ (graph groups : List (List ℕ)) (c : AreComponents graph groups) where
  placed : (k : ℕ) (group : List ℕ) → At groups k group → (p v : ℕ) → At group p v → Placed groups k p v
  placed k group h p v a = record { group = group; is_there = h; stands = a }

  pub cycle_flagged : (v : ℕ) → IsFlagged graph groups (length groups) v → IsOnCycle graph v
  cycle_flagged v f = elim f.round [ inl l ↦ company (another f.group f.stands.0 v f.stands.1 l) | inr e ↦ record { next = v; edge = e; back = Reaches.here } ]
    where
      company : (q : ℕ) × (w : ℕ) × At f.group q w × (f.stands.0 ≡ q → ⊥) → IsOnCycle graph v
      company o =
          let here = placed f.number f.group f.is_there f.stands.0 v f.stands.1 in
          let there = placed f.number f.group f.is_there o.0 o.1 o.2 in
          cycle_of graph v o.1 (λ e. o.3 ((c.once v f.number f.number f.stands.0 o.0 here (subst (λ x. Placed groups f.number o.0 x) (sym e) there)).1)) (c.mutual_reach v o.1 f.number (f.stands.0, here) (o.0, there)) (c.mutual_reach o.1 v f.number (o.0, there) (f.stands.0, here))

  pub flagged_cycle : IsGraph graph → (v : ℕ) → IsOnCycle graph v → IsFlagged graph groups (length groups) v
  flagged_cycle closed v o =
      let home = c.all v (within graph v o.edge.successors o.edge.is_there) in
      let next = c.all o.next (closed v o.next o.edge) in
      let there = c.order v o.next home.0 next.0 home.1 next.1 (Reaches.onward o.edge Reaches.here) in
      let back = c.order o.next v next.0 home.0 next.1 home.1 o.back in
      found home.0 home.1 (subst (λ k. InGroup groups k o.next) (between next.0 home.0 there back) next.1)
    where
      between : (a b : ℕ) → a ≤ b → b ≤ a → a ≡ b
      between a b h k = omega (arith, h, k)

      decided : (a b : ℕ) → (a ≡ b) ⊎ (a ≡ b → ⊥)
      decided zero zero = inl refl
      decided zero (suc b) = inr (λ e. omega arith)
      decided (suc a) zero = inr (λ e. omega arith)
      decided (suc a) (suc b) = elim (decided a b) [ inl e ↦ inl (ap suc e) | inr d ↦ inr (λ e. d (omega arith)) ]

      two : (xs : List ℕ) (p q : ℕ) (x y : ℕ) → At xs p x → At xs q y → (x ≡ y → ⊥) → 1 < length xs
      two xs p q x y h k d = elim (decided p q) [
        | inl e ↦ absurd (d (same_at xs q x y (subst (λ j. At xs j x) e h) k))
        | inr e ↦ let a = within xs p x h in let b = within xs q y k in omega (arith, a, b, e)
      ]

      found : (k : ℕ) → InGroup groups k v → InGroup groups k o.next → IsFlagged graph groups (length groups) v
      found k here there = elim (decided v o.next) [
        | inl e ↦ record { group = here.1.group; number = k; earlier = within groups k here.1.group here.1.is_there; is_there = here.1.is_there; stands = (here.0, here.1.stands); round = inr (subst (λ x. Edge graph v x) (sym e) o.edge) }
        | inr d ↦
            let same : there.1.group ≡ here.1.group = same_at groups k there.1.group here.1.group there.1.is_there here.1.is_there in
            let other : At here.1.group there.0 o.next = subst (λ g. At g there.0 o.next) same there.1.stands in
            record { group = here.1.group; number = k; earlier = within groups k here.1.group here.1.is_there; is_there = here.1.is_there; stands = (here.0, here.1.stands); round = inl (two here.1.group here.0 there.0 v o.next here.1.stands other d) }
      ]
