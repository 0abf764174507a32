-- The table of the pair of each unit.
use Rattle.std.proofs.Common.{◌≡◌, ℕ, zero, suc, ◌+◌, ◌<◌, Bool, true, false, cond, List, [], ◌∷◌, ◌++◌, length, Some, None, get_or, take, refl, ap, ◌∙◌, arith}
use Rattle.std.specs.Prelude.{nat_eq}
use Rattle.call_graph.specs.Graphs.{At}
use Rattle.touch_sets.proofs.Places.{take_more}
use Rattle.touch_sets.specs.Touching.{entered_at}
use Rattle.core_ir.specs.Joint.{Side, PairOfUnits, member, pair_from}

-- the first pair of a unit, with one pair more
next_pair : (side : Side) (u i n : ℕ) (xs : List PairOfUnits) (p : PairOfUnits) → pair_from side u (suc i) (xs ++ p ∷ []) ≡ entered_at (member side p) n u (pair_from side u (suc i) xs) → (b : Bool) → cond b (Some i) (pair_from side u (suc i) (xs ++ p ∷ [])) ≡ entered_at (member side p) n u (cond b (Some i) (pair_from side u (suc i) xs))
next_pair side u i n xs p rest true = refl
next_pair side u i n xs p rest false = rest

pair_from_more : (side : Side) (u i n : ℕ) (xs : List PairOfUnits) (p : PairOfUnits) → n ≡ i + length xs → pair_from side u i (xs ++ p ∷ []) ≡ entered_at (member side p) n u (pair_from side u i xs)
pair_from_more side u i n [] p e = let same : i ≡ n = omega (arith, e) in ap (λ k. cond (nat_eq (member side p) u) (Some k) None) same
pair_from_more side u i n (x ∷ xs) p e =
    next_pair side u i n xs p (pair_from_more side u (suc i) n xs p (omega (arith, e))) (nat_eq (member side x) u)

length_take : {X : Type 0} (xs : List X) (k : ℕ) (x : X) → At xs k x → length (take k xs) ≡ k
length_take [] k x h = absurd (cc)
length_take (y ∷ xs) zero x h = refl
length_take (y ∷ xs) (suc k) x h = let r = length_take xs k x h in omega (arith, r)

pub next_entry : (side : Side) (u k : ℕ) (pairs : List PairOfUnits) (p : PairOfUnits) → At pairs k p → pair_from side u 0 (take (k + 1) pairs) ≡ entered_at (member side p) k u (pair_from side u 0 (take k pairs))
next_entry side u k pairs p h =
    let next : k + 1 ≡ suc k = omega arith in
    let t : take (k + 1) pairs ≡ take k pairs ++ p ∷ [] = ap (λ n. take n pairs) next ∙ take_more pairs k p h in
    ap (pair_from side u 0) t ∙ pair_from_more side u 0 k (take k pairs) p (let len = length_take pairs k p h in omega (arith, len))

pub at_read : {X : Type 0} (xs : List X) (k : ℕ) (d : X) → k < length xs → At xs k (get_or xs k d)
at_read [] k d h = absurd (omega (arith, h))
at_read (x ∷ xs) zero d h = refl
at_read (x ∷ xs) (suc k) d h = at_read xs k d (omega (arith, h))
