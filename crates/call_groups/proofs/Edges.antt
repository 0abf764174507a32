-- The edges of the graph of pairs are the calls from pair to pair.
use Rattle.std.proofs.Common.{◌≡◌, ◌⊎◌, inl, inr, ℕ, zero, suc, ◌<◌, ◌+◌, Bool, true, false, cond, List, [], ◌∷◌, ◌++◌, length, map, Option, Some, None, option_to_list, take, append_assoc, refl, sym, ap, ◌∙◌, arith, subst}
use Rattle.std.specs.Prelude.{nat_eq}
use Rattle.std.proofs.lemmas.List.{length-map, append-nil}
use Rattle.std.proofs.Common.{Vec}
use Rattle.std.specs.Global.{Global}
use Rattle.call_graph.specs.Graphs.{At, Edge, Reaches, IsGraph, rows}
use Rattle.call_graph.specs.Components.{AreComponents}
use Rattle.call_graph.proofs.Lists.{append_cases, append_keeps, append_new}
use Rattle.call_groups.specs.Groups.{PairCalls, PairReaches, AreGroups, pairs_of, called_pairs, called_by, pair_successors}
use Rattle.core_ir.specs.Calls.{Among, unit_calls}
use Rattle.core_ir.specs.Joint.{Side, Old, New, PairOfUnits, member, core_of, pair_of, pair_from}
use Rattle.core_ir.specs.declared.cores.JointCore.{JointCore}

map_at : {X Y : Type 0} (f : X → Y) (xs : List X) (k : ℕ) (y : Y) → At (map f xs) k y → (x : X) × At xs k x × (f x ≡ y)
map_at f [] k y h = absurd (cc)
map_at f (x ∷ xs) zero y h = (x, refl, cc)
map_at f (x ∷ xs) (suc k) y h = map_at f xs k y h

at_map : {X Y : Type 0} (f : X → Y) (xs : List X) (k : ℕ) (x : X) → At xs k x → At (map f xs) k (f x)
at_map f [] k x h = absurd (cc)
at_map f (y ∷ xs) zero x h = cc
at_map f (y ∷ xs) (suc k) x h = at_map f xs k x h

option_at : {X : Type 0} (o : Option X) (k : ℕ) (x : X) → At (option_to_list o) k x → o ≡ Some x
option_at None k x h = absurd (cc)
option_at (Some y) zero x h = h
option_at (Some y) (suc k) x h = absurd (cc)

at_option : {X : Type 0} (o : Option X) (x : X) → o ≡ Some x → At (option_to_list o) 0 x
at_option None x h = absurd (cc)
at_option (Some y) x h = h

called_at : (side : Side) (pairs : List PairOfUnits) (units : List ℕ) (k q : ℕ) → At (called_pairs side pairs units) k q → (u : ℕ) × Among u units × (pair_from side u 0 pairs ≡ Some q)
called_at side pairs [] k q h = absurd (cc)
called_at side pairs (u ∷ units) k q h = elim (append_cases (option_to_list (pair_from side u 0 pairs)) (called_pairs side pairs units) k q h) [
  | inl a ↦ (u, inl refl, option_at (pair_from side u 0 pairs) k q a)
  | inr b ↦ let r = called_at side pairs units b.0 q b.2 in (r.0, inr r.1, r.2)
]

at_called : (side : Side) (pairs : List PairOfUnits) (units : List ℕ) (u q : ℕ) → Among u units → pair_from side u 0 pairs ≡ Some q → (k : ℕ) × At (called_pairs side pairs units) k q
at_called side pairs [] u q h e = absurd h
at_called side pairs (v ∷ units) u q (inl same) e =
    (0, append_keeps (option_to_list (pair_from side v 0 pairs)) (called_pairs side pairs units) 0 q (at_option (pair_from side v 0 pairs) q (subst (λ x. pair_from side x 0 pairs ≡ Some q) same e)))
at_called side pairs (v ∷ units) u q (inr more) e =
    let r = at_called side pairs units u q more e in
    (length (option_to_list (pair_from side v 0 pairs)) + r.0, append_new (option_to_list (pair_from side v 0 pairs)) (called_pairs side pairs units) r.0 (length (option_to_list (pair_from side v 0 pairs)) + r.0) q refl r.1)

pair_here : (side : Side) (u i q : ℕ) (ps : List PairOfUnits) → (pair_from side u (suc i) ps ≡ Some q → q < suc i + length ps) → (b : Bool) → cond b (Some i) (pair_from side u (suc i) ps) ≡ Some q → q < i + suc (length ps)
pair_here side u i q ps rest true h = let e : i ≡ q = cc in omega (arith, e)
pair_here side u i q ps rest false h = omega (arith, rest h)

pair_within : (side : Side) (u i q : ℕ) (pairs : List PairOfUnits) → pair_from side u i pairs ≡ Some q → q < i + length pairs
pair_within side u i q [] h = absurd (cc)
pair_within side u i q (p ∷ ps) h = pair_here side u i q ps (pair_within side u (suc i) q ps) (nat_eq (member side p) u) h

pub call_from_edge : (joint : JointCore) (p q : ℕ) → Edge (pair_successors joint) p q → PairCalls joint p q
call_from_edge joint p q e = from_pair (map_at (called_by joint) joint.pairs p e.successors e.is_there)
  where
    from_pair : (x : PairOfUnits) × At joint.pairs p x × (called_by joint x ≡ e.successors) → PairCalls joint p q
    from_pair w = by_side (append_cases (called_pairs Old joint.pairs (unit_calls joint.old w.0.0)) (called_pairs New joint.pairs (unit_calls joint.new_side w.0.1)) e.place q (subst (λ s. At s e.place q) (sym w.2) e.leads))
      where
        by_side : (At (called_pairs Old joint.pairs (unit_calls joint.old w.0.0)) e.place q) ⊎ ((j : ℕ) × (e.place ≡ length (called_pairs Old joint.pairs (unit_calls joint.old w.0.0)) + j) × At (called_pairs New joint.pairs (unit_calls joint.new_side w.0.1)) j q) → PairCalls joint p q
        by_side (inl a) = let c = called_at Old joint.pairs (unit_calls joint.old w.0.0) e.place q a in record { pair = w.0; is_there = w.1; side = Old; callee = c.0; is_call = c.1; of_second = c.2 }
        by_side (inr b) = let c = called_at New joint.pairs (unit_calls joint.new_side w.0.1) b.0 q b.2 in record { pair = w.0; is_there = w.1; side = New; callee = c.0; is_call = c.1; of_second = c.2 }

by_side : (joint : JointCore) (p q : ℕ) (pair : PairOfUnits) → At joint.pairs p pair → (side : Side) (u : ℕ) → Among u (unit_calls (core_of joint side) (member side pair)) → pair_of joint side u ≡ Some q → Edge (pair_successors joint) p q
by_side joint p q pair h Old u a e =
    let r = at_called Old joint.pairs (unit_calls joint.old pair.0) u q a e in
    record { successors = called_by joint pair; is_there = at_map (called_by joint) joint.pairs p pair h; place = r.0; leads = append_keeps (called_pairs Old joint.pairs (unit_calls joint.old pair.0)) (called_pairs New joint.pairs (unit_calls joint.new_side pair.1)) r.0 q r.1 }
by_side joint p q pair h New u a e =
    let r = at_called New joint.pairs (unit_calls joint.new_side pair.1) u q a e in
    let n = length (called_pairs Old joint.pairs (unit_calls joint.old pair.0)) in
    record { successors = called_by joint pair; is_there = at_map (called_by joint) joint.pairs p pair h; place = n + r.0; leads = append_new (called_pairs Old joint.pairs (unit_calls joint.old pair.0)) (called_pairs New joint.pairs (unit_calls joint.new_side pair.1)) r.0 (n + r.0) q refl r.1 }

pub edge_from_call : (joint : JointCore) (p q : ℕ) → PairCalls joint p q → Edge (pair_successors joint) p q
edge_from_call joint p q c = by_side joint p q c.pair c.is_there c.side c.callee c.is_call c.of_second

pub is_graph : (joint : JointCore) → IsGraph (pair_successors joint)
is_graph joint p q e =
    let c = call_from_edge joint p q e in
    let lt = pair_within c.side c.callee 0 q joint.pairs c.of_second in
    omega (arith, lt, length-map joint.pairs (called_by joint))

to_pairs : (joint : JointCore) (p q : ℕ) → Reaches (pair_successors joint) p q → PairReaches joint p q
to_pairs joint p q Reaches.here = PairReaches.here
to_pairs joint p q (Reaches.onward {v = x} e r) = PairReaches.onward (call_from_edge joint p x e) (to_pairs joint x q r)

from_pairs : (joint : JointCore) (p q : ℕ) → PairReaches joint p q → Reaches (pair_successors joint) p q
from_pairs joint p q PairReaches.here = Reaches.here
from_pairs joint p q (PairReaches.onward {q = x} e r) = Reaches.onward (edge_from_call joint p x e) (from_pairs joint x q r)

pub are_groups : (joint : JointCore) (groups : List (List ℕ)) → AreComponents (pair_successors joint) groups → AreGroups joint groups
are_groups joint groups w =
    let size = length-map joint.pairs (called_by joint) in
    record {
      all = λ p lt. w.all p (omega (arith, lt, size));
      once = w.once;
      within = λ p k g. omega (arith, w.within p k g, size);
      mutual_reach = λ p q k g h. to_pairs joint p q (w.mutual_reach p q k g h);
      order = λ p q j k g h r. w.order p q j k g h (from_pairs joint p q r);
    }

-- one unit more
pairs_more : (f : ℕ → Option ℕ) (units : List ℕ) (u : ℕ) → pairs_of f (units ++ u ∷ []) ≡ pairs_of f units ++ option_to_list (f u)
pairs_more f [] u = append-nil (option_to_list (f u))
pairs_more f (v ∷ units) u =
    ap (λ xs. option_to_list (f v) ++ xs) (pairs_more f units u) ∙ sym (append_assoc (option_to_list (f v)) (pairs_of f units) (option_to_list (f u)))

pub pairs_same : (f g : ℕ → Option ℕ) → ((u : ℕ) → f u ≡ g u) → (units : List ℕ) → pairs_of f units ≡ pairs_of g units
pairs_same f g same [] = refl
pairs_same f g same (u ∷ units) = ap (λ o. option_to_list o ++ pairs_of f units) (same u) ∙ ap (λ xs. option_to_list (g u) ++ xs) (pairs_same f g same units)

pub take_more : {X : Type 0} (xs : List X) (k : ℕ) (x : X) → At xs k x → take (suc k) xs ≡ take k xs ++ x ∷ []
take_more [] k x h = absurd (cc)
take_more (y ∷ xs) zero x h = first h
  where
    first : Option.Some y ≡ Option.Some x → y ∷ take zero xs ≡ x ∷ []
    first = λ e. cc
take_more (y ∷ xs) (suc k) x h = ap (λ ys. y ∷ ys) (take_more xs k x h)

-- what the pairs of the calls so far come to, with one call more
pub pushed_more : (f : ℕ → Option ℕ) (units : List ℕ) (k u : ℕ) (before row : List ℕ) (o : Option ℕ) → At units k u → o ≡ f u → row ≡ before ++ pairs_of f (take k units) →
    row ++ option_to_list o ≡ before ++ pairs_of f (take (k + 1) units)
pushed_more f units k u before row o at is e =
    let next : k + 1 ≡ suc k = omega arith in
    let t : take (k + 1) units ≡ take k units ++ u ∷ [] = ap (λ n. take n units) next ∙ take_more units k u at in
    ap (λ r. r ++ option_to_list o) e
    ∙ append_assoc before (pairs_of f (take k units)) (option_to_list o)
    ∙ ap (λ p. before ++ (pairs_of f (take k units) ++ option_to_list p)) is
    ∙ ap (λ xs. before ++ xs) (sym (pairs_more f (take k units) u))
    ∙ ap (λ us. before ++ pairs_of f us) (sym t)

-- the row of a pair, by tables of the pairs of units
pub called_row : (joint : JointCore) (pair : PairOfUnits) (f g : ℕ → Option ℕ) → ((u : ℕ) → f u ≡ pair_from Old u 0 joint.pairs) → ((u : ℕ) → g u ≡ pair_from New u 0 joint.pairs) → pairs_of f (unit_calls joint.old pair.0) ++ pairs_of g (unit_calls joint.new_side pair.1) ≡ called_by joint pair
called_row joint pair f g old new =
    ap (λ xs. xs ++ pairs_of g (unit_calls joint.new_side pair.1)) (pairs_same f (λ u. pair_from Old u 0 joint.pairs) old (unit_calls joint.old pair.0))
    ∙ ap (λ xs. called_pairs Old joint.pairs (unit_calls joint.old pair.0) ++ xs) (pairs_same g (λ u. pair_from New u 0 joint.pairs) new (unit_calls joint.new_side pair.1))

rows_more : (vectors : List (Vec ℕ Global)) (row : Vec ℕ Global) → rows (vectors ++ row ∷ []) ≡ rows vectors ++ row.items ∷ []
rows_more [] row = refl
rows_more (v ∷ vectors) row = ap (λ xs. v.items ∷ xs) (rows_more vectors row)

map_more : {X Y : Type 0} (f : X → Y) (xs : List X) (x : X) → map f (xs ++ x ∷ []) ≡ map f xs ++ f x ∷ []
map_more f [] x = refl
map_more f (y ∷ xs) x = ap (λ ys. f y ∷ ys) (map_more f xs x)

-- the rows with one row more
pub row_more : (joint : JointCore) (pairs : List PairOfUnits) (vectors : List (Vec ℕ Global)) (row : Vec ℕ Global) (k : ℕ) (pair : PairOfUnits) → At pairs k pair → rows vectors ≡ map (called_by joint) (take k pairs) → row.items ≡ called_by joint pair → rows (vectors ++ row ∷ []) ≡ map (called_by joint) (take (k + 1) pairs)
row_more joint pairs vectors row k pair at e h =
    let next : k + 1 ≡ suc k = omega arith in
    let t : take (k + 1) pairs ≡ take k pairs ++ pair ∷ [] = ap (λ n. take n pairs) next ∙ take_more pairs k pair at in
    rows_more vectors row
    ∙ ap (λ xs. xs ++ row.items ∷ []) e
    ∙ ap (λ r. map (called_by joint) (take k pairs) ++ r ∷ []) h
    ∙ sym (map_more (called_by joint) (take k pairs) pair)
    ∙ ap (map (called_by joint)) (sym t)
