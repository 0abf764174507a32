-- Each edge of the joint calls leads to a node.
use Rattle.std.proofs.Common.{◌≡◌, ◌⊎◌, inl, inr, ℕ, zero, suc, ◌+◌, ◌<◌, nat_lt, cond, Bool, true, false, List, [], ◌∷◌, ◌++◌, map, filter, length, Option, Some, None, option_map, slice_get, get_or, refl, sym, ap, ap₂, ◌∙◌, subst, arith}
use Rattle.std.proofs.lemmas.Bool.Decides.{Decides-ltb}
use Rattle.rvt_tree.specs.declared.programs.Function.{Function}
use Rattle.rvt_tree.specs.Views.{stmt_view}
use Rattle.body_calls.specs.Calls.{body_calls}
use Rattle.function_pairs.specs.declared.pairs.FunctionPairs.{FunctionPairs}
use Rattle.call_graph.specs.Graphs.{At, Edge, IsGraph}
use Rattle.joint_cycles.specs.JointCalls.{node_by, new_node, called_by, nodes_called, nodes_called_there, nodes_called_by_partner, old_row, row_alone, new_row, rows_from, joint_calls, ArePartnersOf}

-- what stands in a list is below a bound
abbrev Below : ℕ → List ℕ → Type 0
Below bound xs = (k v : ℕ) → At xs k v → v < bound

none_below : (bound : ℕ) → Below bound []
none_below bound k v h = absurd (let no : None ≡ Some v = h in cc)

one_more_below : (bound x : ℕ) (xs : List ℕ) → x < bound → Below bound xs → Below bound (x ∷ xs)
one_more_below bound x xs low below zero v h = let same : x ≡ v = (let both : Some x ≡ Some v = h in cc) in subst (λ (n : ℕ). n < bound) same low
one_more_below bound x xs low below (suc k) v h = below k v h

append_below : (bound : ℕ) (xs ys : List ℕ) → Below bound xs → Below bound ys → Below bound (xs ++ ys)
append_below bound [] ys left right = right
append_below bound (x ∷ xs) ys left right = one_more_below bound x (xs ++ ys) (left 0 x refl) (append_below bound xs ys (λ k v h. left (suc k) v h) right)

keep_or_not : (bound x : ℕ) (xs : List ℕ) (b : Bool) → nat_lt x bound ≡ b → Below bound xs → Below bound (cond b (x ∷ xs) xs)
keep_or_not bound x xs true e below = one_more_below bound x xs ((Decides-ltb x bound).0 e) below
keep_or_not bound x xs false e below = below

filter_below : (bound : ℕ) (xs : List ℕ) → Below bound (filter (λ x. nat_lt x bound) xs)
filter_below bound [] = none_below bound
filter_below bound (x ∷ xs) = keep_or_not bound x (filter (λ x. nat_lt x bound) xs) (nat_lt x bound) refl (filter_below bound xs)

map_below : (f : ℕ → ℕ) (bound other : ℕ) → ((x : ℕ) → x < bound → f x < other) → (xs : List ℕ) → Below bound xs → Below other (map f xs)
map_below f bound other to [] below = none_below other
map_below f bound other to (x ∷ xs) below = one_more_below other (f x) (map f xs) (to x (below 0 x refl)) (map_below f bound other to xs (λ k v h. below (suc k) v h))

wider : (bound other : ℕ) (xs : List ℕ) → Below bound xs → Below (bound + other) xs
wider bound other xs below k v h = let low : v < bound = below k v h in omega (arith, low)

-- ---- rows

-- each row is below a bound
abbrev AllBelow : ℕ → List (List ℕ) → Type 0
AllBelow bound graph = (u : ℕ) (row : List ℕ) → At graph u row → Below bound row

rows_below : (bound : ℕ) (row : ℕ → Function → List ℕ) → ((n : ℕ) (f : Function) → Below bound (row n f)) → (number : ℕ) (fs : List Function) → AllBelow bound (rows_from row number fs)
rows_below bound row each number [] u r h = absurd (let no : None ≡ Some r = h in cc)
rows_below bound row each number (f ∷ rest) zero r h =
    let same : row number f ≡ r = (let both : Some (row number f) ≡ Some r = h in cc) in subst (Below bound) same (each number f)
rows_below bound row each number (f ∷ rest) (suc u) r h = rows_below bound row each (number + 1) rest u r h

both_below : (bound : ℕ) (xs ys : List (List ℕ)) → AllBelow bound xs → AllBelow bound ys → AllBelow bound (xs ++ ys)
both_below bound [] ys left right u r h = right u r h
both_below bound (x ∷ xs) ys left right zero r h = left zero r h
both_below bound (x ∷ xs) ys left right (suc u) r h = both_below bound xs ys (λ u. left (suc u)) right u r h

rows_count : (row : ℕ → Function → List ℕ) (number : ℕ) (fs : List Function) → length (rows_from row number fs) ≡ length fs
rows_count row number [] = refl
rows_count row number (f ∷ rest) = ap suc (rows_count row (number + 1) rest)

both_count : (xs ys : List (List ℕ)) → length (xs ++ ys) ≡ length xs + length ys
both_count [] ys = sym (let h : 0 + length ys ≡ length ys = omega arith in h)
both_count (x ∷ xs) ys = let rest : length (xs ++ ys) ≡ length xs + length ys = both_count xs ys in let h : suc (length (xs ++ ys)) ≡ suc (length xs) + length ys = omega (arith, rest) in h

node_below : (old_count new_count number : ℕ) (partner : Option (Option ℕ)) → ((f : ℕ) → partner ≡ Some (Some f) → f < old_count) → number < new_count → node_by old_count number partner < old_count + new_count
node_below m n number (Some (Some f)) low within = let h : f < m = low f refl in omega (arith, h)
node_below m n number (Some None) low within = omega (arith, within)
node_below m n number None low within = omega (arith, within)

module _ (pairs : FunctionPairs) (old new : List Function) (partners : ArePartnersOf pairs.of_new (length old)) where
  abbrev Nodes : List ℕ → Type 0
  Nodes = Below (length old + length new)

  called_below : (g : Function) → Nodes (nodes_called pairs old new g)
  called_below g =
      map_below (new_node pairs.of_new (length old)) (length new) (length old + length new)
      (λ number low. node_below (length old) (length new) number (slice_get pairs.of_new number) (λ f h. partners number f h) low)
      (called_by (length new) g) (filter_below (length new) (body_calls (option_map stmt_view g.body)))

  there_below : (g : Option Function) → Nodes (nodes_called_there pairs old new g)
  there_below (Some g) = called_below g
  there_below None = none_below (length old + length new)

  partner_below : (partner : Option (Option ℕ)) → Nodes (nodes_called_by_partner pairs old new partner)
  partner_below (Some (Some g)) = there_below (slice_get new g)
  partner_below (Some None) = none_below (length old + length new)
  partner_below None = none_below (length old + length new)

  old_below : (number : ℕ) (f : Function) → Nodes (old_row pairs old new number f)
  old_below number f =
      append_below (length old + length new) (called_by (length old) f) (nodes_called_by_partner pairs old new (slice_get pairs.of_old number))
      (wider (length old) (length new) (called_by (length old) f) (filter_below (length old) (body_calls (option_map stmt_view f.body))))
      (partner_below (slice_get pairs.of_old number))

  alone_below : (partner : Option (Option ℕ)) (g : Function) → Nodes (row_alone pairs old new partner g)
  alone_below (Some (Some f)) g = none_below (length old + length new)
  alone_below (Some None) g = called_below g
  alone_below None g = called_below g

  pub node_count : length (joint_calls pairs old new) ≡ length old + length new
  node_count =
      both_count (rows_from (old_row pairs old new) 0 old) (rows_from (new_row pairs old new) 0 new)
      ∙ ap₂ (λ (m n : ℕ). m + n) (rows_count (old_row pairs old new) 0 old) (rows_count (new_row pairs old new) 0 new)

  pub is_graph : IsGraph (joint_calls pairs old new)
  is_graph u v edge =
      let all : AllBelow (length old + length new) (joint_calls pairs old new) =
      both_below (length old + length new) (rows_from (old_row pairs old new) 0 old) (rows_from (new_row pairs old new) 0 new)
      (rows_below (length old + length new) (old_row pairs old new) old_below 0 old)
      (rows_below (length old + length new) (new_row pairs old new) (λ number g. alone_below (slice_get pairs.of_new number) g) 0 new) in
      let low : v < length old + length new = all u edge.successors edge.is_there edge.place v edge.leads in
      subst (λ (n : ℕ). v < n) (sym node_count) low

-- ---- calls by their places

below_at : (bound : ℕ) (xs : List ℕ) → Below bound xs → (k : ℕ) → k < length xs → get_or xs k 0 < bound
below_at bound [] below k low = absurd (let no : ⊥ = omega (arith, low) in no)
below_at bound (x ∷ xs) below zero low = below 0 x refl
below_at bound (x ∷ xs) below (suc k) low = let less : k < length xs = omega (arith, low) in below_at bound xs (λ k v h. below (suc k) v h) k less

-- a function that is called is one of the file
pub callee_below : (count : ℕ) (f : Function) (calls : List ℕ) (k : ℕ) → calls ≡ called_by count f → k < length calls → get_or calls k 0 < count
callee_below count f calls k same low = below_at count calls (subst (Below count) (sym same) (filter_below count (body_calls (option_map stmt_view f.body)))) k low
