-- Bits of the inputs that make the literal true extend to a satisfying assignment.
use Rattle.std.proofs.Common.{◌≡◌, ℕ, zero, suc, ◌+◌, ◌-◌, ◌<◌, ◌≤◌, ℤ, pos, Bool, true, false, not, ◌&&◌, cond, List, [], ◌∷◌, ◌++◌, length, take, get_or, Some, None, refl, sym, ap, ◌∙◌, arith, ◌⊎◌, inl, inr, ⊎_elim, subst}
use Rattle.std.specs.Prelude.{All, count_by, is_none, is_some, slice_get, nat_lt, ◌==◌}
use Rattle.std.proofs.lemmas.Bool.{cases_Bool, eqb-true, eq-eqb, ltb-true, ltb-false, and_parts, and_from}
use Rattle.std.proofs.lemmas.List.Elements.{All-nil, All-cons, All-append}
use Rattle.std.proofs.lemmas.Option.{slice_get-get_or, get_or_from_slice_get}
use Rattle.aig_build.specs.declared.lits.Lit.{Lit}
use Rattle.aig_build.specs.Circuits.{Node, IsCircuit, negate_if, progress, lit_value, input_count}
use Rattle.clause_db.specs.Assignment.{truth_under, SatisfiesClause, Satisfies}
use Rattle.cnf_make.specs.Inputs.{CanSatisfy}
use Rattle.cnf_make.specs.Needed.{node_at, is_marked, needed}
use Rattle.cnf_make.specs.Tseitin.{Signed, literal, opposite, signed, variable_of, constants_and_inputs, gate_clauses, node_clauses, clauses_at, clauses_below, clause_list}
use Rattle.cnf_make.proofs.Gates.{needed_only}
use Rattle.cnf_make.proofs.Marks.{needed_closed, needed_itself, needed_length, node_there, below_or_here}
use Rattle.cnf_make.proofs.Meaning.{Agrees, literal_agrees, truth_literal, truth_opposite, not_zero, value_gate, value_none}
use Rattle.cnf_make.proofs.Written.{at_gate}
use Rattle.cnf_make.proofs.Variables.{Has, has_it, variable_yes, variable_no, variable_positive, variable_before, count_strict, count_below}

all_three : {A : Type 0} (P : A → Type 0) (x y z : A) → P x → P y → P z → All P (x ∷ y ∷ z ∷ [])
all_three P x y z p q r = All-cons P x (y ∷ z ∷ []) p (All-cons P y (z ∷ []) q (All-cons P z [] r (All-nil P)))

module _ (v : ℕ → Bool) where
  two : (x y : ℤ) → (truth_under v x ≡ true) ⊎ (truth_under v y ≡ true) → SatisfiesClause v (x ∷ y ∷ [])
  two x y (inl t) = (0, x, omega arith, refl, t)
  two x y (inr t) = (1, y, omega arith, refl, t)

  three : (x y z : ℤ) → (truth_under v x ≡ true) ⊎ ((truth_under v y ≡ true) ⊎ (truth_under v z ≡ true)) → SatisfiesClause v (x ∷ y ∷ z ∷ [])
  three x y z (inl t) = (0, x, omega arith, refl, t)
  three x y z (inr (inl t)) = (1, y, omega arith, refl, t)
  three x y z (inr (inr t)) = (2, z, omega arith, refl, t)

  third : (t : Bool) (x y g : ℤ) → (truth_under v x ≡ true) ⊎ ((truth_under v y ≡ true) ⊎ (truth_under v g ≡ true)) → SatisfiesClause v (cond t (x ∷ y ∷ []) (y ∷ x ∷ []) ++ g ∷ [])
  third true x y g h = three x y g h
  third false x y g (inl t) = three y x g (inr (inl t))
  third false x y g (inr (inl t)) = three y x g (inl t)
  third false x y g (inr (inr t)) = three y x g (inr (inr t))

  left : (x y g : Bool) → g ≡ (x && y) → (x ≡ true) ⊎ (not g ≡ true)
  left true y g e = inl refl
  left false y g e = inr (ap not e)

  right : (x y g : Bool) → g ≡ (x && y) → (y ≡ true) ⊎ (not g ≡ true)
  right x true g e = inl refl
  right true false g e = inr (ap not e)
  right false false g e = inr (ap not e)

  both : (x y g : Bool) → g ≡ (x && y) → (not x ≡ true) ⊎ ((not y ≡ true) ⊎ (g ≡ true))
  both false y g e = inl refl
  both true false g e = inr (inl refl)
  both true true g e = inr (inr e)

  gate_satisfied : (a b : Signed) (g : ℕ) → 0 < a.0 → 0 < b.0 → 0 < g → v g ≡ (truth_under v (literal a) && truth_under v (literal b)) → Satisfies v (gate_clauses a b g)
  gate_satisfied a b g ha hb hg e =
      let not_g = truth_literal v g true hg in
      let not_a = truth_opposite v a.0 a.1 ha in
      let not_b = truth_opposite v b.0 b.1 hb in
      let c1 = two (literal a) (literal (g, true)) (⊎_elim inl (λ n. inr (not_g ∙ n)) (left (truth_under v (literal a)) (truth_under v (literal b)) (v g) e)) in
      let c2 = two (literal b) (literal (g, true)) (⊎_elim inl (λ n. inr (not_g ∙ n)) (right (truth_under v (literal a)) (truth_under v (literal b)) (v g) e)) in
      let c3 = third (nat_lt a.0 b.0) (literal (opposite a)) (literal (opposite b)) (pos g)
      (⊎_elim (λ n. inl (not_a ∙ n)) (λ s. ⊎_elim (λ n. inr (inl (not_b ∙ n))) (λ n. inr (inr n)) s) (both (truth_under v (literal a)) (truth_under v (literal b)) (v g) e)) in
      all_three (SatisfiesClause v) (literal a ∷ literal (g, true) ∷ []) (literal b ∷ literal (g, true) ∷ [])
      (cond (nat_lt a.0 b.0) (literal (opposite a) ∷ literal (opposite b) ∷ []) (literal (opposite b) ∷ literal (opposite a) ∷ []) ++ pos g ∷ []) c1 c2 c3

module _ (nodes : List Node) (bad : Lit) (bits : List Bool) (circuit : IsCircuit nodes) where
  abbrev marks : List Bool
  marks = needed nodes bad

  abbrev values : List Bool
  values = (progress nodes bits).values

  -- the value of the marked gate that has the variable
  abbrev pick : ℕ → ℕ → Bool
  pick zero v = false
  pick (suc n) v = cond (is_marked marks n && (variable_of nodes marks n == v)) (get_or values n false) (pick n v)

  picked : (k n : ℕ) → n < k → k ≤ length nodes → is_marked marks n ≡ true → pick k (variable_of nodes marks n) ≡ get_or values n false
  picked zero n h w t = absurd (omega arith)
  picked (suc k) n h w t =
      let variable = variable_of nodes marks n in
      let size = needed_length nodes bad in
      ⊎_elim
      (λ yes. ap (λ b. cond b (get_or values k false) (pick k variable)) yes ∙ ⊎_elim
      (λ less. absurd (
      let parts = and_parts _ _ yes in
      let same = eqb-true _ _ parts.1 in
      let before = variable_before nodes marks n k less (omega arith) (omega arith) parts.0 (inl t) in omega arith))
      (λ same. ap (λ j. get_or values j false) (sym same))
      (below_or_here n k h))
      (λ no. ap (λ b. cond b (get_or values k false) (pick k variable)) no ∙ ⊎_elim
      (λ less. picked k n less (omega arith) t)
      (λ same. absurd (
      let yes = and_from _ _ (ap (is_marked marks) (sym same) ∙ t) (eq-eqb (variable_of nodes marks k) variable (ap (variable_of nodes marks) (sym same))) in
      let clash : true ≡ false = sym yes ∙ no in cc))
      (below_or_here n k h))
      (cases_Bool (is_marked marks k && (variable_of nodes marks k == variable)))

  -- the constant and the inputs from the bits, the gates from their values
  abbrev extended : ℕ → Bool
  extended v = cond (nat_lt (constants_and_inputs nodes) v) (pick (length nodes) v) (get_or (true ∷ bits) (v - 1) false)

  high : (v : ℕ) → constants_and_inputs nodes < v → extended v ≡ pick (length nodes) v
  high v h = ⊎_elim (λ t. ap (λ b. cond b (pick (length nodes) v) (get_or (true ∷ bits) (v - 1) false)) t) (λ f. absurd (let le = ltb-false _ _ f in omega arith)) (cases_Bool (nat_lt (constants_and_inputs nodes) v))

  low : (v : ℕ) → v ≤ constants_and_inputs nodes → extended v ≡ get_or (true ∷ bits) (v - 1) false
  low v h = ⊎_elim (λ t. absurd (let lt = ltb-true _ _ t in omega arith)) (λ f. ap (λ b. cond b (pick (length nodes) v) (get_or (true ∷ bits) (v - 1) false)) f) (cases_Bool (nat_lt (constants_and_inputs nodes) v))

  pub inputs_kept : (k : ℕ) → k < input_count nodes → extended (k + 2) ≡ get_or bits k false
  inputs_kept k h = low (k + 2) (omega arith) ∙ ap (λ j. get_or (true ∷ bits) j false) (let e : k + 2 - 1 ≡ suc k = omega arith in e)

  gate_extended : (n : ℕ) → n < length nodes → is_marked marks n ≡ true → extended (variable_of nodes marks n) ≡ get_or values n false
  gate_extended n h t = let e = variable_yes nodes marks n t in high (variable_of nodes marks n) (omega arith) ∙ picked (length nodes) n h (omega arith) t

  other_extended : (n : ℕ) → n < length nodes → slice_get nodes n ≡ Some None → is_marked marks n ≡ false → Agrees nodes bad extended bits circuit n
  other_extended zero h e f =
      let below = count_below is_none nodes 0 None h (ap is_none (get_or_from_slice_get nodes 0 None None e)) in
      let at = variable_no nodes marks 0 f in
      low (variable_of nodes marks 0) (omega arith) ∙ ap (λ k. get_or (true ∷ bits) (k - 1) false) at ∙ sym (ap not (value_none nodes bits 0 h e))
  other_extended (suc m) h e f =
      let count = count_by is_none (take (suc m) nodes) in
      let first = count_strict is_none nodes 0 (suc m) None (omega arith) (omega arith) (ap is_none (get_or_from_slice_get nodes 0 None None circuit.constant)) in
      let below = count_below is_none nodes (suc m) None h (ap is_none (get_or_from_slice_get nodes (suc m) None None e)) in
      let at = variable_no nodes marks (suc m) f in
      let is : count ≡ suc (count - 1) = omega arith in
      let place : variable_of nodes marks (suc m) - 1 ≡ suc (count - 1) = omega arith in
      low (variable_of nodes marks (suc m)) (omega arith) ∙ ap (λ k. get_or (true ∷ bits) k false) place
      ∙ sym (value_none nodes bits (suc m) h e ∙ ap (λ k. get_or (false ∷ bits) k false) is)
      ∙ ap (λ b. negate_if b (get_or values (suc m) false)) (sym (not_zero (suc m) (omega arith)))

  gate_agrees : (n : ℕ) → 0 < n → n < length nodes → is_marked marks n ≡ true → Agrees nodes bad extended bits circuit n
  gate_agrees n p h t = gate_extended n h t ∙ ap (λ b. negate_if b (get_or values n false)) (sym (not_zero n p))

  by_node : (n : ℕ) → n < length nodes → Has nodes marks n → (x : Node) → node_at nodes n ≡ x → Agrees nodes bad extended bits circuit n
  by_node n h has None e = ⊎_elim
      (λ t. absurd (let some = sym (needed_only nodes bad n t) ∙ ap is_some e in cc))
      (λ f. other_extended n h (slice_get-get_or nodes n None h ∙ ap Some e) f)
      (cases_Bool (is_marked marks n))
  by_node n h has (Some (x, y)) e =
      let order = circuit.operands n x y (node_there nodes n (x, y) e) in
      ⊎_elim (λ t. gate_agrees n (omega arith) h t) (λ p. absurd (let none = sym p.1 ∙ ap is_none e in cc)) has

  agrees : (n : ℕ) → n < length nodes → Has nodes marks n → Agrees nodes bad extended bits circuit n
  agrees n h has = by_node n h has (node_at nodes n) refl

  marked_node : (n : ℕ) → n < length nodes → is_marked marks n ≡ true → (x : Node) → node_at nodes n ≡ x → Satisfies extended (clauses_at nodes marks n)
  marked_node n h t None e = absurd (let some = sym (needed_only nodes bad n t) ∙ ap is_some e in cc)
  marked_node n h t (Some (x, y)) e =
      let there = node_there nodes n (x, y) e in
      let order = circuit.operands n x y there in
      let reached = needed_closed nodes bad n x y circuit e t in
      let ax = literal_agrees nodes bad extended bits circuit x (agrees x.node (omega arith) (has_it nodes marks x reached.0)) in
      let ay = literal_agrees nodes bad extended bits circuit y (agrees y.node (omega arith) (has_it nodes marks y reached.1)) in
      subst (Satisfies extended) (at_gate nodes marks n x y (signed nodes marks x) (signed nodes marks y) (variable_of nodes marks n) t there refl refl refl)
      (gate_satisfied extended (signed nodes marks x) (signed nodes marks y) (variable_of nodes marks n) (variable_positive nodes marks x.node) (variable_positive nodes marks y.node) (variable_positive nodes marks n)
      (gate_extended n h t ∙ value_gate nodes bits n x y circuit there ∙ (λ i. sym ax i && sym ay i)))

  node_satisfied : (n : ℕ) → n < length nodes → Satisfies extended (clauses_at nodes marks n)
  node_satisfied n h = ⊎_elim
      (λ t. marked_node n h t (node_at nodes n) refl)
      (λ f. subst (Satisfies extended) (ap (λ b. cond b (node_clauses nodes marks n (node_at nodes n)) []) (sym f)) (All-nil (SatisfiesClause extended)))
      (cases_Bool (is_marked marks n))

  one_is_true : 0 < constants_and_inputs nodes → extended 1 ≡ true
  one_is_true h = low 1 h

  below_satisfied : (n : ℕ) → n ≤ length nodes → 0 < constants_and_inputs nodes → Satisfies extended (clauses_below nodes marks n)
  below_satisfied zero h p = All-cons (SatisfiesClause extended) (pos 1 ∷ []) [] (0, pos 1, omega arith, refl, one_is_true p) (All-nil (SatisfiesClause extended))
  below_satisfied (suc n) h p = All-append (SatisfiesClause extended) (clauses_below nodes marks n) (clauses_at nodes marks n) (below_satisfied n (omega arith) p) (node_satisfied n (omega arith))

  pub can_satisfy : bad.node < length nodes → lit_value nodes bits bad ≡ true → CanSatisfy (clause_list nodes bad) (input_count nodes) bits
  unfolding lit_value clause_list
  can_satisfy h t =
      let first = count_below is_none nodes 0 None (omega arith) (ap is_none (get_or_from_slice_get nodes 0 None None circuit.constant)) in
      let last = literal_agrees nodes bad extended bits circuit bad (agrees bad.node h (has_it nodes marks bad (needed_itself nodes bad h))) ∙ t in
      record {
        assignment = extended;
        inputs_have = inputs_kept;
        satisfies = All-append (SatisfiesClause extended) (clauses_below nodes marks (length nodes)) ((literal (signed nodes marks bad) ∷ []) ∷ []) (below_satisfied (length nodes) (omega arith) (omega arith))
            (All-cons (SatisfiesClause extended) (literal (signed nodes marks bad) ∷ []) [] (0, literal (signed nodes marks bad), omega arith, refl, last) (All-nil (SatisfiesClause extended)));
      }
