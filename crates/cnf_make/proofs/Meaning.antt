-- A satisfying assignment gives the inputs bits under which the literal is true.
use Rattle.std.proofs.Common.{◌≡◌, ℕ, zero, suc, ◌+◌, ◌-◌, ◌<◌, ℤ, pos, Bool, true, false, not, ◌&&◌, cond, List, [], ◌∷◌, ◌++◌, length, take, drop, get_or, Some, None, refl, sym, ap, ◌∙◌, arith, ◌⊎◌, inl, inr, ⊎_elim, subst, length-take, length-append}
use Rattle.std.specs.Prelude.{All, count_by, is_none, is_some, slice_get, nat_lt, ◌==◌}
use Rattle.std.proofs.lemmas.Bool.{cases_Bool, eqb-true}
use Rattle.std.proofs.lemmas.List.{get_or_append_left, get_or_push, length_push}
use Rattle.std.proofs.lemmas.List.Elements.{All-tail}
use Rattle.std.proofs.lemmas.Option.{slice_get-get_or, get_or_from_slice_get}
use Rattle.aig_build.specs.declared.lits.Lit.{Lit}
use Rattle.aig_build.specs.Built.{node_lit}
use Rattle.aig_build.specs.Circuits.{Node, IsCircuit, Progress, negate_if, value_among, progress, lit_value, input_count}
use Rattle.aig_build.proofs.Nodes.{progress_push, split_at, value_kept, values_length, taken_is}
use Rattle.aig_build.proofs.Gates.{gate_value}
use Rattle.clause_db.specs.Assignment.{truth_under, SatisfiesClause, Satisfies}
use Rattle.cnf_make.specs.Inputs.{input_bits}
use Rattle.cnf_make.specs.Needed.{node_at, is_marked, needed}
use Rattle.cnf_make.specs.Tseitin.{Signed, literal, opposite, signed, variable_of, gate_clauses, clauses_at, clauses_below, clause_list}
use Rattle.cnf_make.proofs.Gates.{needed_only}
use Rattle.cnf_make.proofs.Marks.{needed_closed, needed_itself, node_there, below_or_here}
use Rattle.cnf_make.proofs.Written.{at_gate}
use Rattle.cnf_make.proofs.Variables.{Has, has_it, variable_no, variable_positive, count_strict, count_below}

All-left : {A : Type 0} (P : A → Type 0) (xs ys : List A) → All P (xs ++ ys) → All P xs
All-left P xs ys h k d lt = subst P (get_or_append_left xs ys d k lt) (h k d (omega (arith, length-append xs ys)))

All-right : {A : Type 0} (P : A → Type 0) (xs ys : List A) → All P (xs ++ ys) → All P ys
All-right P [] ys h = h
All-right P (x ∷ xs) ys h = All-right P xs ys (All-tail P x (xs ++ ys) h)

module _ (v : ℕ → Bool) where
  one_of_two : (x y : ℤ) → SatisfiesClause v (x ∷ y ∷ []) → (truth_under v x ≡ true) ⊎ (truth_under v y ≡ true)
  one_of_two x y (zero, l, h, e, t) = inl (ap (truth_under v) e ∙ t)
  one_of_two x y (suc zero, l, h, e, t) = inr (ap (truth_under v) e ∙ t)
  one_of_two x y (suc (suc k), l, h, e, t) = absurd (omega arith)

  one_of_three : (x y z : ℤ) → SatisfiesClause v (x ∷ y ∷ z ∷ []) → (truth_under v x ≡ true) ⊎ ((truth_under v y ≡ true) ⊎ (truth_under v z ≡ true))
  one_of_three x y z (zero, l, h, e, t) = inl (ap (truth_under v) e ∙ t)
  one_of_three x y z (suc zero, l, h, e, t) = inr (inl (ap (truth_under v) e ∙ t))
  one_of_three x y z (suc (suc zero), l, h, e, t) = inr (inr (ap (truth_under v) e ∙ t))
  one_of_three x y z (suc (suc (suc k)), l, h, e, t) = absurd (omega arith)

  only_one : (x : ℤ) → SatisfiesClause v (x ∷ []) → truth_under v x ≡ true
  only_one x (zero, l, h, e, t) = ap (truth_under v) e ∙ t
  only_one x (suc k, l, h, e, t) = absurd (omega arith)

  pub truth_literal : (n : ℕ) (s : Bool) → 0 < n → truth_under v (literal (n, s)) ≡ negate_if s (v n)
  truth_literal zero s h = absurd (omega arith)
  truth_literal (suc n) false h = refl
  truth_literal (suc n) true h = refl

  pub truth_opposite : (n : ℕ) (s : Bool) → 0 < n → truth_under v (literal (n, not s)) ≡ not (truth_under v (literal (n, s)))
  truth_opposite zero s h = absurd (omega arith)
  truth_opposite (suc n) false h = refl
  truth_opposite (suc n) true h = twice (v (suc n)) where
    twice : (b : Bool) → b ≡ not (not b)
    twice true = refl
    twice false = refl

  conjunction : (x y g : Bool) → (x ≡ true) ⊎ (not g ≡ true) → (y ≡ true) ⊎ (not g ≡ true) → (not x ≡ true) ⊎ ((not y ≡ true) ⊎ (g ≡ true)) → g ≡ (x && y)
  conjunction true true true p q r = refl
  conjunction true true false p q r = ⊎_elim (λ e. cc) (λ s. ⊎_elim (λ e. cc) (λ e. e) s) r
  conjunction true false true p q r = ⊎_elim (λ e. cc) (λ e. cc) q
  conjunction true false false p q r = refl
  conjunction false y true p q r = ⊎_elim (λ e. cc) (λ e. cc) p
  conjunction false y false p q r = refl

  swapped : (x y z : ℤ) → (truth_under v y ≡ true) ⊎ ((truth_under v x ≡ true) ⊎ (truth_under v z ≡ true)) → (truth_under v x ≡ true) ⊎ ((truth_under v y ≡ true) ⊎ (truth_under v z ≡ true))
  swapped x y z h = ⊎_elim (λ e. inr (inl e)) (λ s. ⊎_elim inl (λ e. inr (inr e)) s) h

  third : (t : Bool) (x y g : ℤ) → SatisfiesClause v (cond t (x ∷ y ∷ []) (y ∷ x ∷ []) ++ g ∷ []) → (truth_under v x ≡ true) ⊎ ((truth_under v y ≡ true) ⊎ (truth_under v g ≡ true))
  third true x y g h = one_of_three x y g h
  third false x y g h = swapped x y g (one_of_three y x g h)

  pub gate_meaning : (a b : Signed) (g : ℕ) → 0 < a.0 → 0 < b.0 → 0 < g → Satisfies v (gate_clauses a b g) → v g ≡ (truth_under v (literal a) && truth_under v (literal b))
  gate_meaning a b g ha hb hg all =
      let c1 = one_of_two (literal a) (literal (g, true)) (all 0 [] (omega arith)) in
      let c2 = one_of_two (literal b) (literal (g, true)) (all 1 [] (omega arith)) in
      let c3 = third (nat_lt a.0 b.0) (literal (opposite a)) (literal (opposite b)) (pos g) (all 2 [] (omega arith)) in
      let not_g = truth_literal g true hg in
      let not_a = truth_opposite a.0 a.1 ha in
      let not_b = truth_opposite b.0 b.1 hb in
      conjunction (truth_under v (literal a)) (truth_under v (literal b)) (v g)
      (⊎_elim inl (λ e. inr (sym not_g ∙ e)) c1)
      (⊎_elim inl (λ e. inr (sym not_g ∙ e)) c2)
      (⊎_elim (λ e. inl (sym not_a ∙ e)) (λ s. ⊎_elim (λ e. inr (inl (sym not_b ∙ e))) (λ e. inr (inr e)) s) c3)

pub bits_length : (n : ℕ) (v : ℕ → Bool) → length (input_bits n v) ≡ n
bits_length zero v = refl
bits_length (suc n) v = length_push (input_bits n v) (v (n + 2)) ∙ (let e = bits_length n v in omega arith)

pub bits_at : (n : ℕ) (v : ℕ → Bool) (k : ℕ) → k < n → get_or (input_bits n v) k false ≡ v (k + 2)
bits_at zero v k h = absurd (omega arith)
bits_at (suc n) v k h = ⊎_elim
    (λ less. get_or_append_left (input_bits n v) (v (n + 2) ∷ []) false k (omega (arith, bits_length n v)) ∙ bits_at n v k less)
    (λ same. get_or_push (input_bits n v) (v (n + 2)) false k (bits_length n v ∙ sym same) ∙ ap (λ j. v (j + 2)) (sym same))
    (below_or_here k n h)

-- the value of a gate, and of a node that is none
module _ (nodes : List Node) (bits : List Bool) where
  pub value_gate : (n : ℕ) (x y : Lit) → IsCircuit nodes → slice_get nodes n ≡ Some (Some (x, y)) → get_or (progress nodes bits).values n false ≡ (value_among (progress nodes bits).values x && value_among (progress nodes bits).values y)
  unfolding lit_value
  value_gate n x y circuit e = gate_value nodes n x y bits circuit e

  pub value_none : (n : ℕ) → n < length nodes → slice_get nodes n ≡ Some None → get_or (progress nodes bits).values n false ≡ get_or (false ∷ bits) (count_by is_none (take n nodes)) false
  value_none n h e =
      let before = take n nodes in
      let long : length before ≡ n = simp length-take (omega arith) in
      ap (λ ns. get_or (progress ns bits).values n false) (split_at nodes n None e)
      ∙ value_kept (before ++ None ∷ []) (drop (n + 1) nodes) bits (node_lit n) (omega (arith, length_push before None))
      ∙ ap (λ (s : Progress). get_or s.values n false) (progress_push before None bits)
      ∙ get_or_push (progress before bits).values _ false n (values_length before bits ∙ long)
      ∙ ap (λ k. get_or (false ∷ bits) k false) (taken_is before bits)

negated_twice : (z s b : Bool) → negate_if (negate_if z s) (negate_if z b) ≡ negate_if s b
negated_twice false s b = refl
negated_twice true false false = refl
negated_twice true false true = refl
negated_twice true true false = refl
negated_twice true true true = refl

pub not_zero : (n : ℕ) → 0 < n → (n == 0) ≡ false
not_zero n h = ⊎_elim (λ t. absurd (let e = eqb-true n 0 t in omega arith)) (λ f. f) (cases_Bool (n == 0))

module _ (nodes : List Node) (bad : Lit) (v : ℕ → Bool) (bits : List Bool) (circuit : IsCircuit nodes) where
  abbrev pub marks : List Bool
  marks = needed nodes bad

  abbrev pub values : List Bool
  values = (progress nodes bits).values

  from_first : (n : ℕ) → Satisfies v (clauses_below nodes marks n) → v 1 ≡ true
  from_first zero all = only_one v (pos 1) (all 0 [] (omega arith))
  from_first (suc n) all = from_first n (All-left (SatisfiesClause v) (clauses_below nodes marks n) (clauses_at nodes marks n) all)

  from_node : (k n : ℕ) → n < k → Satisfies v (clauses_below nodes marks k) → Satisfies v (clauses_at nodes marks n)
  from_node zero n h all = absurd (omega arith)
  from_node (suc k) n h all = ⊎_elim
      (λ less. from_node k n less (All-left (SatisfiesClause v) (clauses_below nodes marks k) (clauses_at nodes marks k) all))
      (λ same. subst (λ j. Satisfies v (clauses_at nodes marks j)) (sym same) (All-right (SatisfiesClause v) (clauses_below nodes marks k) (clauses_at nodes marks k) all))
      (below_or_here n k h)

  -- the variable of a node has the node's value, and that of the constant has its negation
  abbrev pub Agrees : ℕ → Type 0
  Agrees n = v (variable_of nodes marks n) ≡ negate_if (n == 0) (get_or values n false)

  pub literal_agrees : (x : Lit) → Agrees x.node → truth_under v (literal (signed nodes marks x)) ≡ value_among values x
  literal_agrees x e =
      truth_literal v (variable_of nodes marks x.node) (negate_if (x.node == 0) x.negated) (variable_positive nodes marks x.node)
      ∙ ap (negate_if (negate_if (x.node == 0) x.negated)) e
      ∙ negated_twice (x.node == 0) x.negated (get_or values x.node false)

  -- the bits are the values of the inputs' variables
  abbrev Gives : Type 0
  Gives = (k : ℕ) → k < input_count nodes → get_or bits k false ≡ v (k + 2)

  other_agrees : (n : ℕ) → Gives → v 1 ≡ true → n < length nodes → slice_get nodes n ≡ Some None → is_marked marks n ≡ false → Agrees n
  other_agrees zero given one h e f = ap v (variable_no nodes marks 0 f) ∙ one ∙ sym (ap not (value_none nodes bits 0 h e))
  other_agrees (suc m) given one h e f =
      let count = count_by is_none (take (suc m) nodes) in
      let first = count_strict is_none nodes 0 (suc m) None (omega arith) (omega arith) (ap is_none (get_or_from_slice_get nodes 0 None None circuit.constant)) in
      let below = count_below is_none nodes (suc m) None h (ap is_none (get_or_from_slice_get nodes (suc m) None None e)) in
      let is : count ≡ suc (count - 1) = omega arith in
      let within : count - 1 < input_count nodes = omega arith in
      let place : count + 1 ≡ count - 1 + 2 = omega arith in
      ap v (variable_no nodes marks (suc m) f ∙ place) ∙ sym (value_none nodes bits (suc m) h e ∙ ap (λ k. get_or (false ∷ bits) k false) is ∙ given (count - 1) within)
      ∙ ap (λ b. negate_if b (get_or values (suc m) false)) (sym (not_zero (suc m) (omega arith)))

  module _ (given : Gives) (all : Satisfies v (clauses_below nodes marks (length nodes))) where
    gate_agrees : (n : ℕ) (x y : Lit) → n < length nodes → slice_get nodes n ≡ Some (Some (x, y)) → is_marked marks n ≡ true → Agrees x.node → Agrees y.node → Agrees n
    gate_agrees n x y h e t ax ay =
        let order = circuit.operands n x y e in
        let here = at_gate nodes marks n x y (signed nodes marks x) (signed nodes marks y) (variable_of nodes marks n) t e refl refl refl in
        gate_meaning v (signed nodes marks x) (signed nodes marks y) (variable_of nodes marks n) (variable_positive nodes marks x.node) (variable_positive nodes marks y.node) (variable_positive nodes marks n)
        (subst (Satisfies v) (sym here) (from_node (length nodes) n h all))
        ∙ (λ i. literal_agrees x ax i && literal_agrees y ay i)
        ∙ sym (value_gate nodes bits n x y circuit e)
        ∙ ap (λ b. negate_if b (get_or values n false)) (sym (not_zero n (omega arith)))

    none_agrees : (n : ℕ) → n < length nodes → node_at nodes n ≡ None → Agrees n
    none_agrees n h e = ⊎_elim
        (λ t. absurd (let some = sym (needed_only nodes bad n t) ∙ ap is_some e in cc))
        (λ f. other_agrees n given (from_first (length nodes) all) h (slice_get-get_or nodes n None h ∙ ap Some e) f)
        (cases_Bool (is_marked marks n))

    is_gate_marked : (n : ℕ) (g : Lit × Lit) → node_at nodes n ≡ Some g → Has nodes marks n → is_marked marks n ≡ true
    is_gate_marked n g e has = ⊎_elim (λ t. t) (λ p. absurd (let none = sym p.1 ∙ ap is_none e in cc)) has

    by_node : (n : ℕ) → ((m : ℕ) → m < n → m < length nodes → Has nodes marks m → Agrees m) → n < length nodes → Has nodes marks n → (x : Node) → node_at nodes n ≡ x → Agrees n
    by_node n earlier w has None e = none_agrees n w e
    by_node n earlier w has (Some (x, y)) e =
        let there = node_there nodes n (x, y) e in
        let order = circuit.operands n x y there in
        let t = is_gate_marked n (x, y) e has in
        let reached = needed_closed nodes bad n x y circuit e t in
        gate_agrees n x y w there t
        (earlier x.node (omega arith) (omega arith) (has_it nodes marks x reached.0))
        (earlier y.node (omega arith) (omega arith) (has_it nodes marks y reached.1))

    agrees : (k n : ℕ) → n < k → n < length nodes → Has nodes marks n → Agrees n
    agrees zero n h w has = absurd (omega arith)
    agrees (suc k) n h w has = by_node n (λ m less. agrees k m (omega arith)) w has (node_at nodes n) refl

  makes_true_under : Gives → bad.node < length nodes → Satisfies v (clause_list nodes bad) → lit_value nodes bits bad ≡ true
  unfolding lit_value clause_list
  makes_true_under given h all =
      let below = All-left (SatisfiesClause v) (clauses_below nodes marks (length nodes)) ((literal (signed nodes marks bad) ∷ []) ∷ []) all in
      let last = All-right (SatisfiesClause v) (clauses_below nodes marks (length nodes)) ((literal (signed nodes marks bad) ∷ []) ∷ []) all in
      sym (literal_agrees bad (agrees given below (suc bad.node) bad.node (omega arith) h (has_it nodes marks bad (needed_itself nodes bad h))))
      ∙ only_one v (literal (signed nodes marks bad)) (last 0 [] (omega arith))

-- the bits that a satisfying assignment gives to the inputs make the literal true
pub makes_true : (nodes : List Node) (bad : Lit) (v : ℕ → Bool) → IsCircuit nodes → bad.node < length nodes → Satisfies v (clause_list nodes bad) → lit_value nodes (input_bits (input_count nodes) v) bad ≡ true
makes_true nodes bad v circuit h all = makes_true_under nodes bad v (input_bits (input_count nodes) v) circuit (bits_at (input_count nodes) v) h all
