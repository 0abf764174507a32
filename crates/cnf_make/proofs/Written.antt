-- The clauses as they are written.
use Rattle.std.proofs.Common.{◌≡◌, ℕ, ◌+◌, ◌<◌, ◌≤◌, ℤ, pos, Bool, true, cond, List, [], ◌∷◌, ◌++◌, length, take, Some, None, sym, ap, ◌∙◌, arith, ⊎_elim, append_assoc, add-one}
use Rattle.std.specs.Prelude.{slice_get, nat_lt}
use Rattle.std.proofs.lemmas.Bool.{cases_Bool, ltb-true, ltb-false}
use Rattle.std.proofs.lemmas.List.{append-nil, take_all}
use Rattle.std.proofs.lemmas.Option.{get_or_from_slice_get}
use Rattle.aig_build.specs.declared.lits.Lit.{Lit}
use Rattle.aig_build.specs.Circuits.{Node}
use Rattle.cnf_make.specs.Needed.{node_at, is_marked, needed}
use Rattle.cnf_make.specs.Tseitin.{Signed, literal, opposite, signed, variable_of, gate_clauses, node_clauses, clauses_at, clauses_below, clause_list, variable_count, constants_and_inputs, marked_count}

pushed_three : {A : Type 0} (old w1 w2 w3 : List A) (x y z : A) → w1 ≡ old ++ x ∷ [] → w2 ≡ w1 ++ y ∷ [] → w3 ≡ w2 ++ z ∷ [] → w3 ≡ old ++ x ∷ y ∷ z ∷ []
pushed_three old w1 w2 w3 x y z e f g =
    g ∙ ap (λ w. w ++ z ∷ []) (f ∙ ap (λ w. w ++ y ∷ []) e ∙ append_assoc old (x ∷ []) (y ∷ [])) ∙ append_assoc old (x ∷ y ∷ []) (z ∷ [])

module _ (old w1 w2 w3 : List (List ℤ)) (a b : Signed) (g : ℕ) (la lb ng na nb pg : ℤ)
    (is_a : la ≡ literal a) (is_b : lb ≡ literal b) (is_ng : ng ≡ literal (g, true)) (is_na : na ≡ literal (opposite a)) (is_nb : nb ≡ literal (opposite b)) (is_pg : pg ≡ pos g)
    (first : w1 ≡ old ++ (la ∷ ng ∷ []) ∷ []) (second : w2 ≡ w1 ++ (lb ∷ ng ∷ []) ∷ []) where
  abbrev third : (t : Bool) → List ℤ
  third t = cond t (literal (opposite a) ∷ literal (opposite b) ∷ []) (literal (opposite b) ∷ literal (opposite a) ∷ []) ++ pos g ∷ []

  abbrev whole : (t : Bool) → List (List ℤ)
  whole t = (literal a ∷ literal (g, true) ∷ []) ∷ (literal b ∷ literal (g, true) ∷ []) ∷ third t ∷ []

  pub written_less : a.0 < b.0 → w3 ≡ w2 ++ (na ∷ nb ∷ pg ∷ []) ∷ [] → w3 ≡ old ++ gate_clauses a b g
  written_less h e = ⊎_elim
      (λ t. pushed_three old w1 w2 w3 _ _ _ first second e ∙ (λ i. old ++ (is_a i ∷ is_ng i ∷ []) ∷ (is_b i ∷ is_ng i ∷ []) ∷ (is_na i ∷ is_nb i ∷ is_pg i ∷ []) ∷ []) ∙ ap (λ u. old ++ whole u) (sym t))
      (λ f. absurd (let le = ltb-false a.0 b.0 f in omega arith))
      (cases_Bool (nat_lt a.0 b.0))

  pub written_more : b.0 ≤ a.0 → w3 ≡ w2 ++ (nb ∷ na ∷ pg ∷ []) ∷ [] → w3 ≡ old ++ gate_clauses a b g
  written_more h e = ⊎_elim
      (λ t. absurd (let less = ltb-true a.0 b.0 t in omega arith))
      (λ f. pushed_three old w1 w2 w3 _ _ _ first second e ∙ (λ i. old ++ (is_a i ∷ is_ng i ∷ []) ∷ (is_b i ∷ is_ng i ∷ []) ∷ (is_nb i ∷ is_na i ∷ is_pg i ∷ []) ∷ []) ∙ ap (λ u. old ++ whole u) (sym f))
      (cases_Bool (nat_lt a.0 b.0))

module _ (nodes : List Node) (marks : List Bool) (n : ℕ) where
  pub at_gate : (x y : Lit) (first second : Signed) (v : ℕ) → is_marked marks n ≡ true → slice_get nodes n ≡ Some (Some (x, y)) → first ≡ signed nodes marks x → second ≡ signed nodes marks y → v ≡ variable_of nodes marks n
      → gate_clauses first second v ≡ clauses_at nodes marks n
  at_gate x y first second v t g f s e =
      (λ i. gate_clauses (f i) (s i) (e i))
      ∙ sym (ap (λ b. cond b (node_clauses nodes marks n (node_at nodes n)) []) t ∙ ap (node_clauses nodes marks n) (get_or_from_slice_get nodes n (Some (x, y)) None g))

  pub at_other : (old : List (List ℤ)) → is_marked marks n ≡ true → slice_get nodes n ≡ Some None → old ≡ old ++ clauses_at nodes marks n
  at_other old t g =
      sym (append-nil old)
      ∙ ap (λ cs. old ++ cs) (sym (ap (λ b. cond b (node_clauses nodes marks n (node_at nodes n)) []) t ∙ ap (node_clauses nodes marks n) (get_or_from_slice_get nodes n None None g)))

  pub below_more : clauses_below nodes marks n ++ clauses_at nodes marks n ≡ clauses_below nodes marks (n + 1)
  below_more = ap (clauses_below nodes marks) (sym (add-one n))

module _ (nodes : List Node) (bad : Lit) (marks : List Bool) (n : ℕ) (is_needed : marks ≡ needed nodes bad) (all : n ≡ length nodes) where
  pub listed : (before after : List (List ℤ)) (l : ℤ) (s : Signed) → before ≡ clauses_below nodes marks n → s ≡ signed nodes marks bad → l ≡ literal s → after ≡ before ++ (l ∷ []) ∷ [] → after ≡ clause_list nodes bad
  unfolding clause_list
  listed before after l s b e m w =
      let last = m ∙ ap literal e in
      w ∙ (λ i. b i ++ (last i ∷ []) ∷ []) ∙ (λ i. clauses_below nodes (is_needed i) (all i) ++ (literal (signed nodes (is_needed i) bad) ∷ []) ∷ [])

  pub counted : (v : ℕ) → length marks ≡ length nodes → v ≡ constants_and_inputs nodes + marked_count (take n marks) → v ≡ variable_count nodes bad
  unfolding variable_count
  counted v size e =
      let long : length marks ≤ n = omega arith in
      e ∙ ap (λ ms. constants_and_inputs nodes + marked_count ms) (take_all n marks long ∙ is_needed)
